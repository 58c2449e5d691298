-- A walk over the syllables of a buffer.
use Rattle.std.proofs.Common.{ℕ, ◌≡◌, ◌≤◌, ◌<◌, ◌+◌, ◌-◌, List, length, drop, refl, sym, ap, subst, ◌∙◌, arith}
use Rattle.std.specs.Prelude.{slice_range}
use Rattle.std.proofs.lemmas.List.{length-take-le, length-drop, drop_all}
use Rattle.buffer_glyphs.specs.declared.info.hb_glyph_info_t.{hb_glyph_info_t}
use Rattle.buffer_glyphs.specs.Items.{Item}
use Rattle.buffer_core.specs.Readings.{always}
use Rattle.buffer_lists.specs.Runs.{run_length}
use Rattle.buffer_core.specs.Sides.{Sides, all_glyphs, items_of}
use Rattle.buffer_stages.specs.Ready.{IsReady}
use Rattle.buffer_stages.specs.Stages.{IsFollowed}
use Rattle.buffer_glyphs.specs.Rewriting.{Arrangement, beside}
use Rattle.buffer_stages.specs.Rewriting.{each_rewritten, by_syllable}
use Rattle.buffer_stages.specs.SyllableBuffers.{IsRewritten, with_rule}
use Rattle.buffer_stages.specs.Lemmas.Rewritings.{items_after, rewritten_beside, rewritten_count, rewritten_follows, rewritten_nothing, counted}
use Rattle.buffer_stages.proofs.Lemmas.Syllables.{syllable_end, syllables_cut}
use Rattle.buffer_stages.specs.Lemmas.Fronted.{part_of as middle}

-- the syllables before an index were rewritten: whatever the others become, all become
pub record IsUnderway (rule : List Item → Arrangement) (start : ℕ) (old now : Sides) : Type 0 where
  pub ready : IsReady now
  pub count : length (all_glyphs now) ≡ length (all_glyphs old)
  pub does : (new : Sides) → IsRewritten (by_syllable rule (drop start (items_of now))) start (length (all_glyphs old)) now new
      → IsRewritten (by_syllable rule (items_of old)) 0 (length (all_glyphs old)) old new

pub begun : (rule : List Item → Arrangement) (s : Sides) → IsReady s → IsUnderway rule 0 s s
begun rule s ready = record { ready = ready; count = refl; does = λ new f. f }

next_syllable : (rule : List Item → Arrangement) (start end : ℕ) (s : Sides) → start < length (all_glyphs s) → end ≡ start + run_length (λ (g : hb_glyph_info_t). g.syllable) (drop start (all_glyphs s))
    → by_syllable rule (drop start (items_of s)) ≡ beside (rule (slice_range (items_of s) start end)) (by_syllable rule (drop end (items_of s)))
next_syllable rule start end s lt e = ap (each_rewritten rule) (syllables_cut start end s lt e)

-- one syllable more
pub walked : (rule : List Item → Arrangement) → ((xs : List Item) → length (rule xs).items ≡ length xs) → (start end : ℕ) (old now next : Sides) → IsUnderway rule start old now → start < length (all_glyphs now)
    → end ≡ start + run_length (λ (g : hb_glyph_info_t). g.syllable) (drop start (all_glyphs now)) → IsRewritten (rule (slice_range (items_of now) start end)) start end now next → IsUnderway rule end old next
walked rule keeps start end old now next u lt e f =
    let w = syllable_end start end now lt e in
    let r = rule (slice_range (items_of now) start end) in
    let n = counted now in
    let inside : end ≤ length (items_of now) = omega (arith, n, w.1) in
    let le : start ≤ end = omega (arith, w.0) in
    let size : length r.items ≡ end - start = keeps (slice_range (items_of now) start end) ∙ length-take-le (end - start) (drop start (items_of now)) (omega (arith, length-drop start (items_of now), n, w.0, w.1)) in
    let same : drop end (items_of next) ≡ drop end (items_of now) = ap (drop end) (items_after r start end now next f) ∙ (middle start end (items_of now) r.items le inside size).1 in
    let whole = length (all_glyphs old) in
    let count = u.count in
    record {
      ready = f.ready;
      count = rewritten_count r start end now next le inside size f ∙ u.count;
      does = λ new g.
          let P : List Item → Type 0 = λ ys. IsRewritten (by_syllable rule ys) end whole next new in
          let Q : Arrangement → Type 0 = λ q. IsRewritten q start whole now new in
          u.does new (subst Q (sym (next_syllable rule start end now lt e)) (rewritten_beside r (by_syllable rule (drop end (items_of now))) start end whole now next new le inside size (omega (arith, count, w.1)) f (subst P same g)));
    }

-- at the end
pub all_walked : (rule : List Item → Arrangement) (start : ℕ) (old now : Sides) → IsUnderway rule start old now → length (all_glyphs old) ≤ start → IsFollowed (always (with_rule (by_syllable rule))) old now
all_walked rule start old now u le =
    let n = counted now in
    let count = u.count in
    let past : length (items_of now) ≤ start = omega (arith, n, count, le) in
    let P : List Item → Type 0 = λ ys. IsRewritten (by_syllable rule ys) start (length (all_glyphs old)) now now in
    rewritten_follows (by_syllable rule) old now (u.does now (subst P (sym (drop_all start (items_of now) past)) (rewritten_nothing start (length (all_glyphs old)) now u.ready past (omega (arith, n, count)))))
