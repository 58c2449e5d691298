-- Seams between syllables, flagged one after another.
use Rattle.std.proofs.Common.{ℕ, ◌≡◌, ◌≢◌, ◌≤◌, ◌<◌, ◌+◌, ◌-◌, ◌==◌, Bool, true, false, if◌then◌else◌, ne_eqb, List, [], ◌∷◌, ◌++◌, length, drop, refl, sym, ap, subst, ◌∙◌, arith, append_assoc}
use Rattle.std.specs.Prelude.{◌&&◌, slice_range}
use Rattle.std.proofs.lemmas.List.{append-nil, drop_all}
use Rattle.buffer_glyphs.specs.declared.info.hb_glyph_info_t.{hb_glyph_info_t}
use Rattle.buffer_glyphs.specs.Items.{Item}
use Rattle.buffer_glyphs.specs.Events.{Event}
use Rattle.buffer_lists.specs.Runs.{run_length}
use Rattle.buffer_core.specs.Readings.{View}
use Rattle.buffer_core.specs.Sides.{Sides, all_glyphs, items_of, requests_breaks}
use Rattle.buffer_stages.specs.Ready.{IsReady}
use Rattle.buffer_stages.specs.Stages.{Happens}
use Rattle.buffer_stages.specs.Rewriting.{in_syllables}
use Rattle.buffer_stages.specs.Lemmas.Parts.{range_size}
use Rattle.buffer_stages.specs.Lemmas.Rewritings.{counted}
use Rattle.buffer_stages.proofs.Lemmas.Happened.{both_happen, nothing_happens}
use Rattle.buffer_stages.proofs.Lemmas.Syllables.{syllable_end, syllables_cut}
use Rattle.script_syllabic.specs.declared.forms.FormMasks.{FormMasks}
use Rattle.script_syllabic.specs.Features.{all_forms, connects, seam_event, seam_events, topography_events}
use Rattle.script_syllabic.proofs.Forming.{connects_there}
use Rattle.script_syllabic.proofs.Strict.{strict_break_skipped}

-- ---- where nothing is flagged

seam_skipped : (connected : Bool) (at : ℕ) (s : Sides) → requests_breaks s ≡ false → IsReady s → Happens (seam_event connected at) s s
seam_skipped true at s e ready = strict_break_skipped (at - 1) (at + 1) s e ready
seam_skipped false at s e ready = nothing_happens s ready

pub seams_skipped : (before : Bool) (at : ℕ) (ss : List (List Item)) (s : Sides) → requests_breaks s ≡ false → IsReady s → Happens (seam_events before at ss) s s
seams_skipped before at [] s e ready = nothing_happens s ready
seams_skipped before at (x ∷ xs) s e ready =
    both_happen (seam_event (before && connects x) at) (seam_events (connects x) (at + length x) xs) s s s (seam_skipped (before && connects x) at s e ready) (seams_skipped (connects x) (at + length x) xs s e ready)

pub no_forms : (masks : FormMasks) (ss : List (List Item)) (s : Sides) → all_forms masks ≡ 0 → IsReady s → Happens (topography_events masks ss) s s
no_forms masks ss s e ready = subst (λ es. Happens es s s) (sym (ap (λ n. if n == 0 then [] else seam_events false 0 ss) e)) (nothing_happens s ready)

pub some_forms : (masks : FormMasks) (ss : List (List Item)) (s new : Sides) → all_forms masks ≢ 0 → Happens (seam_events false 0 ss) s new → Happens (topography_events masks ss) s new
some_forms masks ss s new some h = rw (ne_eqb (all_forms masks) 0 some) h

-- ---- one seam

pub not_connected : (connected : Bool) (at : ℕ) (s : Sides) → connected ≡ false → IsReady s → Happens (seam_event connected at) s s
not_connected connected at s e ready = subst (λ b. Happens (seam_event b at) s s) (sym e) (nothing_happens s ready)

-- ---- the walk

-- the seams before an index are flagged, and the others are still to come
pub record AreSeamsFlagged (from : Sides) (start : ℕ) (before : Bool) (s : Sides) : Type 0 where
  pub events : List Event
  pub happened : Happens events from s
  pub begun : before ≡ true → 0 < start
  pub rest : events ++ seam_events before start (in_syllables (drop start (items_of from))) ≡ seam_events false 0 (in_syllables (items_of from))

same_items : (from s : Sides) (start : ℕ) (before : Bool) → AreSeamsFlagged from start before s → items_of s ≡ items_of from
same_items from s start before f = ap (λ (v : View). v.items) f.happened.view

pub same_count : (from s : Sides) (start : ℕ) (before : Bool) → AreSeamsFlagged from start before s → length (all_glyphs s) ≡ length (all_glyphs from)
same_count from s start before f = sym (counted s) ∙ ap (λ (xs : List Item). length xs) (same_items from s start before f) ∙ counted from

seams_cut : (before joined : Bool) (start end : ℕ) (s : Sides) → start < length (all_glyphs s) → end ≡ start + run_length (λ (g : hb_glyph_info_t). g.syllable) (drop start (all_glyphs s))
    → joined ≡ connects (drop start (items_of s))
    → seam_events before start (in_syllables (drop start (items_of s))) ≡ seam_event (before && joined) start ++ seam_events joined end (in_syllables (drop end (items_of s)))
seams_cut before joined start end s lt e j =
    let xs = items_of s in
    let part = slice_range xs start end in
    let w = syllable_end start end s lt e in
    let n = counted s in
    let size : start + length part ≡ end = omega (arith, w.0, w.1, n, range_size start end xs (omega (arith, w.0)) (omega (arith, n, w.1))) in
    ap (seam_events before start) (syllables_cut start end s lt e)
    ∙ ap (λ b. seam_event (before && b) start ++ seam_events b (start + length part) (in_syllables (drop end xs))) (connects_there start end xs w.0 ∙ sym j)
    ∙ ap (λ k. seam_event (before && joined) start ++ seam_events joined k (in_syllables (drop end xs))) size

pub next_seam : (from s t : Sides) (start end : ℕ) (before connected joined : Bool) → start < length (all_glyphs s) → end ≡ start + run_length (λ (g : hb_glyph_info_t). g.syllable) (drop start (all_glyphs s))
    → joined ≡ connects (drop start (items_of s)) → connected ≡ (before && joined) → Happens (seam_event connected start) s t → AreSeamsFlagged from start before s → AreSeamsFlagged from end joined t
next_seam from s t start end before connected joined lt e j b h f =
    let same = same_items from s start before f in
    let w = syllable_end start end s lt e in
    let es = seam_event connected start in
    let more : List Item → List Event = λ xs. seam_events joined end (in_syllables (drop end xs)) in
    record {
      events = f.events ++ es;
      happened = both_happen f.events es from s t f.happened h;
      begun = λ yes. omega (arith, w.0);
      rest =
          append_assoc f.events es (more (items_of from))
          ∙ ap (λ fs. f.events ++ fs)
          (ap (λ xs. es ++ more xs) (sym same)
          ∙ ap (λ c. seam_event c start ++ more (items_of s)) b
          ∙ sym (seams_cut before joined start end s lt e j)
          ∙ ap (λ xs. seam_events before start (in_syllables (drop start xs))) same)
          ∙ f.rest;
    }

pub all_seams : (from s : Sides) (start : ℕ) (before : Bool) → length (all_glyphs from) ≤ start → AreSeamsFlagged from start before s → Happens (seam_events false 0 (in_syllables (items_of from))) from s
all_seams from s start before le f =
    let none : drop start (items_of from) ≡ [] = drop_all start (items_of from) (omega (arith, counted from, le)) in
    subst (λ es. Happens es from s) (sym (append-nil f.events) ∙ ap (λ xs. f.events ++ seam_events before start (in_syllables xs)) (sym none) ∙ f.rest) f.happened
