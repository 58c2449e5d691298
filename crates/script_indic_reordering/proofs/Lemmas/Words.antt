-- Left matras that begin words, one glyph after another.
use Rattle.std.proofs.Common.{ℕ, ◌≡◌, ◌<◌, ◌+◌, ◌-◌, ◌==◌, Bool, true, false, if◌then◌else◌, List, [], ◌∷◌, length, take, drop, get_or, set, Option, Some, None, refl, sym, ap, subst, ◌∙◌, arith}
use Rattle.std.specs.Prelude.{slice_range}
use Rattle.std.proofs.lemmas.List.{length-map, take_all}
use Rattle.std.specs.Int.Bits.{or_zero_r}
use Rattle.buffer_glyphs.specs.declared.info.hb_glyph_info_t.{hb_glyph_info_t}
use Rattle.buffer_glyphs.specs.Items.{Item, item_of, strip}
use Rattle.buffer_glyphs.specs.Origins.{origin_of}
use Rattle.buffer_glyphs.specs.Rewriting.{eventless_arrangement}
use Rattle.buffer_core.specs.Sides.{Sides, all_glyphs, items_of}
use Rattle.buffer_stages.specs.Parts.{item_with_features}
use Rattle.buffer_stages.specs.Ready.{IsReady}
use Rattle.buffer_stages.specs.SyllableBuffers.{IsRewritten}
use Rattle.buffer_stages.specs.Lemmas.Rewritings.{rewritten_same}
use Rattle.buffer_stages.proofs.Lemmas.Made.{AreWritten, next_written}
use Rattle.script_categories.specs.declared.shaper.hb_ot_script_shaper_t.TheVariants.{INDIC_SHAPER}
use Rattle.script_categories.specs.Shapers.{is_reordered}
use Rattle.script_indic_reordering.specs.Final.{begins_word, word_events, words_begun}

pub word_next : (is_reordered : ℕ → Bool) (bits : ℕ) (before : Option Item) (i : ℕ) (all : List Item) (old now : List hb_glyph_info_t) (d h : hb_glyph_info_t) → i < length now → AreWritten (words_begun is_reordered bits before) i all old now
    → item_of h ≡ (if begins_word is_reordered before (item_of (get_or now i d)) then item_with_features bits (item_of (get_or now i d)) else item_of (get_or now i d)) → origin_of h ≡ origin_of (get_or now i d)
    → AreWritten (words_begun is_reordered bits (Some (item_of (get_or now i d)))) (i + 1) all old (set now i h)
word_next is_reordered bits before i all old now d h lt u e f =
    let x = item_of (get_or now i d) in
    let rest = words_begun is_reordered bits (Some x) (strip (drop (i + 1) now)) in
    next_written (words_begun is_reordered bits before) (words_begun is_reordered bits (Some x)) i all old now d h lt u (ap (λ y. y ∷ rest) (sym e)) f

-- ---- no features

words_same : (is_reordered : ℕ → Bool) (before : Option Item) (xs : List Item) → words_begun is_reordered 0 before xs ≡ xs
words_same is_reordered before [] = refl
words_same is_reordered before (x ∷ xs) = ap (λ y. y ∷ words_begun is_reordered 0 (Some x) xs) (kept (begins_word is_reordered before x)) ∙ ap (λ ys. x ∷ ys) (words_same is_reordered (Some x) xs)
  where
    kept : (t : Bool) → (if t then item_with_features 0 x else x) ≡ x
    kept true = ap (λ m. record x { mask = m }) (or_zero_r x.mask)
    kept false = refl

-- a mask without bits changes nothing
pub no_words : (mask : ℕ) (a : Sides) → mask ≡ 0 → IsReady a
    → IsRewritten (record { items = words_begun (is_reordered INDIC_SHAPER) mask None (items_of a); events = if mask == 0 then [] else word_events (is_reordered INDIC_SHAPER) None 0 (items_of a) }) 0 (length (all_glyphs a)) a a
no_words mask a e ready =
    let n = length (all_glyphs a) in
    let xs = items_of a in
    let m = length-map (all_glyphs a) item_of in
    let less : n - 0 ≡ n = omega arith in
    let whole : slice_range xs 0 n ≡ xs = ap (λ k. take k xs) less ∙ take_all n xs (omega (arith, m)) in
    let same : slice_range xs 0 n ≡ words_begun (is_reordered INDIC_SHAPER) mask None xs = whole ∙ sym (words_same (is_reordered INDIC_SHAPER) None xs) ∙ ap (λ k. words_begun (is_reordered INDIC_SHAPER) k None xs) (sym e) in
    let kept = subst (λ ys. IsRewritten (eventless_arrangement ys) 0 n a a) same (rewritten_same 0 n a (omega arith) ready) in
    let none : (mask == 0) ≡ true = ap (λ k. k == 0) e in
    subst (λ (t : Bool). IsRewritten (record { items = words_begun (is_reordered INDIC_SHAPER) mask None xs; events = if t then [] else word_events (is_reordered INDIC_SHAPER) None 0 xs }) 0 n a a) (sym none) kept
