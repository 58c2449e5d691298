-- The syllable of a buffer that begins at an index.
use Rattle.std.proofs.Common.{ℕ, ◌≡◌, ◌≤◌, ◌<◌, ◌+◌, ◌-◌, ◌∷◌, length, take, drop, sym, ap, ◌∙◌, arith}
use Rattle.std.specs.Prelude.{slice_range}
use Rattle.std.proofs.lemmas.List.{length-drop, drop-drop, drop-map}
use Rattle.buffer_glyphs.specs.declared.info.hb_glyph_info_t.{hb_glyph_info_t}
use Rattle.buffer_glyphs.specs.Items.{Item, item_of, strip}
use Rattle.buffer_lists.specs.Runs.{run_length}
use Rattle.buffer_core.specs.Sides.{Sides, all_glyphs, items_of}
use Rattle.buffer_stages.specs.Rewriting.{in_syllables}
use Rattle.buffer_stages.proofs.Lemmas.Cuts.{seen_length, first_cut, run_within}
use Rattle.buffer_stages.specs.Lemmas.Rewritings.{counted}

left : (start : ℕ) (s : Sides) → drop start (items_of s) ≡ strip (drop start (all_glyphs s))
left start s = drop-map item_of start (all_glyphs s)

-- where the syllable at an index ends
pub syllable_end : (start end : ℕ) (s : Sides) → start < length (all_glyphs s) → end ≡ start + run_length (λ (g : hb_glyph_info_t). g.syllable) (drop start (all_glyphs s))
    → (start < end) × (end ≤ length (all_glyphs s))
syllable_end start end s lt e =
    let n = length-drop start (all_glyphs s) in
    let w = run_within (λ (g : hb_glyph_info_t). g.syllable) (drop start (all_glyphs s)) (omega (arith, lt, n)) in
    (omega (arith, e, w.0), omega (arith, e, w.1, n, lt))

-- it is the first of those from the index on
pub syllables_cut : (start end : ℕ) (s : Sides) → start < length (all_glyphs s) → end ≡ start + run_length (λ (g : hb_glyph_info_t). g.syllable) (drop start (all_glyphs s))
    → in_syllables (drop start (items_of s)) ≡ slice_range (items_of s) start end ∷ in_syllables (drop end (items_of s))
syllables_cut start end s lt e =
    let xs = drop start (items_of s) in
    let n = run_length (λ (x : Item). x.syllable) xs in
    let len : length xs ≡ length (all_glyphs s) - start = length-drop start (items_of s) ∙ ap (λ m. m - start) (counted s) in
    let same : end ≡ start + n = e ∙ ap (λ m. start + m) (seen_length (λ (x : Item). x.syllable) item_of (drop start (all_glyphs s)) ∙ ap (run_length (λ (x : Item). x.syllable)) (sym (left start s))) in
    let size : n ≡ end - start = omega (arith, same) in
    first_cut (λ (x : Item). x.syllable) xs (omega (arith, len, lt))
    ∙ ap (λ ys. ys ∷ in_syllables (drop n xs)) (ap (λ m. take m xs) size)
    ∙ ap (λ ys. slice_range (items_of s) start end ∷ in_syllables ys) (drop-drop n start (items_of s) ∙ ap (λ m. drop m (items_of s)) (sym same))
