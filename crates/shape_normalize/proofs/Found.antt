-- A search for a selector in the input.
use Rattle.std.proofs.Common.{ℕ, zero, suc, ◌≡◌, ◌<◌, ◌≤◌, ◌+◌, ◌||◌, true, false, Bool, List, [], ◌∷◌, Some, length, take, drop, sym, ap, ◌∙◌, arith, add-one}
use Rattle.std.specs.Prelude.{slice_get}
use Rattle.std.specs.List.{list_any}
use Rattle.std.proofs.lemmas.List.{drop_all, length-map, length-take-le}
use Rattle.buffer_glyphs.specs.declared.info.hb_glyph_info_t.{hb_glyph_info_t}
use Rattle.buffer_glyphs.specs.Items.{item_of, strip}
use Rattle.buffer_properties.specs.Characters.{is_selector}

step_suc : (i count : ℕ) (g : hb_glyph_info_t) (gs : List hb_glyph_info_t) → i < count → slice_get gs i ≡ Some g
    → list_any is_selector (drop i (take count (strip gs))) ≡ (is_selector (item_of g) || list_any is_selector (drop (suc i) (take count (strip gs))))
step_suc i count g [] lt at = absurd (let bad = at in cc)
step_suc i zero g (h ∷ gs) lt at = absurd (omega (arith, lt))
step_suc zero (suc count) g (h ∷ gs) lt at = let same : h ≡ g = cc in ap (λ k. is_selector (item_of k) || list_any is_selector (take count (strip gs))) same
step_suc (suc i) (suc count) g (h ∷ gs) lt at = step_suc i count g gs (omega (arith, lt)) at

search_step : (i count : ℕ) (g : hb_glyph_info_t) (gs : List hb_glyph_info_t) → i < count → slice_get gs i ≡ Some g
    → list_any is_selector (drop i (take count (strip gs))) ≡ (is_selector (item_of g) || list_any is_selector (drop (i + 1) (take count (strip gs))))
search_step i count g gs lt at = rw add-one (step_suc i count g gs lt at)

pub found_here : (i count : ℕ) (g : hb_glyph_info_t) (gs : List hb_glyph_info_t) (b : Bool) → i < count → slice_get gs i ≡ Some g → is_selector (item_of g) ≡ true → list_any is_selector (drop i (take count (strip gs))) ≡ b → true ≡ b
found_here i count g gs b lt at picks e = sym (ap (λ t. t || list_any is_selector (drop (i + 1) (take count (strip gs)))) picks) ∙ sym (search_step i count g gs lt at) ∙ e

pub found_later : (i count : ℕ) (g : hb_glyph_info_t) (gs : List hb_glyph_info_t) (b : Bool) → i < count → slice_get gs i ≡ Some g → is_selector (item_of g) ≡ false → list_any is_selector (drop i (take count (strip gs))) ≡ b
    → list_any is_selector (drop (i + 1) (take count (strip gs))) ≡ b
found_later i count g gs b lt at other e = sym (ap (λ t. t || list_any is_selector (drop (i + 1) (take count (strip gs)))) other) ∙ sym (search_step i count g gs lt at) ∙ e

pub found_none : (i count : ℕ) (gs : List hb_glyph_info_t) (b : Bool) → count ≤ i → count ≤ length gs → list_any is_selector (drop i (take count (strip gs))) ≡ b → false ≡ b
found_none i count gs b le few e =
    let len = length-take-le count (strip gs) (omega (arith, few, length-map gs item_of)) in
    ap (list_any is_selector) (sym (drop_all i (take count (strip gs)) (omega (arith, len, le)))) ∙ e
