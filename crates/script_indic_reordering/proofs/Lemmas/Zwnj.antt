-- A syllable without a ZWNJ.
use Rattle.std.proofs.Common.{ℕ, ◌≡◌, false, List, [], ◌∷◌, refl, sym, ap, ◌∙◌}
use Rattle.std.specs.Prelude.{not, ◌&&◌, ◌||◌}
use Rattle.std.specs.List.{list_any}
use Rattle.std.proofs.lemmas.Bool.{and_right, or_parts}
use Rattle.buffer_glyphs.specs.declared.info.hb_glyph_info_t.{hb_glyph_info_t}
use Rattle.buffer_glyphs.specs.Items.{item_of, strip}
use Rattle.buffer_stages.specs.Ordering.{AreMade}
use Rattle.script_indic_reordering.specs.Glyphs.{is_consonant, is_zwnj}
use Rattle.script_indic_reordering.specs.Initial.{before_zwnj, cleared_before_zwnj, without_bits_if}

nothing_cleared : (bits : ℕ) (gs : List hb_glyph_info_t) → list_any (λ g. is_zwnj (item_of g)) gs ≡ false → (before_zwnj (strip gs) ≡ false) × (cleared_before_zwnj bits (strip gs) ≡ strip gs)
nothing_cleared bits [] e = (refl, refl)
nothing_cleared bits (g ∷ gs) e =
    let x = item_of g in
    let xs = strip gs in
    let parts = or_parts (is_zwnj x) (list_any (λ g. is_zwnj (item_of g)) gs) e in
    let h = nothing_cleared bits gs parts.1 in (
      ap (λ t. t || (not (is_consonant x) && before_zwnj xs)) parts.0 ∙ and_right (not (is_consonant x)) (before_zwnj xs) h.0,
      ap (λ t. without_bits_if t bits x ∷ cleared_before_zwnj bits xs) h.0 ∙ ap (λ ys. x ∷ ys) h.1,
    )

-- no bits of a mask are cleared
pub none_cleared : (bits : ℕ) (gs : List hb_glyph_info_t) → list_any (λ g. is_zwnj (item_of g)) gs ≡ false → AreMade (cleared_before_zwnj bits (strip gs)) gs gs
none_cleared bits gs e = record { items = sym (nothing_cleared bits gs e).1; origins = refl }
