-- The row of a character and a selector is found by the order of pairs.
use Rattle.std.proofs.Common.{◌≡◌, ℕ, ◌==◌, ◌&&◌, List, [], ◌∷◌, refl, arith}
use Rattle.std.specs.Ordering.{is_eq, nat_cmp, ordering_then}
use Rattle.std.proofs.lemmas.Bool.Decides.{nat_tests}
use Rattle.buffer_rows.specs.Keys.{row_with}
use Rattle.layout_face.specs.declared.parts.VariationRow.{VariationRow}
use Rattle.layout_face.specs.Glyphs as Glyphs
use Rattle.buffer_facts.proofs.Numbers.{equal_pairs}

pub row_of_characters : (c selector : ℕ) (rows : List VariationRow)
    → row_with (λ (x y : ℕ × ℕ). ordering_then (nat_cmp x.0 y.0) (nat_cmp x.1 y.1)) (λ (r : VariationRow). (r.character, r.selector)) (c, selector) rows ≡ Glyphs.row_of_characters c selector rows
row_of_characters c selector [] = refl
row_of_characters c selector (r ∷ rows) = rw (equal_pairs r.character r.selector c selector, row_of_characters c selector rows) refl
