-- Mirrored characters and vertical forms of a text that is broken into two.
use Rattle.std.proofs.Common.{ℕ, ◌≡◌, ◌&&◌, not, Bool, true, false, Option, None, Some, refl}
use Rattle.buffer_common.specs.Direction.{is_backward, is_vertical}
use Rattle.buffer_common.specs.declared.direction.Direction.{Direction}
use Rattle.buffer_unicode_tables.specs.Tables.{Tables}
use Rattle.buffer_glyphs.specs.Items.{Item}
use Rattle.buffer_core.specs.Readings.{always}
use Rattle.layout_face.specs.declared.parts.FaceParts.{FaceParts}
use Rattle.buffer_parts.specs.Breaks.Divisible.{IsFreelyDivisible}
use Rattle.buffer_parts.proofs.BreakLemmas.Division.{freely_divisible_in_turn, items_are_divisible, same_is_divisible}
use Rattle.shape_text.specs.Rotation.{mapped_where, mirror_image, mirrored_item, mirrored_or, upright_or, vertical_form, with_rotated_characters, with_vertical_form}

-- a change of items where a condition holds
mapped_divides : (falls b : Bool) (k : Item → Item) → ((n : ℕ) (x : Item) → k (record x { lig_props = n }) ≡ record (k x) { lig_props = n }) → IsFreelyDivisible falls falls (always (mapped_where b k)) (always (mapped_where b k)) (always (mapped_where b k))
mapped_divides falls true k spares = items_are_divisible falls k spares
mapped_divides falls false k spares = same_is_divisible falls

mirrored_spares : (t : Tables) (font : FaceParts) (mask n : ℕ) (x : Item) → mirrored_item t font mask (record x { lig_props = n }) ≡ record (mirrored_item t font mask x) { lig_props = n }
mirrored_spares t font mask n x = by_image (mirror_image t font x.number)
  where
    by_image : (o : Option ℕ) → mirrored_or mask (record x { lig_props = n }) o ≡ record (mirrored_or mask x o) { lig_props = n }
    by_image None = refl
    by_image (Some c) = refl

upright_spares : (t : Tables) (font : FaceParts) (n : ℕ) (x : Item) → with_vertical_form t font (record x { lig_props = n }) ≡ record (with_vertical_form t font x) { lig_props = n }
upright_spares t font n x = by_form (vertical_form t font x.number)
  where
    by_form : (o : Option ℕ) → upright_or (record x { lig_props = n }) o ≡ record (upright_or x o) { lig_props = n }
    by_form None = refl
    by_form (Some c) = refl

-- the same rotation of the text and its fragments divides
pub rotation_divides : (falls : Bool) (t : Tables) (font : FaceParts) (target : Direction) (mask : ℕ) (has_vert : Bool)
    → IsFreelyDivisible falls falls (always (with_rotated_characters t font target mask has_vert)) (always (with_rotated_characters t font target mask has_vert)) (always (with_rotated_characters t font target mask has_vert))
rotation_divides falls t font target mask has_vert =
    let mirrors = always (mapped_where (is_backward target) (mirrored_item t font mask)) in
    let rises = always (mapped_where (is_vertical target && not has_vert) (with_vertical_form t font)) in
    freely_divisible_in_turn falls falls falls mirrors mirrors mirrors rises rises rises
    (mapped_divides falls (is_backward target) (mirrored_item t font mask) (mirrored_spares t font mask)) (mapped_divides falls (is_vertical target && not has_vert) (with_vertical_form t font) (upright_spares t font))
