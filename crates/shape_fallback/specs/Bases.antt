-- Bases with marks after them, where the font has no mark positioning (HarfBuzz, fallback shaping). Sums and products
-- are modulo 2^32.
use Rattle.std.specs.Prelude.{ℕ, ℤ, pos, ◌-ℤ◌, ◌*ℤ◌, ◌==◌, ◌||◌, Bool, not, nat_lt, if◌then◌else◌}
use Rattle.std.specs.Int.{int_wrap, w32}
use Rattle.std.specs.Int.RustNames.{int_div}
use Rattle.layout_face.specs.declared.parts.FaceParts.{FaceParts}
use Rattle.layout_face.specs.Glyphs.{width_of}
use Rattle.buffer_glyphs.specs.Items.{Item, Position}
use Rattle.layout_offsets.specs.Sums.{plus}
use Rattle.buffer_glyphs.specs.LigatureWords.{lig_comp, lig_id, lig_num_comps}
use Rattle.shape_fallback.specs.Boxes.{Box}
use Rattle.shape_fallback.specs.declared.bases.Base.{Base}

-- the box of a base: from the pen on, as wide as its advance, as high as its ink
abbrev pub base_box : FaceParts → Item → Position → Box → Box
base_box font x p e = record e { x_bearing = pos 0; y_bearing = plus e.y_bearing p.y_offset; width = pos (width_of x.number font) }

-- a base with its box and the number of its ligature components
abbrev pub base_of : FaceParts → Item → Position → Box → Base
base_of font x p e = record { extents = base_box font x p e; lig_id = lig_id x; components = lig_num_comps x }

-- ---- the components of a ligature, counted from 1

-- the component that a mark belongs to: the last one where the mark is not of this ligature, or its component doesn't
-- exist
abbrev pub component_of : Base → Item → ℕ
component_of b x = if (b.lig_id == 0 || not (lig_id x == b.lig_id)) || nat_lt b.components (lig_comp x) then b.components else lig_comp x

-- the number of components to the left of one
abbrev pub component_index : Bool → Base → ℕ → ℤ
component_index left_to_right b c = if left_to_right then pos c -ℤ pos 1 else pos b.components -ℤ pos c

-- a product modulo 2^32
abbrev pub times : ℤ → ℤ → ℤ
times a b = int_wrap w32 (a *ℤ b)

-- the box of a component: all components are equally wide
abbrev pub component_box : Bool → Base → ℕ → Box
component_box left_to_right b c = record b.extents {
  x_bearing = plus b.extents.x_bearing (int_div (times (component_index left_to_right b c) b.extents.width) (pos b.components));
  width = int_div b.extents.width (pos b.components);
}
