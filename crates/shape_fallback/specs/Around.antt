-- Marks around a base, each positioned at the box that the previous one left.
use Rattle.std.specs.Prelude.{ℕ, ℤ, pos, ◌/◌, ◌==◌, ◌&&◌, Bool, false, not, nat_lt, if◌then◌else◌, Option, Some, None}
use Rattle.std.specs.Option.{option_map_or}
use Rattle.buffer_common.specs.declared.direction.Direction.{Direction}
use Rattle.buffer_common.specs.Direction.{is_forward}
use Rattle.layout_common.specs.Rows.{value_of}
use Rattle.layout_face.specs.declared.parts.FaceParts.{FaceParts}
use Rattle.buffer_glyphs.specs.Items.{Item, Position}
use Rattle.layout_offsets.specs.Sums.{minus, plus}
use Rattle.shape_fallback.specs.Boxes.{mark_at_box}
use Rattle.layout_offsets.specs.Zeroing.{without_advances}
use Rattle.shape_fallback.specs.declared.boxes.Marked.{Marked}
use Rattle.shape_fallback.specs.declared.bases.Base.{Base}
use Rattle.shape_fallback.specs.declared.around.Around.{Around}
use Rattle.shape_fallback.specs.declared.around.Placed.{Placed}
use Rattle.shape_fallback.specs.declared.around.Placing.{Placing}
use Rattle.shape_fallback.specs.Bases.{component_box, component_of}

-- the pen's distance from a base: its advance in a forward text, 0 in a backward one
abbrev pub pen_back : Direction → ℤ → ℤ
pen_back d advance = if is_forward d then minus (pos 0) advance else pos 0

-- the state of a base without marks
abbrev pub initial_around : Direction → Position → Base → Around
initial_around d p b = record {
  base = b;
  component = b.extents;
  extents = b.extents;
  last_component = 0;
  last_class = None;
  x_offset = pen_back d p.x_advance;
  y_offset = pen_back d p.y_advance;
}

-- the state at the component of a mark: another component's box replaces the current one
abbrev pub with_component : Bool → ℕ → Around → Around
with_component left_to_right c s = record s { component = component_box left_to_right s.base c; last_component = c; last_class = None }

-- the state at the component that an item belongs to
abbrev pub at_component : Bool → Item → Around → Around
at_component left_to_right x s =
    if nat_lt 1 s.base.components && not (component_of s.base x == s.last_component) then with_component left_to_right (component_of s.base x) s else s

-- a combining class is the last mark's
abbrev pub is_class : ℕ → Option ℕ → Bool
is_class class last = option_map_or (λ c. c == class) last false

-- the state at a mark's class: marks of another class are positioned at the component's box, those of the same class at
-- the extended one
abbrev pub at_class : ℕ → Around → Around
at_class class s = if is_class class s.last_class then s else record s { extents = s.component; last_class = Some class }

-- the gap between a box and a mark that isn't attached: a sixteenth of the em
abbrev pub gap : FaceParts → ℤ
gap font = pos (font.upem / 16)

-- the position of a mark with zero advances, shifted back to the base
abbrev pub position_at_base : Around → Position → Position
position_at_base s p = record (without_advances p) { x_offset = plus p.x_offset s.x_offset; y_offset = plus p.y_offset s.y_offset }

-- a mark that is positioned, with the box for the next one
abbrev pub mark_at_base : Around → Marked → Placed
mark_at_base s m = record { position = position_at_base s m.position; around = record s { extents = m.extents } }

-- a mark of a class, positioned in a state
abbrev pub mark_step : FaceParts → Direction → Item → Position → Around → Placed
mark_step font d x p s = mark_at_base s (mark_at_box (gap font) d x.class (value_of x.number font.extents) s.extents p)

-- the pen's distance after a mark of class 0, whose advance shifts the marks after it
abbrev pub along : Direction → ℤ → ℤ → ℤ
along d offset advance = if is_forward d then minus offset advance else plus offset advance

-- a mark of class 0, whose position is unchanged
abbrev pub base_step : Direction → Position → Around → Placed
base_step d p s = record { position = p; around = record s { x_offset = along d s.x_offset p.x_advance; y_offset = along d s.y_offset p.y_advance } }

-- a mark positioned around its base (HarfBuzz: position_around_base)
abbrev pub mark_around : FaceParts → Placing → Item → Position → Around → Placed
mark_around font by x p s =
    if x.class == 0 then base_step by.direction p s
    else mark_step font by.direction x p (at_class x.class (at_component by.left_to_right x s))
