-- A mark at the box of its base.
use Rattle.std.proofs.Common.{ℤ, ◌≡◌, Option, ap, ◌∙◌}
use Rattle.buffer_common.specs.declared.direction.Direction.{Direction}
use Rattle.layout_common.specs.Rows.{value_of}
use Rattle.layout_face.specs.declared.parts.FaceParts.{FaceParts}
use Rattle.buffer_glyphs.specs.Items.{Item, Position}
use Rattle.shape_fallback.specs.Boxes.{Box, mark_at_box}
use Rattle.shape_fallback.specs.declared.boxes.Marked.{Marked}
use Rattle.shape_fallback.specs.declared.around.Around.{Around}
use Rattle.shape_fallback.specs.declared.around.Placed.{Placed}
use Rattle.shape_fallback.specs.Around.{gap, mark_at_base, mark_step}

pub stood_there : (font : FaceParts) (d : Direction) (x : Item) (p : Position) (s : Around) (g : ℤ) (e : Option Box) (m : Marked) (r : Placed) → r ≡ mark_at_base s m → m ≡ mark_at_box g d x.class e s.extents p
    → g ≡ gap font → e ≡ value_of x.number font.extents → r ≡ mark_step font d x p s
stood_there font d x p s g e m r is made free box =
    is ∙ ap (mark_at_base s) (made ∙ ap (λ n. mark_at_box n d x.class e s.extents p) free ∙ ap (λ b. mark_at_box (gap font) d x.class b s.extents p) box)
