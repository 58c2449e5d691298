-- Glyphs attached to others by links, and where they are drawn.
use Rattle.std.specs.Prelude.{ℕ, zero, suc, negsuc, int_lt, ◌+◌, ◌==◌, Bool, true, false, ◌&&◌, ◌||◌, if◌then◌else◌, List, set, map, length, slice_range, Option, Some, None}
use Rattle.std.specs.List.{fold}
use Rattle.buffer_glyphs.specs.Items.{Position}
use Rattle.buffer_common.specs.declared.direction.Direction.{Direction}
use Rattle.buffer_common.specs.Direction.{is_forward, is_horizontal}
pub use Rattle.layout_offsets.specs.Sums.{minus, plus}
use Rattle.layout_offsets.specs.Links.{position_at, without_link, parent}

-- whether a link is a mark's (1) or a cursive child's (2)
abbrev pub has_kind : Position → Bool
has_kind p = p.attach_type == 1 || p.attach_type == 2

-- a position, without a link of any other kind
abbrev pub kind_tested : Position → Position
kind_tested p = if has_kind p then p else without_link p

-- whether a glyph is attached, by a mark or in a cursive chain, to one more than 16 glyphs before it
abbrev pub is_far_back : Position → Bool
is_far_back p = has_kind p && int_lt p.attach_chain (negsuc 15)

-- positions without links of any other kind
abbrev pub kinds_tested : List Position → List Position
kinds_tested ps = map kind_tested ps

-- a glyph's link is cleared
abbrev pub with_link_cleared : ℕ → List Position → List Position
with_link_cleared i ps = set ps i (without_link (position_at i ps))

-- both offsets of a parent are added
abbrev pub offset_by : Position → Position → Position
offset_by q p = record p { x_offset = plus p.x_offset q.x_offset; y_offset = plus p.y_offset q.y_offset }

-- the pen moved back over a glyph
abbrev pub back_over : Position → Position → Position
back_over p r = record p { x_offset = minus p.x_offset r.x_advance; y_offset = minus p.y_offset r.y_advance }

-- the pen moved on over a glyph
abbrev pub on_over : Position → Position → Position
on_over p r = record p { x_offset = plus p.x_offset r.x_advance; y_offset = plus p.y_offset r.y_advance }

-- a mark's offset counts from where its parent is drawn: forward the pen moves back from before the mark to before the
-- parent, backward on from after the parent to after the mark
abbrev pub mark_drawn : Bool → ℕ → ℕ → List Position → Position
mark_drawn true i j ps = fold back_over (offset_by (position_at j ps) (position_at i ps)) (slice_range ps j i)
mark_drawn false i j ps = fold on_over (offset_by (position_at j ps) (position_at i ps)) (slice_range ps (j + 1) (i + 1))

-- a cursive child's offset across the line counts from its parent's
abbrev pub child_drawn : Bool → Position → Position → Position
child_drawn true q p = record p { y_offset = plus p.y_offset q.y_offset }
child_drawn false q p = record p { x_offset = plus p.x_offset q.x_offset }

-- glyph i drawn, once its parent j is drawn
abbrev pub drawn_position : Direction → ℕ → ℕ → List Position → Position
drawn_position d i j ps = if (position_at i ps).attach_type == 2 then child_drawn (is_horizontal d) (position_at j ps) (position_at i ps) else mark_drawn (is_forward d) i j ps

-- a way to draw a glyph, from its parent
abbrev pub Drawing : Type 0
Drawing = ℕ → ℕ → List Position → Position

-- glyph i drawn from glyph j, in a list
abbrev pub with_child_drawn : Drawing → ℕ → ℕ → List Position → List Position
with_child_drawn draw i j ps = set ps i (draw i j ps)

-- a glyph without its link is drawn once its parent is
abbrev pub with_parent_drawn : Drawing → (ℕ → List Position → List Position) → ℕ → Option ℕ → List Position → List Position
with_parent_drawn draw follow i None ps = with_link_cleared i ps
with_parent_drawn draw follow i (Some j) ps = with_child_drawn draw i j (follow j (with_link_cleared i ps))

-- a glyph drawn with all glyphs that it is attached to, over at most n links
unfoldable pub with_link_followed : Drawing → ℕ → ℕ → List Position → List Position
with_link_followed draw zero i ps = ps
with_link_followed draw (suc fuel) i ps = with_parent_drawn draw (with_link_followed draw fuel) i (parent i ps) ps

-- of n positions those from i on drawn, one after another
abbrev pub with_links_followed_from : Drawing → ℕ → ℕ → List Position → List Position
with_links_followed_from draw i zero ps = ps
with_links_followed_from draw i (suc n) ps = with_links_followed_from draw (i + 1) n (with_link_followed draw (length ps) i ps)

-- all positions drawn
abbrev pub with_links_followed : Drawing → List Position → List Position
with_links_followed draw ps = with_links_followed_from draw 0 (length ps) ps

-- all glyphs drawn from where their links lead
abbrev pub finished_positions : Direction → List Position → List Position
finished_positions d ps = with_links_followed (drawn_position d) (kinds_tested ps)
