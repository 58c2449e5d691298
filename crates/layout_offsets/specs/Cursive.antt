-- Cursive attachment (OpenType, GPOS lookup type 3), on a list of positions.
use Rattle.std.specs.Prelude.{ℕ, zero, suc, ℤ, pos, neg_ℤ, ◌-ℤ◌, ◌==◌, Bool, true, false, not, if◌then◌else◌, List, set, Option, Some, None, bit_and}
use Rattle.std.specs.Int.{int_wrap, w16}
use Rattle.buffer_glyphs.specs.Items.{Position}
use Rattle.buffer_common.specs.declared.direction.Direction.{Direction}
use Rattle.buffer_common.specs.Direction.{is_forward, is_horizontal}
use Rattle.layout_tables.specs.declared.value.Anchor.{Anchor}
use Rattle.layout_offsets.specs.Sums.{plus, minus}
use Rattle.layout_offsets.specs.Links.{position_at, parent, without_link, is_near, link_to}

-- ---- cursive joins

-- a number negated, as 32 bits have it
abbrev pub negative : ℤ → ℤ
negative a = minus (pos 0) a

-- a link negated, as 16 bits have it
abbrev pub turned_link : ℤ → ℤ
turned_link a = int_wrap w16 (neg_ℤ a)

-- a glyph of an old chain attached to the one that was attached to it
abbrev pub with_link_reversed : Bool → Position → Position → Position
with_link_reversed true c p = record p { y_offset = negative c.y_offset; attach_chain = turned_link c.attach_chain; attach_type = c.attach_type }
with_link_reversed false c p = record p { x_offset = negative c.x_offset; attach_chain = turned_link c.attach_chain; attach_type = c.attach_type }

-- a position with the link of its chain reversed
abbrev pub turned_position : Direction → Position → Position → Position
turned_position d c p = with_link_reversed (is_horizontal d) c p

-- a glyph, but none at the new parent
abbrev pub unless_at : ℕ → Option ℕ → Option ℕ
unless_at stop None = None
unless_at stop (Some j) = if j == stop then None else Some j

-- the glyph that a cursive child is attached to, but none at the new parent
abbrev pub old_parent : ℕ → ℕ → List Position → Option ℕ
old_parent stop i ps = if (position_at i ps).attach_type == 2 then unless_at stop (parent i ps) else None

-- the rest of the chain reversed, where there is one
abbrev pub turned_beyond : Direction → (ℕ → Position → List Position → List Position) → Position → Option ℕ → List Position → List Position
turned_beyond d turn p None ps = ps
turned_beyond d turn p (Some j) ps = turn j (turned_position d p (position_at j ps)) ps

-- more links than the reversal of a chain meets, in a text of any length: it comes to each glyph at most twice, once on
-- the way and, where old links form a ring, once on the way back
abbrev pub most_links : ℕ
most_links = 0xFFFF_FFFF

-- glyph i gets another position, and the chain from it on is reversed, over at most n links
unfoldable pub chain_reversed_from : Direction → ℕ → ℕ → ℕ → Position → List Position → List Position
chain_reversed_from d stop zero i new ps = ps
chain_reversed_from d stop (suc fuel) i new ps = turned_beyond d (chain_reversed_from d stop fuel) (position_at i ps) (old_parent stop i ps) (set ps i new)

-- the chain of a cursive child reversed, with the child as its root; of another glyph nothing changes
abbrev pub chain_turned : Direction → ℕ → ℕ → List Position → List Position
chain_turned d stop i ps = if (position_at i ps).attach_type == 2 then chain_reversed_from d stop most_links i (without_link (position_at i ps)) ps else ps

-- a child attached to its parent at an offset across the line
abbrev pub child_position : Bool → ℤ → ℤ → ℤ → Position → Position
child_position true x y link p = record p { y_offset = y; attach_chain = link; attach_type = 2 }
child_position false x y link p = record p { x_offset = x; attach_chain = link; attach_type = 2 }

-- a parent that was attached to its child, without its offset across the line
abbrev pub freed_position : Bool → Position → Position
freed_position true p = record p { y_offset = pos 0; attach_chain = pos 0 }
freed_position false p = record p { x_offset = pos 0; attach_chain = pos 0 }

-- whether a glyph is the child that another was attached to
abbrev pub is_child_of : ℕ → Option ℕ → Bool
is_child_of child None = false
is_child_of child (Some j) = j == child

-- a parent that was attached to its child unlinked
abbrev pub with_parent_freed : Direction → ℕ → ℕ → List Position → List Position
with_parent_freed d child to ps = if is_child_of child (parent to ps) then set ps to (freed_position (is_horizontal d) (position_at to ps)) else ps

-- a cursive child attached to its parent
abbrev pub with_child_attached : Direction → ℕ → ℕ → ℤ → ℤ → List Position → List Position
with_child_attached d child to x y ps = set ps child (child_position (is_horizontal d) x y (link_to child to) (position_at child ps))

-- a cursive child attached to its parent where that is near enough
abbrev pub with_cursive_attached : Direction → ℕ → ℕ → ℤ → ℤ → List Position → List Position
with_cursive_attached d child to x y ps = if is_near child to then with_parent_freed d child to (with_child_attached d child to x y (chain_turned d to child ps)) else ps

-- ---- advances of a join: the first ends at its exit, the second begins at its entry

-- the first glyph's advance up to its exit
abbrev pub first_ends : Bool → Anchor → Position → Position
first_ends true exit p = record p { x_advance = plus exit.x p.x_offset }
first_ends false exit p = record p { y_advance = plus exit.y p.y_offset }

-- the second glyph's position from its entry on
abbrev pub position_from_anchor : Bool → Anchor → Position → Position
position_from_anchor true anchor p = record p { x_advance = minus p.x_advance (plus anchor.x p.x_offset); x_offset = minus p.x_offset (plus anchor.x p.x_offset) }
position_from_anchor false anchor p = record p { y_advance = minus p.y_advance (plus anchor.y p.y_offset); y_offset = minus p.y_offset (plus anchor.y p.y_offset) }

-- the position at an index changed
abbrev pub change_at : (Position → Position) → ℕ → List Position → List Position
change_at f i ps = set ps i (f (position_at i ps))

-- forward the first glyph's advance ends at its exit, and the second loses the distance before its entry; backward the
-- other way round
abbrev pub joined_advances : Bool → Bool → ℕ → Anchor → ℕ → Anchor → List Position → List Position
joined_advances true across first exit second entry ps = change_at (position_from_anchor across entry) second (change_at (first_ends across exit) first ps)
joined_advances false across first exit second entry ps = change_at (first_ends across entry) second (change_at (position_from_anchor across exit) first ps)

-- ---- two glyphs joined

-- a lookup with RIGHT_TO_LEFT attaches the earlier glyph to the later one
abbrev pub attaches_earlier : ℕ → Bool
attaches_earlier props = not (bit_and props 1 == 0)

-- the child attached to its parent, at the parent's anchor less its own across the line
abbrev pub with_cursive_offset : Direction → Bool → ℕ → Anchor → ℕ → Anchor → List Position → List Position
with_cursive_offset d true first exit second entry ps = with_cursive_attached d first second (entry.x -ℤ exit.x) (entry.y -ℤ exit.y) ps
with_cursive_offset d false first exit second entry ps = with_cursive_attached d second first (exit.x -ℤ entry.x) (exit.y -ℤ entry.y) ps

-- two glyphs joined: along the line the first ends at its exit and the second begins at its entry
abbrev pub cursive_attachment : Direction → Bool → ℕ → Anchor → ℕ → Anchor → List Position → List Position
cursive_attachment d earlier first exit second entry ps = with_cursive_offset d earlier first exit second entry (joined_advances (is_forward d) (is_horizontal d) first exit second entry ps)
