-- Positions that are linked to others.
use Rattle.std.specs.Prelude.{ℕ, ℤ, pos, ◌+ℤ◌, ◌-ℤ◌, nat_abs, nat_le, ◌-◌, ◌==◌, Bool, int_le, int_lt, ◌&&◌, if◌then◌else◌, List, get_or, length, Option, Some, None}
use Rattle.buffer_glyphs.specs.Items.{Position, zero_position}

-- the position at an index
abbrev pub position_at : ℕ → List Position → Position
position_at i ps = get_or ps i zero_position

-- the position without its link
abbrev pub without_link : Position → Position
without_link p = record p { attach_chain = pos 0 }

-- the index that a link of position i leads to, among n positions: none where the link is 0 or leads outside
abbrev pub link_target : ℕ → ℕ → ℤ → Option ℕ
link_target n i d = if nat_abs d == 0 then None else if int_le (pos 0) (pos i +ℤ d) && int_lt (pos i +ℤ d) (pos n) then Some (nat_abs (pos i +ℤ d)) else None

-- the index of the glyph that a glyph is attached to
abbrev pub parent : ℕ → List Position → Option ℕ
parent i ps = link_target (length ps) i (position_at i ps).attach_chain

-- whether a link may lead from one index to the other: over at most 32,767 glyphs
abbrev pub is_near : ℕ → ℕ → Bool
is_near child parent = nat_le (child - parent) 32767 && nat_le (parent - child) 32767

-- the distance from a glyph to another, as a link
abbrev pub link_to : ℕ → ℕ → ℤ
link_to child parent = pos parent -ℤ pos child
