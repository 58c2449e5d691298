-- A buffer once a glyph or a position that it lent comes back.
use Rattle.std.specs.Prelude.{ℕ, ◌-◌, ◌++◌, if◌then◌else◌, List, length, take, drop, max, slice_set}
use Rattle.std.specs.Borrow.{Lends, MutBor, Fml, Array}
use Rattle.buffer_glyphs.specs.declared.info.hb_glyph_info_t.{hb_glyph_info_t}
use Rattle.buffer_glyphs.specs.declared.position.GlyphPosition.{GlyphPosition}
use Rattle.buffer_glyphs.specs.contracts.info.hb_glyph_info_t.{the_row as info_row}
use Rattle.buffer_glyphs.specs.contracts.position.GlyphPosition.{the_row as place_row}
use Rattle.buffer_core.specs.contracts.buffer.hb_buffer_t.{the_row}
use Rattle.buffer_glyphs.specs.Items.{Position}
use Rattle.buffer_core.specs.Merging.{with_glyphs}
use Rattle.buffer_core.specs.Sides.{Sides, all_glyphs}

-- another glyph at the i-th index from the cursor on
abbrev pub with_glyph_ahead : ℕ → hb_glyph_info_t → Sides → Sides
with_glyph_ahead i g s = record s { ahead = slice_set s.ahead i g }

-- another position for the glyph at the cursor
abbrev pub with_current_position : GlyphPosition → Sides → Sides
with_current_position p s = record s { positions = slice_set s.positions s.read p }

-- another glyph at the end of the output
abbrev pub with_last_behind : hb_glyph_info_t → Sides → Sides
with_last_behind g s = record s { behind = slice_set s.behind (length s.behind - 1) g }

-- as many elements as there were: those that come back, and where they are fewer the last of the old ones
abbrev pub refilled_list : {X : Type 0} → List X → List X → List X
refilled_list new old = take (length old) (new ++ drop (length new) old)

-- all glyphs replaced by those that come back
abbrev pub with_refilled : List hb_glyph_info_t → Sides → Sides
with_refilled gs s = with_glyphs (refilled_list gs (all_glyphs s)) s

-- the output replaced by the glyphs that come back; those that are more than were read, and more than it had, replace
-- glyphs ahead
abbrev pub with_open_output_refilled : List hb_glyph_info_t → Sides → Sides
with_open_output_refilled gs s = record s { behind = refilled_list gs s.behind; ahead = refilled_list (drop (max s.read (length s.behind)) gs) s.ahead }

-- the glyphs behind the cursor replaced by those that come back; with no output open, they are the first of all glyphs
abbrev pub with_output_refilled : List hb_glyph_info_t → Sides → Sides
with_output_refilled gs s = if s.is_open then with_open_output_refilled gs s else with_refilled gs s

-- all positions replaced by those that come back
abbrev pub with_positions_refilled : List Position → Sides → Sides
with_positions_refilled ps s = record s { positions = refilled_list ps s.positions }

-- a borrow of the i-th glyph from the cursor on, out of a borrow of the buffer
abbrev pub LendsGlyph : ℕ → MutBor Sides → MutBor hb_glyph_info_t → Fml
LendsGlyph i s r = Lends the_row info_row s r (λ g. with_glyph_ahead i g s.now)

-- a borrow of the position at the cursor, out of a borrow of the buffer
abbrev pub LendsPosition : MutBor Sides → MutBor GlyphPosition → Fml
LendsPosition s r = Lends the_row place_row s r (λ p. with_current_position p s.now)

-- a borrow of the last glyph behind the cursor, out of a borrow of the buffer
abbrev pub LendsLast : MutBor Sides → MutBor hb_glyph_info_t → Fml
LendsLast s r = Lends the_row info_row s r (λ g. with_last_behind g s.now)

-- a borrow of all glyphs, out of a borrow of the buffer
abbrev pub LendsGlyphs : MutBor Sides → MutBor (List hb_glyph_info_t) → Fml
LendsGlyphs s r = Lends the_row (Array info_row 0) s r (λ gs. with_refilled gs s.now)

-- a borrow of the glyphs behind the cursor, out of a borrow of the buffer
abbrev pub LendsOutput : MutBor Sides → MutBor (List hb_glyph_info_t) → Fml
LendsOutput s r = Lends the_row (Array info_row 0) s r (λ gs. with_output_refilled gs s.now)

-- a borrow of all positions, out of a borrow of the buffer
abbrev pub LendsPositions : MutBor Sides → MutBor (List GlyphPosition) → Fml
LendsPositions s r = Lends the_row (Array place_row 0) s r (λ ps. with_positions_refilled ps s.now)
