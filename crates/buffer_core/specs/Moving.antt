-- Moves of the cursor, and lists truncated, filled up or reversed in a range.
use Rattle.std.specs.Prelude.{ℕ, ◌+◌, ◌-◌, ◌&&◌, Bool, true, not, nat_le, nat_lt, if◌then◌else◌, List, ◌++◌, length, take, drop, replicate, min}
use Rattle.buffer_glyphs.specs.declared.info.hb_glyph_info_t.{hb_glyph_info_t}
pub use Rattle.buffer_lists.specs.Events.{indices_reversed}
pub use Rattle.buffer_lists.specs.Turning.{range_reversed}
use Rattle.buffer_core.specs.Sides.{Sides, all_glyphs, with_list}
use Rattle.buffer_glyphs.specs.Items.{zero_position}
use Rattle.buffer_core.specs.Text.{added_glyph}

-- the cursor before the i-th of all glyphs; glyphs that move back to the input no longer count as read
abbrev pub after_move_to : ℕ → Sides → Sides
after_move_to i s = record s { behind = take i (all_glyphs s); ahead = drop i (all_glyphs s); read = s.read + i - length s.behind }

-- whether the input may have the glyphs behind the cursor from the i-th on too
abbrev pub has_room_back : ℕ → Sides → Bool
has_room_back i s = nat_le (length s.ahead + (length s.behind - i)) s.max_len

-- whether the side that grows by such a move may have n glyphs
abbrev pub side_holds : ℕ → Sides → Bool
side_holds i s = if nat_lt (length s.behind) i then nat_le i s.max_len else has_room_back i s

-- whether the cursor may be moved there: an output is open, no call was refused, and the side that grows may hold it
abbrev pub fits_moved : ℕ → Sides → Bool
fits_moved i s = if s.is_open then not s.has_refused && side_holds i s else true

-- a range of glyphs and their positions reversed
abbrev pub with_range_reversed : ℕ → ℕ → Sides → Sides
with_range_reversed start end s = with_list (range_reversed start end (all_glyphs s)) (range_reversed start end s.positions) s

-- n elements: the first ones, and x for each that is missing
abbrev pub of_length : {X : Type 0} → ℕ → X → List X → List X
of_length n x xs = take n xs ++ replicate (n - length xs) x

-- a glyph whose fields are all zero
abbrev pub zero_glyph : hb_glyph_info_t
zero_glyph = added_glyph 0 0

-- n glyphs and positions, with the cursor at most after the last
abbrev pub with_len : ℕ → Sides → Sides
with_len n s = with_list (of_length n zero_glyph (all_glyphs s)) (of_length n zero_position s.positions) (record s { read = min s.read n })

-- the n elements from an index on moved after the k that followed them
abbrev pub with_range_moved : {X : Type 0} → ℕ → ℕ → ℕ → List X → List X
with_range_moved start n k xs = take start xs ++ (take k (drop (start + n) xs) ++ take n (drop start xs)) ++ drop (start + (n + k)) xs

-- such a move of glyphs behind the cursor (`rotate_output`)
abbrev pub with_output_moved : ℕ → ℕ → ℕ → Sides → Sides
with_output_moved start n k s = record s { behind = with_range_moved start n k s.behind }
