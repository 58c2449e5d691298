-- Arrays of glyphs.
use Rattle.std.specs.Prelude.{ℕ, ◌+◌, ◌*◌, List, Result, Ok}
use Rattle.font_bytes.specs.declared.fault.TableFault.{TableFault}
use Rattle.font_bytes.specs.Results.{and_then}
use Rattle.font_bytes.specs.Words.{need, word}
use Rattle.font_bytes.specs.Room.{room_after}
use Rattle.font_bytes.specs.Records.{records}

-- n glyphs from an offset on, each of which takes a row of room
abbrev pub glyph_list : ℕ → List ℕ → ℕ → ℕ → Result (List ℕ × ℕ) TableFault
glyph_list room table at count =
    and_then (need table at (2 * count)) (λ _. and_then (room_after room count) (λ left. Ok (records (word table) 2 at count, left)))

-- a count and that many glyphs
abbrev pub counted_glyphs : ℕ → List ℕ → ℕ → Result (List ℕ × ℕ) TableFault
counted_glyphs room table at = and_then (need table at 2) (λ _. glyph_list room table (at + 2) (word table at))
