-- The offsets of tiles. The glyphs are in visual order, from left to right, and the last tile of a run ends where its
-- word does.
use Rattle.std.specs.Prelude.{ℕ, ℤ, zero, suc, pos, ◌+ℤ◌, ◌-ℤ◌, List, [], ◌∷◌, ◌++◌, Option, None, Some}
use Rattle.std.specs.Int.{int_wrap, w32}
use Rattle.buffer_glyphs.specs.Items.{Position}
use Rattle.script_arabic.specs.declared.tile.Tile.{Tile}

-- the position of a tile that begins at x, modulo 2^32: its advances are zero
abbrev pub tile_at : Position → ℤ → Position
tile_at p x = record p { x_offset = int_wrap w32 x; x_advance = pos 0 }

-- the begin of a tile's n-th copy (the 0-th is the tile), to the left of x: each is its width to the left, less the
-- overlap
abbrev pub copy_begin : Tile → ℤ → ℕ → ℤ
copy_begin t x zero = x -ℤ t.width
copy_begin t x (suc n) = copy_begin t x n -ℤ t.width +ℤ t.overlap

-- the begin of a glyph with its copies, to the left of x; a run's last tile ends where its word does
abbrev pub begins_at : Option Tile → ℤ → ℤ
begins_at None x = pos 0
begins_at (Some t) x = copy_begin t x t.copies

-- the begin of the first glyph of a list
abbrev pub begin : List (Option Tile) → ℤ
begin [] = pos 0
begin (t ∷ ts) = begins_at t (begin ts)

-- the positions of a tile's first n copies and of the tile, which is to their right
abbrev pub copy_positions : Position → Tile → ℤ → ℕ → List Position
copy_positions p t x zero = tile_at p (copy_begin t x 0) ∷ []
copy_positions p t x (suc n) = tile_at p (copy_begin t x (suc n)) ∷ copy_positions p t x n

-- the positions of a glyph and of its copies, to the left of x
abbrev pub tile_positions : Position → Option Tile → ℤ → List Position
tile_positions p None x = p ∷ []
tile_positions p (Some t) x = copy_positions p t x t.copies

-- the positions of all glyphs and copies
abbrev pub all_positions : List Position → List (Option Tile) → List Position
all_positions [] ts = []
all_positions (p ∷ ps) [] = []
all_positions (p ∷ ps) (t ∷ ts) = tile_positions p t (begin ts) ++ all_positions ps ts
