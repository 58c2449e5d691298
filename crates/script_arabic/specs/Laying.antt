-- How often each tile of a run repeats, and how wide it is (OpenType specification, feature stch).
use Rattle.std.specs.Prelude.{ℕ, ℤ, pos, negsuc, ◌+◌, ◌-◌, ◌*◌, ◌/◌, ◌&&◌, Bool, true, nat_le, int_le, if◌then◌else◌, List, [], ◌∷◌, Option, None, Some}
use Rattle.layout_face.specs.declared.parts.FaceParts.{FaceParts}
use Rattle.buffer_glyphs.specs.Items.{Item}
use Rattle.script_arabic.specs.declared.runs.Run.{Run}
use Rattle.script_arabic.specs.Tiles.{is_repeating}
use Rattle.script_arabic.specs.Runs.{width}
use Rattle.script_arabic.specs.Copies.{copies, left_of_word}
use Rattle.script_arabic.specs.declared.tile.Tile.{Tile}

-- a width fits in 32 bits
abbrev pub fits : ℤ → Bool
fits w = int_le (negsuc 0x7FFF_FFFF) w && int_le w (pos 0x7FFF_FFFF)

-- the widths of a run fit in 32 bits
abbrev pub run_in_range : Run → Bool
run_in_range r = fits r.word && nat_le r.fixed 0x7FFF_FFFF && nat_le r.repeating 0x7FFF_FFFF

-- the widths of a run, if there is one, fit in 32 bits
abbrev pub is_in_range : Option Run → Bool
is_in_range None = true
is_in_range (Some r) = run_in_range r

-- the overlap of each copy and its neighbour: the excess over what the word leaves for the tiles, shared among all
-- copies
abbrev pub overlap : Run → ℕ
overlap r = ((copies r + 1) * r.repeating - left_of_word r) / (copies r * r.tiles)

-- the number of copies of an item of a run: fixed tiles have none
abbrev pub copies_of : Item → Run → ℕ
copies_of x r = if is_repeating x then copies r else 0

-- the tile that an item of a run is
abbrev pub tile_in_run : FaceParts → Item → Run → Tile
tile_in_run font x r = record { copies = copies_of x r; width = pos (width font x); overlap = pos (overlap r) }

-- the tile that an item is, if it is of a run
abbrev pub tile_of : FaceParts → Item → Option Run → Option Tile
tile_of font x None = None
tile_of font x (Some r) = Some (tile_in_run font x r)

-- the tile that each item is, by its run; none without a run
abbrev pub tiles : FaceParts → List Item → List (Option Run) → List (Option Tile)
tiles font [] rs = []
tiles font (x ∷ xs) [] = None ∷ tiles font xs []
tiles font (x ∷ xs) (r ∷ rs) = tile_of font x r ∷ tiles font xs rs
