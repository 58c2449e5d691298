-- Laws of laid tiles: how wide they are with their copies, and that they keep the parts of a text.
use Rattle.std.specs.Prelude.{ℕ, ℤ, pos, neg_ℤ, ◌≡◌, ◌<◌, ◌*◌, ◌≤ℤ◌, ◌<ℤ◌, ◌+ℤ◌, Bool, true, not, List, [], ◌∷◌, ◌++◌, Option, Some, length}
use Rattle.std.specs.List.{list_all}
use Rattle.layout_face.specs.declared.parts.FaceParts.{FaceParts}
use Rattle.buffer_glyphs.specs.Items.{Item, Position}
use Rattle.buffer_glyphs.specs.Parts.{first_of}
use Rattle.buffer_parts.specs.PlainStages.{KeepsPlainly}
use Rattle.script_arabic.specs.declared.runs.Before.TheVariants.{Word}
use Rattle.script_arabic.specs.Copies.{copies}
use Rattle.script_arabic.specs.Runs.{unmeasured_run, runs, with_tiles}
use Rattle.script_arabic.specs.Tiles.{is_tile}
use Rattle.script_arabic.specs.declared.tile.Tile.{Tile}
use Rattle.script_arabic.specs.Laying.{tiles}
use Rattle.script_arabic.specs.TilePositions.{begin, all_positions, tile_at}
use Rattle.script_arabic.specs.Stretch.{tiles_laid}

-- the list is empty, or its first item is no tile
abbrev pub begins_otherwise : List Item → Bool
begins_otherwise [] = true
begins_otherwise (x ∷ xs) = not (is_tile x)

-- a width is at least that of a word, and exceeds it by less than one unit for each copy
pub record Reaches (word width : ℤ) (copies : ℕ) : Type 0 where
  pub enough : word ≤ℤ width
  pub little : width <ℤ (word +ℤ pos copies)

-- law: where tiles after a word get copies, the leftmost begins so far to the left of the word's end that all together
-- are as wide as the word, within one unit for each copy
abbrev pub TilesReach : Type 0
TilesReach = (font : FaceParts) (word : ℤ) (x : Item) (xs rest : List Item) (ps : List Position)
    → list_all is_tile (x ∷ xs) ≡ true → begins_otherwise rest ≡ true → length ps ≡ length ((x ∷ xs) ++ rest)
    → 0 < copies (with_tiles font (unmeasured_run word) (x ∷ xs))
    → Reaches word (neg_ℤ (begin (tiles font ((x ∷ xs) ++ rest) (runs font (Word word) ((x ∷ xs) ++ rest) ps))))
    (copies (with_tiles font (unmeasured_run word) (x ∷ xs)) * (with_tiles font (unmeasured_run word) (x ∷ xs)).tiles)

-- law: the leftmost tile's offset puts it at that distance, modulo 2^32
abbrev pub LeftmostIsThere : Type 0
LeftmostIsThere = (p : Position) (ps : List Position) (t : Tile) (ts : List (Option Tile)) → first_of (all_positions (p ∷ ps) (Some t ∷ ts)) ≡ Some (tile_at p (begin (Some t ∷ ts)))

-- laying tiles adds copies of glyphs, and permutes none, whatever the clusters are
abbrev pub TilesKeepPlainly : Type 0
TilesKeepPlainly = (font : FaceParts) → KeepsPlainly (tiles_laid font)
