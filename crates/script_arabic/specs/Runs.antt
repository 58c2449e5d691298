-- Runs of tiles, and the word before each.
use Rattle.std.specs.Prelude.{ℕ, ℤ, pos, ◌+◌, ◌+ℤ◌, nat_le, if◌then◌else◌, List, [], ◌∷◌, Option, None, Some}
use Rattle.layout_face.specs.declared.parts.FaceParts.{FaceParts}
use Rattle.layout_face.specs.Glyphs.{width_of}
use Rattle.buffer_glyphs.specs.Items.{Item, Position}
use Rattle.script_arabic.specs.declared.runs.Run.{Run}
use Rattle.script_arabic.specs.declared.runs.Before.{Before}
use Rattle.script_arabic.specs.declared.runs.Before.TheVariants.{Word, Tiles}
use Rattle.script_arabic.specs.Words.{is_of_word}
use Rattle.script_arabic.specs.Tiles.{is_fixed, is_tile}

-- the advance of an item's glyph in the font, 0 where there is no such glyph
abbrev pub width : FaceParts → Item → ℕ
width font x = if nat_le x.number 65535 then width_of x.number font else 0

-- an empty run after a word of a width
abbrev pub unmeasured_run : ℤ → Run
unmeasured_run word = record { word = word; fixed = 0; repeating = 0; tiles = 0 }

-- a run with one more tile, whose width is its advance in the font
abbrev pub with_tile : FaceParts → Run → Item → Run
with_tile font r x =
    if is_fixed x then record r { fixed = r.fixed + width font x }
    else record r { repeating = r.repeating + width font x; tiles = r.tiles + 1 }

-- a run with the tiles at the start of a list
abbrev pub with_tiles : FaceParts → Run → List Item → Run
with_tiles font r [] = r
with_tiles font r (x ∷ xs) = if is_tile x then with_tiles font (with_tile font r x) xs else r

-- ---- the run of each tile

-- the width of the word that ends before a glyph; 0 after tiles
abbrev pub word_before : Before → ℤ
word_before (Word w) = w
word_before (Tiles r) = pos 0

-- the width of the word after a glyph: its advance is added, or the word is over
abbrev pub word_after : Before → Item → Position → ℤ
word_after before x p = if is_of_word x then word_before before +ℤ p.x_advance else pos 0

-- the run of the tiles at the start of a list, or the run that continues there
abbrev pub run_here : FaceParts → Before → List Item → Run
run_here font (Word w) xs = with_tiles font (unmeasured_run w) xs
run_here font (Tiles r) xs = r

-- what is before the item after the first one
abbrev pub next_before : FaceParts → Before → List Item → Position → Before
next_before font before [] p = before
next_before font before (x ∷ xs) p = if is_tile x then Tiles (run_here font before (x ∷ xs)) else Word (word_after before x p)

-- the run that continues, if there is one
abbrev pub tile_run : Before → Option Run
tile_run (Word w) = None
tile_run (Tiles r) = Some r

-- the run of each glyph that is a tile
abbrev pub runs : FaceParts → Before → List Item → List Position → List (Option Run)
runs font before [] ps = []
runs font before (x ∷ xs) [] = []
runs font before (x ∷ xs) (p ∷ ps) = tile_run (next_before font before (x ∷ xs) p) ∷ runs font (next_before font before (x ∷ xs) p) xs ps
