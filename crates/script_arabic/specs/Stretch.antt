-- The layout of tiles over the word before them (OpenType specification, feature stch).
use Rattle.std.specs.Prelude.{ℕ, ◌+◌, true, false, not, pos, nat_le, if◌then◌else◌, List, [], ◌∷◌, ◌++◌, Option, Ok, Err, length}
use Rattle.std.specs.List.{list_all}
use Rattle.buffer_glyphs.specs.declared.cause.ShapeCause.TheVariants.{StretchRange, TooLong}
use Rattle.layout_face.specs.declared.parts.FaceParts.{FaceParts}
use Rattle.buffer_glyphs.specs.Items.{Item}
use Rattle.buffer_glyphs.specs.Events.{Event, StrictBreak}
use Rattle.buffer_core.specs.Readings.{Stage, View, with_events}
use Rattle.script_arabic.specs.declared.runs.Run.{Run}
use Rattle.script_arabic.specs.declared.runs.Before.TheVariants.{Word}
use Rattle.script_arabic.specs.Words.{is_of_word}
use Rattle.script_arabic.specs.Tiles.{is_tile}
use Rattle.script_arabic.specs.Runs.{runs}
use Rattle.script_arabic.specs.declared.stretch.WordWalk.{WordWalk}
use Rattle.script_arabic.specs.declared.tile.Tile.{Tile}
use Rattle.script_arabic.specs.Laying.{is_in_range, tiles}
use Rattle.script_arabic.specs.Copying.{with_tile_copies, events_from}
use Rattle.script_arabic.specs.TilePositions.{all_positions}

-- the event of a word that ends before an index, and of its tiles, which fill its width
abbrev pub stretch_event : WordWalk → ℕ → List Event
stretch_event w at = if w.has_tiles then StrictBreak w.start at ∷ [] else []

-- the event before an item: the first one after tiles ends their word
abbrev pub stretch_event_at : WordWalk → ℕ → Item → List Event
stretch_event_at w at x = if is_tile x then [] else stretch_event w at

-- the start of the word of an item that is no tile
abbrev pub word_start : WordWalk → ℕ → Item → ℕ
word_start w at x = if not (is_of_word x) then at + 1 else if w.has_tiles then at else w.start

-- the word after an item at an index
abbrev pub word_past : WordWalk → ℕ → Item → WordWalk
word_past w at x = if is_tile x then record w { has_tiles = true } else record { start = word_start w at x; has_tiles = false }

-- the events of the words that tiles are laid over, from an index on
abbrev pub stretch_events : WordWalk → ℕ → List Item → List Event
stretch_events w at [] = stretch_event w at
stretch_events w at (x ∷ xs) = stretch_event_at w at x ++ stretch_events (word_past w at x) (at + 1) xs

-- the events of all words of a text
abbrev pub text_stretch_events : List Item → List Event
text_stretch_events xs = stretch_events (record { start = 0; has_tiles = false }) 0 xs

-- the stage that inserts the tiles' copies and sets the positions, where the list is within the limit
abbrev pub with_tiles_laid : List (Option Tile) → Stage
with_tiles_laid ts v =
    if nat_le (length (with_tile_copies v.items ts)) v.max_len
    then Ok (with_events (text_stretch_events v.items ++ events_from 0 ts) (record v { items = with_tile_copies v.items ts; positions = all_positions v.positions ts }))
    else Err TooLong

-- the run of each glyph of a text that is a tile
abbrev pub text_runs : FaceParts → View → List (Option Run)
text_runs font v = runs font (Word (pos 0)) v.items v.positions

-- the stage that lays tiles over their words, where each width fits in 32 bits (HarfBuzz: apply_stch)
abbrev pub tiles_laid : FaceParts → Stage
tiles_laid font v =
    if list_all is_in_range (text_runs font v) then with_tiles_laid (tiles font v.items (text_runs font v)) v
    else Err StretchRange
