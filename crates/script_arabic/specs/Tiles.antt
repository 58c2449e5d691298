-- The tiles that a word is stretched over (OpenType specification, feature stch).
use Rattle.std.specs.Prelude.{◌==◌, ◌||◌, ◌%◌, Bool, if◌then◌else◌}
use Rattle.script_categories.specs.declared.arabic_action_t.TheConstants as action
use Rattle.buffer_glyphs.specs.LigatureWords.{is_multiplied, lig_comp}
use Rattle.buffer_glyphs.specs.Items.{Item}
use Rattle.buffer_core.specs.Readings.{Stage, always, as_it_is}
use Rattle.buffer_stages.specs.Stages.{with_items_mapped}

-- an item is a fixed tile
abbrev pub is_fixed : Item → Bool
is_fixed x = x.auxiliary == action.STRETCHING_FIXED

-- an item is a repeating tile
abbrev pub is_repeating : Item → Bool
is_repeating x = x.auxiliary == action.STRETCHING_REPEATING

-- an item is a tile, fixed or repeating
abbrev pub is_tile : Item → Bool
is_tile x = is_fixed x || is_repeating x

-- an item recorded as a tile: of the components of a multiple substitution the odd ones repeat, the others are fixed
abbrev pub tile_recorded : Item → Item
tile_recorded x =
    if is_multiplied x then record x { auxiliary = if lig_comp x % 2 == 1 then action.STRETCHING_REPEATING else action.STRETCHING_FIXED }
    else x

-- the stage that records the tiles, where the font has the feature stch (HarfBuzz: record_stch)
abbrev pub tiles_recorded : Bool → Stage
tiles_recorded has_stch v = if has_stch then always (with_items_mapped tile_recorded) v else as_it_is v
