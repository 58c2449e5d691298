use Rattle.std.proofs.Common.{true, false, ◌≡◌, ◌%◌, ◌==◌, if◌then◌else◌, refl, rules}
use Rattle.script_categories.specs.declared.arabic_action_t.TheConstants as action
use Rattle.buffer_glyphs.specs.LigatureWords.{is_multiplied, lig_comp}
use Rattle.buffer_glyphs.specs.Items.{Item}
use Rattle.script_arabic.specs.Tiles.{tile_recorded}
use Rattle.script_syllabic.proofs.Quiet.{mapped_quiet}
use Rattle.script_arabic.proofs.tiles.record_tiles.Goals as goal

same_number : (x : Item) → (tile_recorded x).number ≡ x.number
same_number x =
    elim (is_multiplied x) as (λ t. (if t then record x { auxiliary = if lig_comp x % 2 == 1 then action.STRETCHING_REPEATING else action.STRETCHING_FIXED } else x).number ≡ x.number) [ true ↦ refl | false ↦ refl ]

pub returns : goal.returns
returns c = mapped_quiet tile_recorded c.args.buffer.now c.map_glyphs.new.buffer same_number (c.map_glyphs.ensures tile_recorded (λ g h r. search rules))
