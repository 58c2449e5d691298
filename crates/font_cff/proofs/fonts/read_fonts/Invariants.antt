use Rattle.std.proofs.Common.{◌≡◌, ◌-◌}
use Rattle.font_common.specs.Offsets.{after, tables_in}
use Rattle.font_cff.specs.Fonts.{font_private, numbers}
use Rattle.font_cff.proofs.fonts.read_fonts.Given as goal

-- the private DICTs so far, and those that are left, are all
abbrev pub invariant-loop-index : goal.invariant-loop-index
invariant-loop-index l = tables_in (font_private l.table l.cff l.dicts) l.fn.room.left (numbers 0 l.dicts.count)
    ≡ after l.privates.items (tables_in (font_private l.table l.cff l.dicts) l.room.left (numbers l.index (l.dicts.count - l.index)))
