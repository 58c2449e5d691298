use Rattle.std.proofs.Common.{◌≡◌, drop}
use Rattle.font_common.specs.Offsets.{after}
use Rattle.font_cff.specs.Names.{names_from}
use Rattle.font_cff.proofs.names.read_names.Given as goal

-- the names so far, and those that are left, are all
abbrev pub invariant-loop-glyph : goal.invariant-loop-glyph
invariant-loop-glyph l = names_from l.table l.strings l.fn.room.left 0 l.sids ≡ after l.rows.items (names_from l.table l.strings l.room.left l.glyph (drop l.glyph l.sids))
