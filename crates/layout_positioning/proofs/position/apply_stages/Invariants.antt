use Rattle.std.proofs.Common.{◌≡◌}
use Rattle.buffer_stages.specs.Settings.{text_settings}
use Rattle.buffer_core.specs.Sides.{items_of}
use Rattle.layout_match.specs.Skipping.{HoldsText}
use Rattle.layout_positioning.specs.Positioning.{positioning_lookups}
use Rattle.layout_positioning.proofs.Ways.{AreTableStagesDone}
use Rattle.layout_positioning.proofs.position.apply_stages.Given as goal

-- the stages so far were done
abbrev pub invariant-loop-i : goal.invariant-loop-i
invariant-loop-i g l = record {
  done : AreTableStagesDone l.face (positioning_lookups l.face) l.map.tables.gpos (g.P.Pause.stage l.pause (text_settings l.fn.buffer)) l.i l.fn.buffer l.buffer;
  held : HoldsText (g.T.TextDigest.sets l.text) (items_of l.buffer);
  stages : l.stages ≡ l.map.tables.gpos.stages;
}
