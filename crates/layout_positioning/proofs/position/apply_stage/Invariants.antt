use Rattle.buffer_core.specs.Sides.{items_of}
use Rattle.layout_match.specs.Skipping.{HoldsText}
use Rattle.layout_positioning.proofs.Ways.{AreDone}
use Rattle.layout_positioning.proofs.position.apply_stage.Given as goal

-- the lookups so far were done
abbrev pub invariant-loop-lookup_map : goal.invariant-loop-lookup_map
invariant-loop-lookup_map g l = record {
  done : AreDone l.face l.table.lookups l.lookups l.lookup_map-index l.fn.buffer l.buffer;
  held : HoldsText (g.T.TextDigest.sets l.text) (items_of l.buffer);
}
