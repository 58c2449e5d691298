use Rattle.std.proofs.Common.{◌≡◌, true, drop}
use Rattle.layout_map_features.specs.declared.per_table.TableIndex.TheVariants.{GSUB}
use Rattle.buffer_core.specs.Sides.{items_of}
use Rattle.layout_match.specs.Skipping.{HoldsText}
use Rattle.layout_substitution.specs.Steps.{HasZeroPositions}
use Rattle.layout_substitution.proofs.Stages.{AreDone}
use Rattle.layout_substitution.proofs.substitute.apply_stage.Given as goal

-- the lookups so far were done
abbrev pub invariant-loop-lookup_map : goal.invariant-loop-lookup_map
invariant-loop-lookup_map g l = record {
  done : AreDone l.fn.ctx.face.now l.table.lookups l.lookups (drop l.lookup_map-index l.lookups) l.fn.ctx.random_state l.ctx.random_state l.fn.buffer l.buffer;
  substitution : l.ctx.table_index ≡ GSUB;
  held : HoldsText (g.T.TextDigest.sets l.text) (items_of l.buffer);
  face : l.ctx.face.now ≡ l.fn.ctx.face.now;
  cleared : l.cleared ≡ true → HasZeroPositions l.buffer;
}
