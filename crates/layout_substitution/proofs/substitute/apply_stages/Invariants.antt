use Rattle.std.proofs.Common.{◌≡◌}
use Rattle.layout_map_features.specs.declared.per_table.TableIndex.TheVariants.{GSUB}
use Rattle.buffer_stages.specs.Settings.{text_settings}
use Rattle.buffer_core.specs.Sides.{items_of}
use Rattle.layout_match.specs.Skipping.{HoldsText}
use Rattle.layout_substitution.specs.Substituting.{substitution_lookups}
use Rattle.layout_substitution.proofs.Ways.{AreTableStagesDone}
use Rattle.layout_substitution.proofs.substitute.apply_stages.Given as goal

-- the stages so far were done
abbrev pub invariant-loop-i : goal.invariant-loop-i
invariant-loop-i g l = record {
  done : AreTableStagesDone l.fn.ctx.face.now (substitution_lookups l.fn.ctx.face.now) l.map.tables.gsub (g.P.Pause.stage l.pause (text_settings l.fn.buffer)) l.i l.fn.ctx.random_state l.ctx.random_state l.fn.buffer l.buffer;
  held : HoldsText (g.T.TextDigest.sets l.text) (items_of l.buffer);
  substitution : l.ctx.table_index ≡ GSUB;
  face : l.ctx.face.now ≡ l.fn.ctx.face.now;
  stages : l.stages ≡ l.map.tables.gsub.stages;
}
