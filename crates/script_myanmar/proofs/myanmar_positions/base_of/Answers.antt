use Rattle.std.proofs.Common.{arith, sym, ◌∙◌}
use Rattle.std.proofs.lemmas.Option.{slice_get-get_or}
use Rattle.script_myanmar.proofs.Placing.{base_found, sought_next}
use Rattle.script_myanmar.proofs.myanmar_positions.base_of.Goals as goal

pub returns-then-is_base-clause-index : goal.returns-then-is_base-clause-index
returns-then-is_base-clause-index c = base_found c.args.glyphs.now c.loop-i.i _ (slice_get-get_or c.args.glyphs.now c.loop-i.i _ (omega arith)) (sym c.is_base.ensures ∙ c.if-is_base.true) c.loop-i.invariant

pub loop-i-preserved : goal.loop-i-preserved
loop-i-preserved c = sought_next c.args.glyphs.now c.loop-i.i _ (slice_get-get_or c.args.glyphs.now c.loop-i.i _ (omega arith)) (sym c.is_base.ensures ∙ c.if-is_base.false) c.loop-i.invariant
