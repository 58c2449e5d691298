use Rattle.layout_match.specs.Applied.{apply_context_of}
use Rattle.layout_match.proofs.Lemmas.Idle.{met_moved}
use Rattle.layout_positioning.proofs.Idle.{lookup_run}
use Rattle.layout_positioning.proofs.forward.pass_idle.Goals as goal

pub returns-clause-run : goal.returns-clause-run
returns-clause-run c = λ table.
    let s = c.args.buffer.now in
    let count = c.len-count in
    lookup_run table s.direction (apply_context_of c.args.ctx.now) c.args.lookup.now c.run_to_met-run.result count.result s c.pass.new.buffer c.run_to_met-run.ensures.within c.run_to_met-run.ensures.idle (count.ensures.count c.requires.glyphs_in_place.closed) (count.ensures.within c.requires.glyphs_in_place.closed) c.pass.ensures

pub returns-clause-met : goal.returns-clause-met
returns-clause-met c = met_moved (apply_context_of c.args.ctx.now) c.run_to_met-run.result c.args.buffer.now c.pass.new.buffer c.run_to_met-run.ensures.met c.pass.ensures
