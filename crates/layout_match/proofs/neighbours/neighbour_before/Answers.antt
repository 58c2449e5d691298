use Rattle.buffer_glyphs.specs.Items.{strip}
use Rattle.layout_match.specs.Applied.{apply_context_of, context_search}
use Rattle.layout_match.proofs.Beside.{known_behind}
use Rattle.layout_match.proofs.neighbours.neighbour_before.Goals as goal

pub returns-in-Some-clause-context : goal.returns-in-Some-clause-context
returns-in-Some-clause-context c =
    let s = c.args.buffer.now in
    known_behind c.neighbour_of.result (context_search (apply_context_of c.args.ctx.now) (strip s.ahead)) s.behind c.in-Some.info.now c.in-Some.ensures c.neighbour_of.ensures
