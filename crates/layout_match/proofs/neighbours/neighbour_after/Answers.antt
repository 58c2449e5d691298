use Rattle.buffer_glyphs.specs.Items.{strip}
use Rattle.layout_match.specs.Applied.{apply_context_of, context_search, own_search}
use Rattle.layout_match.proofs.Beside.{known_there}
use Rattle.layout_match.proofs.neighbours.neighbour_after.Goals as goal

pub returns-in-Some-clause-input : goal.returns-in-Some-clause-input
returns-in-Some-clause-input c =
    let xs = strip c.args.buffer.now.ahead in
    known_there c.neighbour_of.result (own_search (apply_context_of c.args.ctx.now) xs) 1 xs c.in-Some.info.now c.in-Some.ensures c.neighbour_of.ensures

pub returns-in-Some-clause-lookahead : goal.returns-in-Some-clause-lookahead
returns-in-Some-clause-lookahead c =
    let xs = strip c.args.buffer.now.ahead in
    known_there c.neighbour_of.result (context_search (apply_context_of c.args.ctx.now) xs) 1 xs c.in-Some.info.now c.in-Some.ensures c.neighbour_of.ensures
