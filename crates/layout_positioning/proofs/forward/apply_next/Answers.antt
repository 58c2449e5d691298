use Rattle.layout_match.specs.Applied.{apply_context_of}
use Rattle.layout_match.proofs.Lemmas.Steps.{step_acted, step_over}
use Rattle.layout_positioning.specs.Lookups.{lookup_action}
use Rattle.layout_positioning.proofs.Over.{room_closed}
use Rattle.layout_positioning.proofs.forward.apply_next.Goals as goal

pub returns-then-branch-clause-ok : goal.returns-then-branch-clause-ok
returns-then-branch-clause-ok c =
    let s = c.args.buffer.now in
    let r = c.args.ctx.now.random_state in
    step_acted (lookup_action c.args.table.now.lookups s.direction (apply_context_of c.args.ctx.now) c.args.lookup.now) r r c.in_ok-apply_met.field-0 s c.apply_met.new.buffer c.if-branch.true c.requires.at_glyph_in_place.current c.in_ok-apply_met.ensures.performs

pub returns-clause-ok : goal.returns-clause-ok
returns-clause-ok c =
    let s = c.args.buffer.now in
    let r = c.args.ctx.now.random_state in
    let room = room_closed r c.len-count.result s (c.len-count.ensures.count c.requires.at_glyph_in_place.closed) (c.len-count.ensures.within c.requires.at_glyph_in_place.closed) c.requires.at_glyph_in_place.current in
    step_over (lookup_action c.args.table.now.lookups s.direction (apply_context_of c.args.ctx.now) c.args.lookup.now) r r c.in_ok-apply_met.field-0 s c.apply_met.new.buffer c.pass.new.buffer c.if-branch.false c.requires.at_glyph_in_place.current room c.in_ok-apply_met.ensures.performs c.pass.ensures
