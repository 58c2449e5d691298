use Rattle.std.proofs.Common.{ap, ◌∙◌}
use Rattle.caret_model.specs.Ligatures.{run_carets}
use Rattle.caret_model.specs.Stops.{in_text_order, own_carets, with_stops}
use Rattle.caret_model.proofs.Stopped.{next_stopped}
use Rattle.caret_model.proofs.stops.with_stops.Goals as goal

pub loop-i-preserved : goal.loop-i-preserved
loop-i-preserved c =
    let cs = in_text_order c.args.backward c.args.carets.now in
    let own = own_carets c.args.ligatures.now c.args.glyphs.now c.args.slices.now c.args.backward in
    next_stopped c.args.backward own c.run_carets-own.result.now c.args.stops.now cs c.loop-i.found.items c.push_inner.new.found.items c.push-in-loop-i.new.self.items (with_stops c.args.backward own c.args.stops.now cs) c.loop-i.i c.loop-i.last c.text_item-next.result
    c.text_item-next.ensures (c.run_carets-own.ensures ∙ ap (run_carets c.args.ligatures.now c.args.glyphs.now) c.text_slice.ensures) c.in_ok-push_inner.ensures c.in_ok-push-2.ensures.items c.loop-i.invariant
