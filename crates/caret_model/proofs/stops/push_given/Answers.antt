use Rattle.std.proofs.Common.{arith, rules, get_or, w16, ap, ◌∙◌, ◌++◌, [], ◌∷◌}
use Rattle.std.proofs.lemmas.Int.{to_z-of_z}
use Rattle.std.proofs.lemmas.Option.{slice_get-get_or}
use Rattle.caret_model.specs.Stops.{given_caret, given_carets, in_text_order}
use Rattle.caret_model.proofs.GivenCarets.{next_given}
use Rattle.caret_model.proofs.stops.push_given.Goals as goal

pub loop-k-preserved : goal.loop-k-preserved
loop-k-preserved c =
    let xs = in_text_order c.args.backward c.args.own.now in
    let stop = get_or c.args.stops.now c.loop-k.k 0 in
    next_given c.args.backward c.args.ends.0 c.args.ends.1 c.args.stops.now xs c.loop-k.found.items c.push.new.self.items
    (c.args.found.now.items ++ given_carets c.args.backward c.args.ends.0 c.args.ends.1 c.args.stops.now xs) c.loop-k.k stop c.coordinate_at-coordinate.result
    (slice_get-get_or c.args.stops.now c.loop-k.k 0 (omega arith)) c.coordinate_at-coordinate.ensures
    (c.in_ok-push.ensures.items
    ∙ ap (λ v. c.loop-k.found.items ++ v ∷ []) (c.given_caret.ensures ∙ ap (λ x. given_caret c.args.backward c.args.ends.0 c.args.ends.1 x stop) (to_z-of_z w16 c.coordinate_at-coordinate.result (search rules))))
    c.loop-k.invariant
