use Rattle.buffer_glyphs.specs.Items.{clusters}
use Rattle.buffer_lists.proofs.Between.{known_between, known_first, known_second}
use Rattle.buffer_lists.proofs.order.KnownOrder.with_between.Goals as goal

pub returns-then-holds_before : goal.returns-then-holds_before
returns-then-holds_before c h =
    let front = clusters c.args.output.now in
    let back = clusters c.args.input.now in
    let before = c.holds_after.ensures c.if-holds_after.true (known_first c.args.self front back h) in
    let after = c.holds_before.ensures c.if-holds_before.true (known_second c.args.self front back h) in
    known_between c.args.self c.args.cluster front back h before after
