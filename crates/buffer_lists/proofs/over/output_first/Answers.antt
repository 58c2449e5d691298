use lib.Seq.{paste}
use Rattle.std.proofs.Common.{◌≡◌, ◌≤◌, ◌+◌, ◌-◌, length, drop, arith}
use Rattle.std.proofs.lemmas.List.{length-drop}
use Rattle.buffer_lists.proofs.Fronts.{pasted_past, take_on}
use Rattle.buffer_lists.proofs.over.output_first.Goals as goal

pub returns-then-front-from-clause-input : goal.returns-then-front-from-clause-input
returns-then-front-from-clause-input c =
    let gs = c.args.glyphs.now in
    let wide : c.args.from + c.args.count - c.args.from ≡ c.args.count = omega arith in
    let written : c.copy_within.new.self ≡ paste gs c.args.front (drop c.args.from gs) c.args.count = rw wide at c.copy_within.ensures.after in
    let few : c.args.count ≤ length (drop c.args.from gs) = omega (arith, length-drop c.args.from gs, c.requires.within) in
    let short : c.args.front ≤ length gs = omega (arith, c.requires.within, c.requires.ordered) in
    pasted_past gs c.copy_within.new.self (drop c.args.from gs) c.args.front c.args.count (c.args.from + c.args.count) short few (omega (arith, c.requires.ordered)) written

pub returns-else-front-from-clause-output : goal.returns-else-front-from-clause-output
returns-else-front-from-clause-output c =
    let same : c.args.from ≡ c.args.front = omega (arith, c.requires.ordered, c.if-front-from.false) in
    rw same (take_on c.args.glyphs.now c.args.front c.args.count)
