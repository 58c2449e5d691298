use Rattle.std.proofs.Common.{arith}
use Rattle.script_khmer.proofs.KhmerScan.{none_taken, some_taken}
use Rattle.script_khmer.proofs.runs.merged_at.Goals as goal

pub returns-then-count-eq0-clause-reach : goal.returns-then-count-eq0-clause-reach
returns-then-count-eq0-clause-reach c = none_taken c.args.forms c.args.glyphs.now c.args.i c.args.merged c.front_count-count.result c.requires.some c.requires.there c.front_count-count.ensures.value c.if-count-eq0.true

pub returns-clause-reach : goal.returns-clause-reach
returns-clause-reach c =
    let other = c.if-count-eq0.false in
    some_taken c.args.forms c.args.glyphs.now c.args.i c.args.merged c.front_count-count.result c.requires.some c.requires.there c.front_count-count.ensures.value (omega (arith, other))
