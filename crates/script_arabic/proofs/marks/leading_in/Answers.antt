use Rattle.script_arabic.proofs.Reordered.{below_seen, leading_seen}
use Rattle.script_arabic.proofs.marks.leading_in.Goals as goal

pub returns-clause-leading : goal.returns-clause-leading
returns-clause-leading c =
    let n = c.count_below-below.result in
    leading_seen c.args.class n c.count_modifiers-leading.result c.args.run.now (below_seen c.args.class n c.args.run.now c.count_below-below.ensures.count) c.count_modifiers-leading.ensures.count
