use Rattle.std.proofs.Common.{◌≡◌, length, arith}
use Rattle.std.proofs.lemmas.Grind.{common_steps}
use Rattle.std.proofs.lemmas.Bool.Decides.{nat_tests}
use Rattle.buffer_glyphs.specs.Items.{clusters}
use Rattle.buffer_glyphs.proofs.Joined.{nothing_beside, renamed_after}
use Rattle.buffer_glyphs.proofs.runs.merge_after.Goals as goal

pub returns-then-is_empty : goal.returns-then-is_empty
returns-then-is_empty c =
    let none : length c.args.range.now ≡ 0 = grind (arith, nat_tests, common_steps, c.is_empty.ensures, c.if-is_empty.true) in
    nothing_beside c.args.range.now c.args.glyphs.now none

pub returns : goal.returns
returns c =
    renamed_after (clusters c.args.range.now) c.last_cluster.result c.least_cluster-low.result c.args.glyphs.now c.rename_front.new.glyphs c.last_cluster.ensures c.least_cluster-low.ensures (c.requires c.if-not-in_order.false) c.rename_front.ensures
