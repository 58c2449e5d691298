use Rattle.std.proofs.Common.{rules, arith, false, drop}
use Rattle.std.proofs.lemmas.Grind.{common_steps}
use Rattle.buffer_glyphs.specs.Deleting.{Deletes}
use Rattle.buffer_lists.proofs.Ordered.{order_gone}
use Rattle.buffer_lists.proofs.deletion.delete_first.Goals as goal

pub returns-then-is_empty-clause-order : goal.returns-then-is_empty-clause-order
returns-then-is_empty-clause-order c =
    let gone : Deletes c.args.level c.args.output.now c.args.input.now c.args.output.now (drop 1 c.delete_at_front.new.glyphs) c.delete_at_front.result = first_of (search rules, grind (arith, common_steps)) in
    order_gone c.args.known c.args.level c.args.output.now c.args.input.now c.args.output.now (drop 1 c.delete_at_front.new.glyphs) c.delete_at_front.result c.requires.some gone c.requires.known

pub returns-clause-order : goal.returns-clause-order
returns-clause-order c = order_gone c.args.known c.args.level c.args.output.now c.args.input.now c.delete_after_output.new.output (drop 1 c.args.input.now) false c.requires.some (c.delete_after_output.ensures c.args.level) c.requires.known
