use Rattle.script_hebrew.proofs.MarksPlaced.{hebrew_rearranges}
use Rattle.script_hebrew.proofs.mark_order.reorder_marks.Goals as goal

pub returns : goal.returns
returns c = λ front run rest e at last. hebrew_rearranges c.args.start c.args.end c.args.buffer.now c.reorder_marks.new.buffer front run rest c.requires.ready c.reorder_marks.ensures e at last
