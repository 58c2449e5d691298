use Rattle.script_arabic.proofs.MarksPlaced.{arabic_rearranges}
use Rattle.script_arabic.proofs.mark_order.reorder_marks.Goals as goal

pub returns : goal.returns
returns c = λ front run rest e at last. arabic_rearranges c.args.start c.args.end c.args.buffer.now c.reorder_marks.new.buffer front run rest c.requires.ready c.reorder_marks.ensures e at last
