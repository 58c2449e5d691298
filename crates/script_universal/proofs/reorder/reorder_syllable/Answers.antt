use Rattle.script_universal.proofs.Steps.{reordered_does}
use Rattle.script_universal.proofs.reorder.reorder_syllable.Goals as goal

pub returns : goal.returns
returns c = reordered_does c.args.start c.args.end c.args.buffer.now c.move_reph.new.buffer c.move_left.new.buffer c.requires.ordered c.requires.within c.move_reph.ensures c.move_left.ensures
