use Rattle.script_khmer.proofs.KhmerWalk.{reordered_does}
use Rattle.script_khmer.proofs.khmer.reorder_syllable.Goals as goal

pub returns : goal.returns
returns c = reordered_does c.args.masks.now c.args.start c.args.end c.args.buffer.now c.add_mask.new.buffer c.reorder_from_second.new.buffer c.requires.some c.requires.within c.add_mask.ensures c.reorder_from_second.ensures
