use Rattle.script_myanmar.proofs.MyanmarSteps.{syllable_ordered}
use Rattle.script_myanmar.proofs.myanmar.reorder_syllable.Goals as goal

pub returns : goal.returns
returns c =
    syllable_ordered c.args.start c.args.end c.args.buffer.now c.position_syllable.new.buffer c.sort_by_auxiliary.new.buffer c.reverse_matras.new.buffer c.requires.ordered c.requires.within c.position_syllable.ensures c.in_ok-sort_by_auxiliary.ensures c.reverse_matras.ensures
