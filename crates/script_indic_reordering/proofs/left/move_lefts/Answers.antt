use Rattle.std.proofs.Common.{arith}
use Rattle.script_indic_reordering.proofs.Lemmas.FinalSteps.{lefts_both}
use Rattle.script_indic_reordering.proofs.left.move_lefts.Goals as goal

pub returns : goal.returns
returns c =
    let a = c.args in
    lefts_both a.start a.end a.base a.buffer.now c.move_after_halant.new.buffer c.merge_to_base.new.buffer c.requires.ordered c.requires.within c.move_after_halant.ensures c.merge_to_base.ensures
