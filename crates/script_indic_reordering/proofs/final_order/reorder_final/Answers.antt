use Rattle.script_indic_reordering.specs.Orders.{final_syllable, init_masked}
use Rattle.buffer_stages.specs.Rewriting.{by_syllable}
use Rattle.script_indic_reordering.proofs.Lemmas.FinalSteps.{followed_next}
use Rattle.script_indic_reordering.proofs.final_order.reorder_final.Goals as goal

pub returns : goal.returns
returns c =
    let m = c.args.masks.now in
    followed_next (by_syllable (final_syllable c.args.reph_pos m)) (init_masked m) c.args.buffer.now c.each_syllable.new.buffer c.mask_words.new.buffer c.in_ok-each_syllable.ensures c.mask_words.ensures
