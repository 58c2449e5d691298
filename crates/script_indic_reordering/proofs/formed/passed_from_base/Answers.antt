use Rattle.script_indic_reordering.proofs.Lemmas.Formed.{main_passed, sub_passed}
use Rattle.script_indic_reordering.proofs.formed.passed_from_base.Goals as goal

pub returns-then-reph_pos-eq-POS_AFTER_MAIN-clause-count : goal.returns-then-reph_pos-eq-POS_AFTER_MAIN-clause-count
returns-then-reph_pos-eq-POS_AFTER_MAIN-clause-count c = main_passed c.args.reph_pos c.args.base c.count_to_main.result c.args.glyphs.now c.if-reph_pos-eq-POS_AFTER_MAIN.true c.count_to_main.ensures.count

pub returns-then-reph_pos-eq-POS_AFTER_SUB-clause-count : goal.returns-then-reph_pos-eq-POS_AFTER_SUB-clause-count
returns-then-reph_pos-eq-POS_AFTER_SUB-clause-count c = sub_passed c.args.reph_pos c.args.base c.count_to_post.result c.args.glyphs.now c.if-reph_pos-eq-POS_AFTER_SUB.true c.count_to_post.ensures.count
