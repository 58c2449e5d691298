use Rattle.std.proofs.Common.{◌∙◌, sym}
use Rattle.script_indic_reordering.proofs.Lemmas.FinalSteps.{reph_moves, reph_moves_base, reph_none, reph_none_base}
use Rattle.script_indic_reordering.proofs.final_order.move_reph.Goals as goal

pub returns-then-not-begins_with_reph-clause-rewritten : goal.returns-then-not-begins_with_reph-clause-rewritten
returns-then-not-begins_with_reph-clause-rewritten c =
    let a = c.args in
    let r = c.requires in
    reph_none a.reph_pos a.start a.end a.base c.info_slice.result.now a.buffer.now c.info_slice.ensures r.ready r.ordered (sym c.begins_with_reph.ensures ∙ c.if-not-begins_with_reph.true)

pub returns-then-not-begins_with_reph-clause-base : goal.returns-then-not-begins_with_reph-clause-base
returns-then-not-begins_with_reph-clause-base c = let a = c.args in reph_none_base a.reph_pos a.start a.end a.base c.info_slice.result.now a.buffer.now c.info_slice.ensures (sym c.begins_with_reph.ensures ∙ c.if-not-begins_with_reph.true)

pub returns-clause-rewritten : goal.returns-clause-rewritten
returns-clause-rewritten c =
    let a = c.args in
    let r = c.requires in
    reph_moves a.reph_pos a.start a.end a.base c.passed_by_reph-passed.result c.info_slice.result.now a.buffer.now c.move_back.new.buffer c.info_slice.ensures r.ordered r.within (sym c.begins_with_reph.ensures ∙ c.if-not-begins_with_reph.false) c.passed_by_reph-passed.ensures.count c.passed_by_reph-passed.ensures.some c.move_back.ensures

pub returns-clause-base : goal.returns-clause-base
returns-clause-base c =
    let a = c.args in
    reph_moves_base a.reph_pos a.start a.end a.base c.passed_by_reph-passed.result c.base_passed.result c.info_slice.result.now a.buffer.now c.info_slice.ensures (sym c.begins_with_reph.ensures ∙ c.if-not-begins_with_reph.false) c.passed_by_reph-passed.ensures.count c.base_passed.ensures.index
