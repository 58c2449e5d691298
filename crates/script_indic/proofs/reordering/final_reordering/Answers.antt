use Rattle.std.proofs.Common.{subst}
use Rattle.buffer_core.specs.Sides.{items_of}
use Rattle.buffer_stages.specs.Ready.{IsDone}
use Rattle.script_syllabic.proofs.Quiet.{quiet_brings_none, quiet_done, rule_quiet}
use Rattle.script_indic_reordering.specs.declared.script.IndicMasks.{IndicMasks}
use Rattle.script_indic_reordering.specs.Orders.{final_order}
use Rattle.script_indic.specs.declared.config.IndicConfig.{IndicConfig}
use Rattle.script_indic.specs.Masks.{indic_masks}
use Rattle.script_indic.specs.Reordering.{final_stage}
use Rattle.script_indic.proofs.Keeping.{final_order_permutes}
use Rattle.script_indic.proofs.reordering.final_reordering.Goals as goal

pub returns-clause-stage : goal.returns-clause-stage
returns-clause-stage c =
    let a = c.args.buffer.now in
    let b = c.reorder_final.new.buffer in
    let reph_pos = c.indic_config-config.result.reph_pos in
    let masks = c.indic_masks-masks.result in
    let done = quiet_done (final_stage reph_pos masks) a b (rule_quiet (final_order reph_pos masks) a b (final_order_permutes reph_pos masks (items_of a)) c.in_ok-reorder_final.ensures) in
    let M : IndicMasks → Type 0 = λ m. IsDone (final_stage reph_pos m) a b in
    let C : IndicConfig → Type 0 = λ k. IsDone (final_stage k.reph_pos (indic_masks k.blwf_mode c.args.map.now)) a b in
    subst C c.indic_config-config.ensures (subst M c.indic_masks-masks.ensures.value done)

pub returns-clause-brings_none : goal.returns-clause-brings_none
returns-clause-brings_none c = λ e.
    let a = c.args.buffer.now in
    let b = c.reorder_final.new.buffer in
    let reph_pos = c.indic_config-config.result.reph_pos in
    let masks = c.indic_masks-masks.result in
    quiet_brings_none (final_stage reph_pos masks) a b (rule_quiet (final_order reph_pos masks) a b (final_order_permutes reph_pos masks (items_of a)) c.in_ok-reorder_final.ensures)
