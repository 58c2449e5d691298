use Rattle.std.proofs.Common.{Some, arith}
use Rattle.script_categories.specs.declared.ot_category_t.TheConstants as category
use Rattle.script_categories.specs.declared.ot_position_t.TheConstants as position
use Rattle.script_categories.specs.declared.syllable_kinds.indic.TheConstants as indic
use Rattle.buffer_stages.specs.Settings.{text_flags}
use Rattle.script_syllabic.specs.Rules.{circle_rule}
use Rattle.script_syllabic.proofs.Quiet.{circles_refused, ordered_brings_none, ordered_done, ordered_longer, ok_is}
use Rattle.script_indic_reordering.specs.Lemmas.InitialPermuted.{initial_syllable_permutes}
use Rattle.script_indic_reordering.specs.Orders.{initial_syllable}
use Rattle.script_indic.specs.Reordering.{circles_order}
use Rattle.script_syllabic.proofs.Does.{passed_glyph_stage}
use Rattle.script_indic.proofs.reordering.insert_and_reorder.Goals as goal

pub returns-clause-stage : goal.returns-clause-stage
returns-clause-stage g c =
    let i = c.in_ok-inserted.ensures in
    let forms = g.F.IndicForms.forms_of c.args.forms.now in
    ordered_done c.args.face.now c.args.buffer.now.flags indic.BROKEN_CLUSTER category.OT_DOTTEDCIRCLE (Some category.OT_Repha) (Some position.POS_END) (initial_syllable c.args.mode c.args.masks.now forms) c.args.buffer.now c.insert_dotted_circles.new.buffer c.reorder_initial.new.buffer (initial_syllable_permutes c.args.mode c.args.masks.now forms) i.stage i.glyphs c.in_ok-reorder_initial.ensures

pub returns-clause-longer : goal.returns-clause-longer
returns-clause-longer g c =
    let forms = g.F.IndicForms.forms_of c.args.forms.now in
    ordered_longer (initial_syllable c.args.mode c.args.masks.now forms) c.args.buffer.now c.insert_dotted_circles.new.buffer c.reorder_initial.new.buffer c.in_ok-inserted.inserted (initial_syllable_permutes c.args.mode c.args.masks.now forms) (c.in_ok-inserted.ensures.longer (omega arith)) c.in_ok-reorder_initial.ensures

pub returns-clause-brings_none : goal.returns-clause-brings_none
returns-clause-brings_none g c = λ e.
    let i = c.in_ok-inserted.ensures in
    let forms = g.F.IndicForms.forms_of c.args.forms.now in
    ordered_brings_none (circle_rule c.args.face.now c.args.buffer.now.flags indic.BROKEN_CLUSTER category.OT_DOTTEDCIRCLE (Some category.OT_Repha) (Some position.POS_END)) (initial_syllable c.args.mode c.args.masks.now forms) c.args.buffer.now c.insert_dotted_circles.new.buffer c.reorder_initial.new.buffer c.in_ok-inserted.inserted (initial_syllable_permutes c.args.mode c.args.masks.now forms) i.inserted i.stage c.in_ok-reorder_initial.ensures (ok_is c.in_ok-inserted.inserted e)

pub returns-in_err-inserted-clause-stage : goal.returns-in_err-inserted-clause-stage
returns-in_err-inserted-clause-stage g c =
    let cause = c.in_err-inserted.field-0.0 in
    let rule = initial_syllable c.args.mode c.args.masks.now (g.F.IndicForms.forms_of c.args.forms.now) in
    passed_glyph_stage (circles_order c.args.face.now (text_flags c.args.buffer.now.flags) rule) c.from_residual.result cause c.args.buffer.now c.insert_dotted_circles.new.buffer c.from_residual.ensures.1
    (λ other. circles_refused c.args.face.now c.args.buffer.now.flags indic.BROKEN_CLUSTER category.OT_DOTTEDCIRCLE (Some category.OT_Repha) (Some position.POS_END) rule c.args.buffer.now cause (c.in_err-inserted.ensures.stage other))
