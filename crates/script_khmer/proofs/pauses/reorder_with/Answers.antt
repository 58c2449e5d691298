use Rattle.std.proofs.Common.{None, Some, arith}
use Rattle.script_categories.specs.declared.ot_category_t.TheConstants as category
use Rattle.script_categories.specs.declared.syllable_kinds.khmer.TheConstants as khmer
use Rattle.script_khmer.specs.Khmer.{khmer_syllable}
use Rattle.script_khmer.proofs.KhmerPermuted.{syllable_permutes}
use Rattle.script_syllabic.specs.Rules.{circle_rule}
use Rattle.buffer_stages.specs.Settings.{text_flags}
use Rattle.script_khmer.specs.Pauses.{khmer_order}
use Rattle.script_syllabic.proofs.Does.{passed_glyph_stage}
use Rattle.script_syllabic.proofs.Quiet.{circles_refused, ordered_brings_none, ordered_done, ordered_longer, ok_is}
use Rattle.script_khmer.proofs.pauses.reorder_with.Goals as goal

pub returns-clause-stage : goal.returns-clause-stage
returns-clause-stage c =
    let i = c.in_ok-inserted.ensures in
    ordered_done c.args.face.now c.args.buffer.now.flags khmer.BROKEN_CLUSTER category.OT_DOTTEDCIRCLE (Some category.OT_Repha) None (khmer_syllable c.args.masks.now) c.args.buffer.now c.insert_dotted_circles.new.buffer c.reorder_khmer.new.buffer (syllable_permutes c.args.masks.now) i.stage i.glyphs c.in_ok-reorder_khmer.ensures

pub returns-clause-longer : goal.returns-clause-longer
returns-clause-longer c =
    ordered_longer (khmer_syllable c.args.masks.now) c.args.buffer.now c.insert_dotted_circles.new.buffer c.reorder_khmer.new.buffer c.in_ok-inserted.inserted (syllable_permutes c.args.masks.now) (c.in_ok-inserted.ensures.longer (omega arith)) c.in_ok-reorder_khmer.ensures

pub returns-clause-brings_none : goal.returns-clause-brings_none
returns-clause-brings_none c = λ e.
    let i = c.in_ok-inserted.ensures in
    ordered_brings_none (circle_rule c.args.face.now c.args.buffer.now.flags khmer.BROKEN_CLUSTER category.OT_DOTTEDCIRCLE (Some category.OT_Repha) None) (khmer_syllable c.args.masks.now) c.args.buffer.now c.insert_dotted_circles.new.buffer c.reorder_khmer.new.buffer c.in_ok-inserted.inserted (syllable_permutes c.args.masks.now) i.inserted i.stage c.in_ok-reorder_khmer.ensures (ok_is c.in_ok-inserted.inserted e)

pub returns-in_err-inserted-clause-stage : goal.returns-in_err-inserted-clause-stage
returns-in_err-inserted-clause-stage c =
    let cause = c.in_err-inserted.field-0.0 in
    passed_glyph_stage (khmer_order c.args.face.now (text_flags c.args.buffer.now.flags) c.args.masks.now) c.from_residual.result cause c.args.buffer.now c.insert_dotted_circles.new.buffer c.from_residual.ensures.1
    (λ other. circles_refused c.args.face.now c.args.buffer.now.flags khmer.BROKEN_CLUSTER category.OT_DOTTEDCIRCLE (Some category.OT_Repha) None (khmer_syllable c.args.masks.now) c.args.buffer.now cause (c.in_err-inserted.ensures.stage other))
