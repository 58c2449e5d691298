use Rattle.std.proofs.Common.{subst}
use Rattle.buffer_core.specs.Sides.{items_of}
use Rattle.buffer_stages.specs.Ready.{DoesGlyphStage}
use Rattle.buffer_stages.specs.Settings.{text_settings}
use Rattle.script_indic_reordering.specs.Orders.{initial_syllable}
use Rattle.script_indic.specs.Reordering.{circles_order, consonants_updated}
use Rattle.script_indic.proofs.Composed.{brings_then, done_then, longer_then, numbers_stay, same_flags}
use Rattle.script_indic.proofs.reordering.reorder_initially.Goals as goal

pub returns-clause-stage : goal.returns-clause-stage
returns-clause-stage g c =
    let forms = g.F.IndicForms.forms_of c.args.forms.now in
    let first = consonants_updated forms c.args.virama in
    let rule = initial_syllable c.args.mode c.args.masks.now forms in
    let a = c.args.buffer.now in
    let b = c.update_positions.new.buffer in
    let q = c.update_positions.ensures in
    let r = c.insert_and_reorder.result in
    let d = c.insert_and_reorder.new.buffer in
    done_then first (circles_order c.args.face.now (text_settings a).flags rule) a b d r q
    (subst (λ f. DoesGlyphStage (circles_order c.args.face.now f rule) r b d) (same_flags first a b q) c.insert_and_reorder.ensures.stage)

pub returns-clause-longer : goal.returns-clause-longer
returns-clause-longer g c =
    let forms = g.F.IndicForms.forms_of c.args.forms.now in
    longer_then (consonants_updated forms c.args.virama) c.args.buffer.now c.update_positions.new.buffer (items_of c.insert_and_reorder.new.buffer) c.insert_and_reorder.result c.update_positions.ensures c.insert_and_reorder.ensures.longer

pub returns-clause-brings_none : goal.returns-clause-brings_none
returns-clause-brings_none g c = λ e.
    let forms = g.F.IndicForms.forms_of c.args.forms.now in
    brings_then (consonants_updated forms c.args.virama) c.args.buffer.now c.update_positions.new.buffer (items_of c.insert_and_reorder.new.buffer) c.update_positions.ensures (c.insert_and_reorder.ensures.brings_none e)

pub insert_and_reorder-requires : goal.insert_and_reorder-requires
insert_and_reorder-requires g c =
    let forms = g.F.IndicForms.forms_of c.args.forms.now in
    record {
      glyphs = record {
        ready = c.update_positions.ensures.followed.ready;
        numbers = numbers_stay (consonants_updated forms c.args.virama) c.args.buffer.now c.update_positions.new.buffer c.update_positions.ensures c.requires.glyphs.numbers;
      };
    }
