use Rattle.std.proofs.Common.{sym, ◌∙◌}
use Rattle.script_syllabic.proofs.Forming.{gets_form, left_as_it_is}
use Rattle.script_syllabic.specs.Features.{connects}
use Rattle.script_syllabic.proofs.forms.form_syllable.Goals as goal
use Rattle.std.proofs.Common.{drop}
use Rattle.buffer_core.specs.Sides.{items_of}

pub returns-then-not-connects_at-clause-rewritten : goal.returns-then-not-connects_at-clause-rewritten
returns-then-not-connects_at-clause-rewritten c =
    let r = c.requires in
    left_as_it_is c.args.masks.now c.args.start c.args.end c.args.before (connects (drop c.args.end (items_of c.args.buffer.now))) c.args.buffer.now r.ordered r.ready (sym c.connects_at.ensures ∙ c.if-not-connects_at.true)

pub returns-clause-rewritten : goal.returns-clause-rewritten
returns-clause-rewritten c =
    let r = c.requires in
    gets_form c.args.masks.now c.args.start c.args.end c.form.result c.args.before c.connects_at-behind.result c.args.buffer.now c.set_form.new.buffer r.ordered (sym c.connects_at.ensures ∙ c.if-not-connects_at.false) c.connects_at-behind.ensures c.form.ensures c.set_form.ensures
