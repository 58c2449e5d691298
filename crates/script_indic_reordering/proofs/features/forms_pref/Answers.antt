use Rattle.std.proofs.Common.{arith}
use Rattle.script_indic_reordering.proofs.Lemmas.Walks.{two_form}
use Rattle.script_indic_reordering.proofs.features.forms_pref.Goals as goal

pub returns-clause-value : goal.returns-clause-value
returns-clause-value g c =
    let other = c.if-i-glyphs.false in
    let lt = c.requires in
    two_form (g.F.IndicForms.forms_of c.args.forms.now) c.args.glyphs.now c.args.i _ _ c.form_pref.result (omega (arith, other, lt)) c.form_pref.ensures
