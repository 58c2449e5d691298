use Rattle.std.proofs.Common.{◌∙◌, sym}
use Rattle.script_indic_reordering.proofs.Lemmas.FinalSteps.{form_moves, form_none}
use Rattle.script_indic_reordering.proofs.final_order.move_pref.Goals as goal

pub returns-in_default : goal.returns-in_default
returns-in_default c =
    let a = c.args in
    let r = c.requires in
    form_none a.mask a.start a.end a.base c.info_slice.result.now a.buffer.now c.info_slice.ensures r.ready r.ordered (sym c.pref_form.ensures.value ∙ c.in_default.is)

pub returns : goal.returns
returns c =
    let a = c.args in
    let r = c.requires in
    form_moves a.mask a.start a.end a.base _ c.pref_target-to.result c.info_slice.result.now a.buffer.now c.move_back.new.buffer c.info_slice.ensures r.ordered r.within (sym c.pref_form.ensures.value ∙ c.in-Some.is) c.pref_target-to.ensures.index c.move_back.ensures
