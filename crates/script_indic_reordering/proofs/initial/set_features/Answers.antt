use Rattle.script_indic_reordering.proofs.Lemmas.Steps.{features_do}
use Rattle.script_indic_reordering.proofs.initial.set_features.Goals as goal

pub returns : goal.returns
returns g c =
    let a = c.args in
    features_do a.masks.now (g.F.IndicForms.forms_of a.forms.now) a.start a.end c.pref_pair-pair.result c.info_slice.result.now a.buffer.now c.rewrite_part.new.buffer c.info_slice.ensures c.pref_pair-pair.ensures.value c.rewrite_part.ensures
