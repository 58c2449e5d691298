use Rattle.script_indic_reordering.proofs.Lemmas.Steps.{syllable_does}
use Rattle.script_indic_reordering.proofs.initial.reorder_syllable.Goals as goal

pub returns : goal.returns
returns g c =
    let o = c.args.order.now in
    syllable_does o.mode o.masks (g.F.IndicForms.forms_of o.forms.now) c.args.start c.args.end c.args.buffer.now c.set_positions.new.buffer c.sort_by_auxiliary.new.buffer c.reverse_matras.new.buffer c.set_features.new.buffer c.requires.ordered c.requires.within c.set_positions.ensures c.in_ok-sort_by_auxiliary.ensures c.reverse_matras.ensures c.set_features.ensures
