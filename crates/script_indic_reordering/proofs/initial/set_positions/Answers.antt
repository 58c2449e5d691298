use Rattle.script_indic_reordering.proofs.Lemmas.Steps.{positions_do}
use Rattle.script_indic_reordering.proofs.initial.set_positions.Goals as goal

pub returns : goal.returns
returns g c =
    let base = c.find_base-base in
    positions_do c.args.mode (g.F.IndicForms.forms_of c.args.forms.now) c.args.start c.args.end base.result.has_reph base.result.index c.info_slice.result.now c.args.buffer.now c.rewrite_part.new.buffer c.info_slice.ensures base.ensures.reph base.ensures.base c.rewrite_part.ensures
