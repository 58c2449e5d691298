use Rattle.std.proofs.Common.{sym, ◌∙◌}
use Rattle.script_indic_reordering.proofs.Lemmas.Formed.{backed_none, backed_to}
use Rattle.script_indic_reordering.proofs.formed.back_over.Goals as goal

pub returns-in-Some-clause-index : goal.returns-in-Some-clause-index
returns-in-Some-clause-index c = backed_to c.args.from _ c.args.glyphs.now (sym c.last_from.ensures.value ∙ c.in-Some.is)

pub returns-in-None-clause-index : goal.returns-in-None-clause-index
returns-in-None-clause-index c = backed_none c.args.from c.args.glyphs.now (sym c.last_from.ensures.value ∙ c.in-None.is)
