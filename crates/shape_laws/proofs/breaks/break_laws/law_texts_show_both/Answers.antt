use Rattle.shape_laws.proofs.BreakLemmas.Readings.{texts_show_both}
use Rattle.shape_laws.proofs.breaks.break_laws.law_texts_show_both.Goals as goal

pub returns : goal.returns
returns c = texts_show_both
