use Rattle.shape_laws.proofs.BreakLemmas.Stages.{begun_texts_divide}
use Rattle.shape_laws.proofs.breaks.laws.law_begun_texts_divide.Goals as goal

pub returns : goal.returns
returns c = begun_texts_divide
