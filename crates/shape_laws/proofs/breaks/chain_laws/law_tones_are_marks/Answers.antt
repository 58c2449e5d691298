use Rattle.shape_laws.proofs.BreakLemmas.HangulMarks.{tones_are_marks}
use Rattle.shape_laws.proofs.breaks.chain_laws.law_tones_are_marks.Goals as goal

pub returns : goal.returns
returns c = tones_are_marks
