use Rattle.shape_laws.proofs.BreakLemmas.FallbackMarks.{fallback_marks_divide}
use Rattle.shape_laws.proofs.breaks.glyph_laws.law_fallback_marks_divide.Goals as goal

pub returns : goal.returns
returns c = fallback_marks_divide
