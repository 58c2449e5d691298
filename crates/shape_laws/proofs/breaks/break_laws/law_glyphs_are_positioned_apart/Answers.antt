use Rattle.shape_laws.proofs.BreakLemmas.Adjusted.{glyphs_are_positioned_apart}
use Rattle.shape_laws.proofs.breaks.break_laws.law_glyphs_are_positioned_apart.Goals as goal

pub returns : goal.returns
returns c = glyphs_are_positioned_apart
