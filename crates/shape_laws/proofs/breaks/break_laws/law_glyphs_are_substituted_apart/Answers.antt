use Rattle.shape_laws.proofs.BreakLemmas.Substituted.{glyphs_are_substituted_apart}
use Rattle.shape_laws.proofs.breaks.break_laws.law_glyphs_are_substituted_apart.Goals as goal

pub returns : goal.returns
returns c = glyphs_are_substituted_apart
