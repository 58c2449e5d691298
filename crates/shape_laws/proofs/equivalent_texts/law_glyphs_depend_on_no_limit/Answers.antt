use Rattle.shape_laws.proofs.Limits.{glyphs_depend_on_no_limit}
use Rattle.shape_laws.proofs.equivalent_texts.law_glyphs_depend_on_no_limit.Goals as goal

pub returns : goal.returns
returns c = glyphs_depend_on_no_limit
