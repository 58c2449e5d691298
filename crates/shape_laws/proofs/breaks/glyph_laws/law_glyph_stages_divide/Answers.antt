use Rattle.shape_laws.proofs.BreakLemmas.GlyphStages.{glyph_stages_divide}
use Rattle.shape_laws.proofs.breaks.glyph_laws.law_glyph_stages_divide.Goals as goal

pub returns : goal.returns
returns c = glyph_stages_divide
