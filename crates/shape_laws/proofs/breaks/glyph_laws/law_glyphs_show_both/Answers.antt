use Rattle.shape_laws.proofs.BreakLemmas.Glyphs.{glyphs_show_both}
use Rattle.shape_laws.proofs.breaks.glyph_laws.law_glyphs_show_both.Goals as goal

pub returns : goal.returns
returns c = glyphs_show_both
