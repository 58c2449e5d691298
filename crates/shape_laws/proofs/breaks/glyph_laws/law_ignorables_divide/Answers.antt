use Rattle.shape_laws.proofs.BreakLemmas.Glyphs.{ignorables_divide}
use Rattle.shape_laws.proofs.breaks.glyph_laws.law_ignorables_divide.Goals as goal

pub returns : goal.returns
returns c = ignorables_divide
