use Rattle.shape_laws.proofs.BreakLemmas.Attached.{links_divide}
use Rattle.shape_laws.proofs.breaks.glyph_laws.law_links_divide.Goals as goal

pub returns : goal.returns
returns c = links_divide
