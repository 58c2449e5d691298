use Rattle.shape_parts.proofs.Glyphs.{ignorables_stay}
use Rattle.shape_parts.proofs.glyph_laws.law_ignorables_stay_in_line.Goals as goal

pub returns : goal.returns
returns c = ignorables_stay
