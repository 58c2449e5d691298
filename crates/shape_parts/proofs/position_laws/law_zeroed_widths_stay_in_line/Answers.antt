use Rattle.shape_parts.proofs.Glyphs.{zeroed_widths_stay}
use Rattle.shape_parts.proofs.position_laws.law_zeroed_widths_stay_in_line.Goals as goal

pub returns : goal.returns
returns c = zeroed_widths_stay
