use Rattle.shape_parts.proofs.Parts.{ranges_read_parts}
use Rattle.shape_parts.proofs.reading_laws.law_ranges_read_parts.Goals as goal

pub returns : goal.returns
returns c = ranges_read_parts
