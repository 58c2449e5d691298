use Rattle.shape_parts.proofs.Parts.{shaping_keeps_text_parts}
use Rattle.shape_parts.proofs.reading_laws.law_shaping_keeps_text_parts.Goals as goal

pub returns : goal.returns
returns c = shaping_keeps_text_parts
