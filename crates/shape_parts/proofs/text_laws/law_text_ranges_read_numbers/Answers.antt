use Rattle.shape_parts.proofs.Texts.{text_ranges_read_numbers}
use Rattle.shape_parts.proofs.text_laws.law_text_ranges_read_numbers.Goals as goal

pub returns : goal.returns
returns c = text_ranges_read_numbers
