use Rattle.buffer_parts.specs.Lemmas.Deletions.{parts_fit_text}
use Rattle.buffer_parts.proofs.text_laws.law_parts_fit_text.Goals as goal

pub returns : goal.returns
returns c = parts_fit_text
