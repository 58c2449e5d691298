use Rattle.buffer_glyphs.specs.Lemmas.Handed.{handed_by_origins}
use Rattle.buffer_glyphs.proofs.laws.law_flags_are_handed_on.Goals as goal

pub returns : goal.returns
returns c = handed_by_origins
