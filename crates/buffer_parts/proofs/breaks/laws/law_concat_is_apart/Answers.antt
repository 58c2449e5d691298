use Rattle.buffer_parts.proofs.BreakLemmas.Concat.{concat_is_apart}
use Rattle.buffer_parts.proofs.breaks.laws.law_concat_is_apart.Goals as goal

pub returns : goal.returns
returns c = concat_is_apart
