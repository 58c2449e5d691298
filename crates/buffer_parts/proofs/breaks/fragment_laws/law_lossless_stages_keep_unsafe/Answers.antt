use Rattle.buffer_parts.proofs.BreakLemmas.Division.{lossless_stages_keep_unsafe}
use Rattle.buffer_parts.proofs.breaks.fragment_laws.law_lossless_stages_keep_unsafe.Goals as goal

pub returns : goal.returns
returns c = lossless_stages_keep_unsafe
