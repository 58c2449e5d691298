use Rattle.buffer_parts.specs.Lemmas.Keeping.{kept_events_have_parts}
use Rattle.buffer_parts.proofs.keeping_laws.law_kept_events_have_parts.Goals as goal

pub returns : goal.returns
returns c = kept_events_have_parts
