use Rattle.buffer_lists.proofs.Lemmas.OrderSpans.{events_are_plain}
use Rattle.buffer_lists.proofs.laws.law_events_are_plain.Goals as goal

pub returns : goal.returns
returns c = events_are_plain
