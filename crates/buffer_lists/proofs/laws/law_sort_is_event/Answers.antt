use Rattle.buffer_lists.proofs.Lemmas.SortedEvents.{sort_is_event}
use Rattle.buffer_lists.proofs.laws.law_sort_is_event.Goals as goal

pub returns : goal.returns
returns c = sort_is_event
