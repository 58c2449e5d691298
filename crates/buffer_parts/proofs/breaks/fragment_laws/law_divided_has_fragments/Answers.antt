use Rattle.buffer_parts.proofs.BreakLemmas.Division.{divided_has_fragments}
use Rattle.buffer_parts.proofs.breaks.fragment_laws.law_divided_has_fragments.Goals as goal

pub returns : goal.returns
returns c = divided_has_fragments
