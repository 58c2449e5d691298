use Rattle.shape_parts.proofs.WrittenSyllables.{syllables_merge_where_written}
use Rattle.shape_parts.proofs.written_merges.law_syllables_merge_where_written.Goals as goal

pub returns : goal.returns
returns c = syllables_merge_where_written
