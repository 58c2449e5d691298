use Rattle.shape_parts.proofs.WrittenVowels.{vowels_merge_where_written}
use Rattle.shape_parts.proofs.written_merges.law_vowels_merge_where_written.Goals as goal

pub returns : goal.returns
returns c = vowels_merge_where_written
