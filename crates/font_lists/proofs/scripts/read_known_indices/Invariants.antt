use Rattle.std.proofs.Common.{◌≡◌, ◌+◌, ◌-◌, ◌*◌, ◌++◌}
use Rattle.font_bytes.specs.Words.{word}
use Rattle.font_bytes.specs.Records.{records}
use Rattle.font_common.specs.Words.{words_at}
use Rattle.font_lists.specs.Scripts.{known_indices}
use Rattle.font_lists.proofs.scripts.read_known_indices.Given as goal

-- the indices so far and the known ones of those that are left are all
abbrev pub invariant-loop-position : goal.invariant-loop-position
invariant-loop-position l = l.indices.items ++ known_indices l.list_count (records (word l.table) 2 (l.at + 2 * l.position) (l.count - l.position))
    ≡ known_indices l.list_count (words_at l.table l.at l.count)
