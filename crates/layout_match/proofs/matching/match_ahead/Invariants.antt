use Rattle.std.proofs.Common.{◌≡◌, ◌≤◌, length, drop}
use Rattle.buffer_glyphs.specs.Items.{strip}
use Rattle.layout_match.specs.Matches.{answers_of, sequence_end}
use Rattle.layout_match.specs.Searches.{search_of}
use Rattle.layout_match.specs.Sequences.{tests_of}
use Rattle.layout_match.proofs.matching.match_ahead.Given as goal

-- what is left decides
abbrev pub invariant-loop-k : goal.invariant-loop-k
invariant-loop-k l = (l.from ≤ length l.buffer.ahead) × (sequence_end (drop l.k (answers_of (search_of l.search) (tests_of l.sequence))) l.from (strip l.buffer.ahead) ≡ sequence_end (answers_of (search_of l.search) (tests_of l.sequence)) l.start (strip l.buffer.ahead))
