use Rattle.std.proofs.Common.{◌≡◌}
use Rattle.buffer_glyphs.specs.Items.{strip}
use Rattle.layout_match.specs.Matches.{nearest_from}
use Rattle.layout_match.specs.Searches.{answer, search_of, test_of}
use Rattle.layout_match.proofs.matching.nearest_ahead.Given as goal

-- those so far are skipped
abbrev pub invariant-loop-at : goal.invariant-loop-at
invariant-loop-at l = nearest_from (answer (search_of l.search) (test_of (search_of l.search) l.sequence l.k)) l.at (strip l.buffer.ahead) ≡ nearest_from (answer (search_of l.search) (test_of (search_of l.search) l.sequence l.k)) l.from (strip l.buffer.ahead)
