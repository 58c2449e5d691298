use Rattle.std.proofs.Common.{◌≡◌, drop, reverse}
use Rattle.buffer_glyphs.specs.Items.{strip}
use Rattle.layout_match.specs.Searches.{search_of}
use Rattle.layout_gpos.specs.Bases.{takes}
use Rattle.layout_gpos.specs.Marks.{nearest_taken}
use Rattle.layout_gpos.proofs.bases.found_since.Given as goal

-- those so far are skipped
abbrev pub invariant-loop-at : goal.invariant-loop-at
invariant-loop-at l = nearest_taken (takes l.sought (search_of l.search)) l.at (drop l.at (reverse (strip l.buffer.behind))) ≡ nearest_taken (takes l.sought (search_of l.search)) 0 (reverse (strip l.buffer.behind))
