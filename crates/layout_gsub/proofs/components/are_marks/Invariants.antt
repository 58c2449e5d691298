use Rattle.std.proofs.Common.{◌≡◌, drop}
use Rattle.buffer_glyphs.specs.Items.{strip}
use Rattle.layout_gsub.specs.Ligating.{are_marks, items_at}
use Rattle.layout_gsub.proofs.components.are_marks.Given as goal

-- those that are left decide
abbrev pub invariant-loop-at : goal.invariant-loop-at
invariant-loop-at l = are_marks (items_at (drop l.at-index l.places) (strip l.buffer.ahead)) ≡ are_marks (items_at l.places (strip l.buffer.ahead))
