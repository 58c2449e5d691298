use Rattle.std.proofs.Common.{◌≡◌, ◌≤◌, ◌+◌, ◌*◌, ◌^◌, drop}
use Rattle.buffer_glyphs.specs.Items.{strip}
use Rattle.layout_gsub.specs.Ligating.{component_count, items_at}
use Rattle.layout_gsub.proofs.components.component_count.Given as goal

-- what is counted, and what is left, is all
abbrev pub invariant-loop-at : goal.invariant-loop-at
invariant-loop-at l = record {
  count : l.count + component_count (items_at (drop l.at-index l.places) (strip l.buffer.ahead)) ≡ component_count (items_at l.places (strip l.buffer.ahead));
  bound : l.count ≤ l.at-index * 2 ^ 28;
}
