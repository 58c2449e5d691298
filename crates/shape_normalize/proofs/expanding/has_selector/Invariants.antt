use Rattle.std.proofs.Common.{◌≡◌, take, drop}
use Rattle.std.specs.List.{list_any}
use Rattle.buffer_glyphs.specs.Items.{strip}
use Rattle.buffer_properties.specs.Characters.{is_selector}
use Rattle.shape_normalize.proofs.expanding.has_selector.Given as goal

abbrev pub invariant-loop-i : goal.invariant-loop-i
invariant-loop-i l = list_any is_selector (drop l.i (take l.count (strip l.buffer.ahead))) ≡ list_any is_selector (take l.count (strip l.buffer.ahead))
