use Rattle.std.proofs.Common.{◌≡◌, take}
use Rattle.layout_tables.proofs.item_rule.copied.Given as goal

-- the first items are copied
abbrev pub invariant-loop-i : goal.invariant-loop-i
invariant-loop-i g l = l.copies.items ≡ take l.i l.items
