use Rattle.std.specs.List.{list_any}
use Rattle.std.proofs.Common.{ℕ, ◌≡◌, ◌==◌, true, false, Some, None, take}
use Rattle.layout_tables.specs.Covers.{first_admits, items_on}
use Rattle.layout_tables.proofs.covers.collect_beside_item_rules.Given as goal

-- the rules so far require a glyph each, of those that were added
abbrev pub invariant-loop-rule : goal.invariant-loop-rule
invariant-loop-rule g l = record {
  none : list_any (λ r. first_admits (λ glyph h. h == glyph) (items_on l.side r) None) (take l.rule-index l.rules) ≡ false;
  added : (h : ℕ) → list_any (λ r. first_admits (λ glyph k. k == glyph) (items_on l.side r) (Some h)) (take l.rule-index l.rules) ≡ true → g.D.hb_set_digest_ext.may_contain l.digest h ≡ true;
}
