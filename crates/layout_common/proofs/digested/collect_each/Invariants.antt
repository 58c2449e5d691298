use Rattle.std.specs.List.{list_any}
use Rattle.std.proofs.Common.{ℕ, ◌≡◌, true, take}
use Rattle.layout_common.proofs.digested.collect_each.Given as goal

-- the glyphs of the items so far were added, and what was there stayed
abbrev pub invariant-loop-item : goal.invariant-loop-item
invariant-loop-item g l = record {
  added : (h : ℕ) → list_any (λ s. g.S.Covers.covers s h) (take l.item-index l.items) ≡ true → g.D.hb_set_digest_ext.may_contain l.digest h ≡ true;
  stays : (h : ℕ) → g.D.hb_set_digest_ext.may_contain l.fn.digest h ≡ true → g.D.hb_set_digest_ext.may_contain l.digest h ≡ true;
}
