use Rattle.std.proofs.Common.{◌≡◌, ◌+◌, ◌-◌, ◌≤◌, ◌<◌, ℕ, Bool, nat_lt, true, length, take}
use Rattle.std.specs.List.{list_all}
use Rattle.buffer_glyphs.specs.Items.{clusters}
use Rattle.buffer_glyphs.specs.Order.{IsInOrder, IsOrdered}
use Rattle.buffer_lists.specs.declared.sorting.KeyedIndex.{KeyedIndex}
use Rattle.buffer_lists.specs.Due.{MayBeDue, with_due}
use Rattle.buffer_lists.specs.Sorting.{spans_merged, range_spanned}
use Rattle.buffer_lists.proofs.sorting.merge_spans.Given as goal

-- `reach` is the last of the indices that came so far
abbrev pub invariant-loop-index : goal.invariant-loop-index
invariant-loop-index l = record {
  begun : l.begin ≤ l.index;
  known : l.in_order ≡ true → IsOrdered (clusters (with_due l.merges.due l.glyphs));
  direction : (falls : Bool) → IsInOrder falls (clusters l.fn.glyphs) → IsInOrder falls (clusters (with_due l.merges.due l.glyphs));
  due : MayBeDue l.level (l.start + l.begin) l.merges.due l.glyphs;
  reach : (i : ℕ) → 0 < i → list_all (λ (e : KeyedIndex). nat_lt e.index i) (take l.index l.order) ≡ nat_lt l.reach i;
  rest : spans_merged l.level l.start l.order l.begin l.index (length l.order - l.index) (record { glyphs = with_due l.merges.due l.glyphs; is_marked = l.merges.marked }) ≡ range_spanned l.level l.start l.order l.fn.glyphs;
}
