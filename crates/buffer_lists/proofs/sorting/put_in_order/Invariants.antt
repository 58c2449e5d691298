use Rattle.std.specs.Prelude.{◌↔◌, IsTrue}
use Rattle.std.proofs.Common.{◌≡◌, ◌++◌, map, take, drop}
use Rattle.buffer_glyphs.specs.Items.{clusters}
use Rattle.buffer_lists.specs.declared.sorting.KeyedIndex.{KeyedIndex}
use Rattle.buffer_lists.specs.Sorting.{glyph_at}
use Rattle.buffer_lists.proofs.sorting.put_in_order.Given as goal

abbrev pub invariant-loop-index : goal.invariant-loop-index
invariant-loop-index l = record {
  put : l.range ≡ map (λ (e : KeyedIndex). glyph_at l.copy e.index) (take l.index l.order) ++ drop l.index l.fn.range;
  same : IsTrue l.same ↔ (clusters l.range ≡ clusters l.fn.range);
}
