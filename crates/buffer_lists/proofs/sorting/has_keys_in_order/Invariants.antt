use Rattle.std.specs.List.Sorted.{IsNonDecreasingBy}
use Rattle.std.proofs.Common.{◌≡◌, ◌<◌, ◌-◌, ℕ, get_or, take}
use Rattle.buffer_glyphs.specs.declared.info.hb_glyph_info_t.{hb_glyph_info_t as Glyph}
use Rattle.buffer_lists.specs.Sorting.{Gives}
use Rattle.buffer_lists.proofs.sorting.has_keys_in_order.Given as goal

-- the glyphs so far have their keys in order, and `last` is the last key
abbrev pub invariant-loop-glyph : goal.invariant-loop-glyph
invariant-loop-glyph g l = record {
  sorted : (k : Glyph → ℕ) → Gives g.F.Fn l.key k → IsNonDecreasingBy k (take l.glyph-index l.glyphs);
  last : (k : Glyph → ℕ) → Gives g.F.Fn l.key k → (d : Glyph) → 0 < l.glyph-index → k (get_or l.glyphs (l.glyph-index - 1) d) ≡ l.last;
}
