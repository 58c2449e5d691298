use Rattle.std.specs.List.{All}
use Rattle.std.proofs.Common.{◌≡◌, ◌<◌, ◌++◌, ℕ, drop, length, vec_len}
use Rattle.buffer_glyphs.specs.declared.info.hb_glyph_info_t.{hb_glyph_info_t as Glyph}
use Rattle.buffer_lists.specs.declared.sorting.KeyedIndex.{KeyedIndex}
use Rattle.buffer_lists.specs.Sorting.{Gives, keyed_indices_from}
use Rattle.buffer_lists.proofs.sorting.keys_with_indices.Given as goal

-- what is left, after what is done, gives the whole
abbrev pub invariant-loop-index : goal.invariant-loop-index
invariant-loop-index g l = record {
  keys : (k : Glyph → ℕ) → Gives g.F.Fn l.key k → l.indices.items ++ keyed_indices_from k l.index (drop l.index l.glyphs) ≡ keyed_indices_from k 0 l.glyphs;
  within : All (λ (e : KeyedIndex). e.index < length l.glyphs) l.indices.items;
  len : vec_len l.indices ≡ l.index;
}
