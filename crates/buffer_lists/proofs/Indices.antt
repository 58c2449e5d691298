-- The positions of a range in the order by a key.
use Rattle.std.specs.Prelude.{slice_range}
use Rattle.std.specs.List.{All}
use Rattle.std.proofs.Common.{ℕ, ◌≡◌, ◌≤◌, ◌<◌, ◌+◌, ◌-◌, min, List, [], ◌∷◌, length, drop, arith, ap, sym, ◌∙◌}
use Rattle.std.proofs.lemmas.List.{length-drop, length-take}
use Rattle.std.proofs.lemmas.List.Elements.{All-nil, All-cons}
use Rattle.buffer_glyphs.specs.declared.info.hb_glyph_info_t.{hb_glyph_info_t as Glyph}
use Rattle.buffer_lists.specs.declared.sorting.KeyedIndex.{KeyedIndex}
use Rattle.buffer_lists.specs.Sorting.{keyed_indices_from, indices_by_key}
use Rattle.buffer_lists.specs.Lemmas.KeyOrder.{all_in_order}

pub all_keyed : (k : Glyph → ℕ) (i n : ℕ) (gs : List Glyph) → i + length gs ≤ n → All (λ (e : KeyedIndex). e.index < n) (keyed_indices_from k i gs)
all_keyed k i n [] le = All-nil (λ (e : KeyedIndex). e.index < n)
all_keyed k i n (g ∷ gs) le = All-cons (λ (e : KeyedIndex). e.index < n) (record { key = k g; index = i }) (keyed_indices_from k (i + 1) gs) (omega arith) (all_keyed k (i + 1) n gs (omega arith))

-- the positions of a range are within it
pub indices_within : (k : Glyph → ℕ) (gs : List Glyph) → All (λ (e : KeyedIndex). e.index < length gs) (indices_by_key k gs)
indices_within k gs = all_in_order (λ (e : KeyedIndex). e.index < length gs) (λ (e : KeyedIndex). e.key) (keyed_indices_from k 0 gs) (all_keyed k 0 (length gs) gs (omega arith))

-- a range of a list is as long as that of another of its length
pub range_length : (start end : ℕ) (gs hs : List Glyph) → length hs ≡ length gs → length (slice_range hs start end) ≡ length (slice_range gs start end)
range_length start end gs hs e =
    length-take (end - start) (drop start hs) ∙ ap (min (end - start)) (length-drop start hs ∙ ap (λ n. n - start) e ∙ sym (length-drop start gs)) ∙ sym (length-take (end - start) (drop start gs))
