-- A range of glyphs in stable order by a key, where each smallest span that the order permutes is merged.
use Rattle.std.specs.Prelude.{ℕ, zero, suc, ◌≡◌, ◌+◌, ◌||◌, nat_lt, Bool, false, if◌then◌else◌, List, [], ◌∷◌, ◌++◌, length, map, take, drop, slice_range, slice_index_or}
use Rattle.std.specs.List.{list_all}
use Rattle.std.specs.Fn.{Shared, FnReturnsAt}
use denote.Ref.{Bor}
use Rattle.buffer_glyphs.specs.declared.info.hb_glyph_info_t.{hb_glyph_info_t}
use Rattle.buffer_glyphs.specs.declared.level.BufferClusterLevel.{BufferClusterLevel}
use Rattle.buffer_glyphs.specs.Items.{clusters}
use Rattle.buffer_glyphs.specs.Glyphs.{glyphs_merged_at, is_marked_at}
use Rattle.buffer_rows.specs.KeyOrder.{key_order}
use Rattle.buffer_lists.specs.declared.sorting.KeyedIndex.{KeyedIndex}

-- each key of a glyph is that of k
abbrev pub Gives : {F : Type 0} → Shared F (Bor hb_glyph_info_t × Unit {0}) ℕ → F → (hb_glyph_info_t → ℕ) → Type 0
Gives calls f k = (g : hb_glyph_info_t) (n : ℕ) → FnReturnsAt calls f g n → n ≡ k g

-- the key and the index of each glyph; indices count from i
abbrev pub keyed_indices_from : (hb_glyph_info_t → ℕ) → ℕ → List hb_glyph_info_t → List KeyedIndex
keyed_indices_from k i [] = []
keyed_indices_from k i (g ∷ gs) = record { key = k g; index = i } ∷ keyed_indices_from k (i + 1) gs

-- the indices of glyphs in stable order by key
abbrev pub indices_by_key : (hb_glyph_info_t → ℕ) → List hb_glyph_info_t → List KeyedIndex
indices_by_key k gs = key_order (λ (e : KeyedIndex). e.key) (keyed_indices_from k 0 gs)

-- an index is a seam where the glyphs before it are those that were before it
abbrev pub is_seam : List KeyedIndex → ℕ → Bool
is_seam order i = list_all (λ (e : KeyedIndex). nat_lt e.index i) (take i order)

-- the merge of a span: the glyphs after it, and whether it flagged one
pub record SpanMerge : Type 0 where
  pub glyphs : List hb_glyph_info_t
  pub is_marked : Bool

-- a span of more than one glyph is merged
abbrev pub span_merged : BufferClusterLevel → ℕ → ℕ → SpanMerge → SpanMerge
span_merged level from to s = if nat_lt (from + 1) to then record { glyphs = glyphs_merged_at level from to s.glyphs; is_marked = s.is_marked || is_marked_at level from to (clusters s.glyphs) } else s

-- of n indices that are left, each seam ends the span that was begun; indices count from `start`
abbrev pub spans_merged : BufferClusterLevel → ℕ → List KeyedIndex → ℕ → ℕ → ℕ → SpanMerge → SpanMerge
spans_merged level start order begin index zero s = s
spans_merged level start order begin index (suc left) s =
    if is_seam order (index + 1)
    then spans_merged level start order (index + 1) (index + 1) left (span_merged level (start + begin) (start + (index + 1)) s)
    else spans_merged level start order begin (index + 1) left s

-- each span of the range merged
abbrev pub range_spanned : BufferClusterLevel → ℕ → List KeyedIndex → List hb_glyph_info_t → SpanMerge
range_spanned level start order gs = spans_merged level start order 0 0 (length order) (record { glyphs = gs; is_marked = false })

-- a range with each span of its stable order by a key merged, before it is permuted
abbrev pub range_merged : BufferClusterLevel → ℕ → ℕ → (hb_glyph_info_t → ℕ) → List hb_glyph_info_t → List hb_glyph_info_t
range_merged level start end k gs = (range_spanned level start (indices_by_key k (slice_range gs start end)) gs).glyphs

-- the glyph at an index, a zero glyph past the end
abbrev pub glyph_at : List hb_glyph_info_t → ℕ → hb_glyph_info_t
glyph_at gs i = slice_index_or gs i (record { glyph_id = 0; mask = 0; cluster = 0; glyph_index = 0; unicode_props = record { 0 = 0 }; modified_combining_class = 0; glyph_props = record { 0 = 0 }; lig_props = 0; syllable = 0; category = 0; auxiliary = 0 })

-- the glyphs of a range in an order of its indices
abbrev pub put_in_order : ℕ → ℕ → List KeyedIndex → List hb_glyph_info_t → List hb_glyph_info_t
put_in_order start end order gs = take start gs ++ map (λ (e : KeyedIndex). glyph_at (slice_range gs start end) e.index) order ++ drop end gs

-- a range sorted stably by its keys, with each span merged
abbrev pub range_sorted : BufferClusterLevel → ℕ → ℕ → (hb_glyph_info_t → ℕ) → List hb_glyph_info_t → SpanMerge
range_sorted level start end k gs =
    let order = indices_by_key k (slice_range gs start end) in
    let spanned = range_spanned level start order gs in
    record { glyphs = put_in_order start end order spanned.glyphs; is_marked = spanned.is_marked }
