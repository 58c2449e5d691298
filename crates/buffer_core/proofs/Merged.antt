-- What a merge of a range of the input does to the sides.
use Rattle.std.specs.Global.{Vec}
use Rattle.std.proofs.Common.{ℕ, ◌≡◌, ◌≤◌, ◌+◌, ◌-◌, Bool, true, false, List, ◌++◌, length, take, drop, refl, arith, ap, sym, ◌∙◌}
use Rattle.std.proofs.lemmas.List.{take-append-drop, length-take-le, take_at, drop_at}
use Rattle.buffer_glyphs.specs.declared.info.hb_glyph_info_t.{hb_glyph_info_t}
use Rattle.buffer_glyphs.specs.declared.level.BufferClusterLevel.{BufferClusterLevel}
use Rattle.buffer_glyphs.specs.declared.level.BufferClusterLevel.TheVariants.{MonotoneGraphemes, MonotoneCharacters, Characters, Graphemes}
use Rattle.buffer_glyphs.specs.Items.{strip, clusters}
use Rattle.buffer_glyphs.specs.Parts.{range_of}
use Rattle.buffer_glyphs.specs.Glyphs.{glyphs_merged_at, beside_merged, is_marked_at, has_several_numbers}
use Rattle.buffer_glyphs.specs.Lemmas.Glyphs.{merged_at_beyond, length_beside, range_beyond, strip_merged_at}
use Rattle.buffer_core.specs.declared.buffer.hb_buffer_t.TheInside.{Inside}
use Rattle.buffer_lists.specs.declared.order.ClusterOrder.{ClusterOrder}
use Rattle.buffer_core.specs.Inside.{sides_of, IsSound}
use Rattle.buffer_core.specs.Sides.{Sides, all_glyphs, items_of}
use Rattle.buffer_core.proofs.Changed.{closed_gap, ends_of}
use Rattle.buffer_core.specs.Merging.{index_in_all, with_has_glyph_flags, with_merged}
use Rattle.buffer_core.proofs.Marked.{places_order}

-- the glyphs of both sides, and the range that was merged
pub record IsMerged (level : BufferClusterLevel) (i j n from to : ℕ) (behind new_behind ahead new_ahead : List hb_glyph_info_t) : Type 0 where
  pub behind_is : new_behind ≡ take (length behind) (glyphs_merged_at level from to (behind ++ ahead))
  pub ahead_is : new_ahead ≡ drop (length behind) (glyphs_merged_at level from to (behind ++ ahead))
  pub range_is : range_of i j (clusters ahead) ≡ range_of from to (clusters (behind ++ ahead))

-- a range of the second of two sides
pub merged_sides : (level : BufferClusterLevel) (i j from to : ℕ) (behind ahead : List hb_glyph_info_t) → from ≡ length behind + i → to ≡ length behind + j
    → IsMerged level i j 0 from to behind (beside_merged level (range_of i j (clusters ahead)) behind) ahead (glyphs_merged_at level i j ahead)
merged_sides level i j from to behind ahead f t =
    let both : glyphs_merged_at level from to (behind ++ ahead) ≡ beside_merged level (range_of i j (clusters ahead)) behind ++ glyphs_merged_at level i j ahead =
    rw (f, t) (merged_at_beyond level behind ahead i j) in
    let long = length_beside level (range_of i j (clusters ahead)) behind in
    record {
      behind_is = rw (both, take_at (beside_merged level (range_of i j (clusters ahead)) behind) (glyphs_merged_at level i j ahead) (length behind) long) refl;
      ahead_is = rw (both, drop_at (beside_merged level (range_of i j (clusters ahead)) behind) (glyphs_merged_at level i j ahead) (length behind) long) refl;
      range_is = rw (f, t) (sym (range_beyond behind ahead i j));
    }

pub same_marks : (level : BufferClusterLevel) (a b c d : ℕ) (ms ns : List ℕ) → range_of a b ms ≡ range_of c d ns → is_marked_at level a b ms ≡ is_marked_at level c d ns
same_marks MonotoneGraphemes a b c d ms ns e = refl
same_marks MonotoneCharacters a b c d ms ns e = refl
same_marks Characters a b c d ms ns e = ap has_several_numbers e
same_marks Graphemes a b c d ms ns e = ap has_several_numbers e

-- the view of a buffer whose input was merged; the ends are those of the output and of what lies before the input
pub merged_view : (b : Inside) (info : Vec hb_glyph_info_t) (order : ClusterOrder) (p : ℕ × ℕ) (start end flags : ℕ) → IsSound b → p ≡ ends_of b → start ≤ end → ((sides_of b).is_open ≡ true → (sides_of b).read ≤ start)
    → drop p.1 info.items ≡ glyphs_merged_at b.cluster_level (start + b.gap - p.1) (end + b.gap - p.1) (drop p.1 b.info.items)
    → take p.0 info.items ≡ beside_merged b.cluster_level (range_of (start + b.gap - p.1) (end + b.gap - p.1) (clusters (drop p.1 b.info.items))) (take p.0 b.info.items)
    → flags ≡ with_has_glyph_flags (is_marked_at b.cluster_level (start + b.gap - p.1) (end + b.gap - p.1) (clusters (drop p.1 b.info.items))) b.scratch_flags
    → sides_of (record b { info = info; scratch_flags = flags; order = order }) ≡ with_merged (index_in_all start (sides_of b)) (index_in_all end (sides_of b)) (sides_of b)
merged_view b info order p start end flags s ends before unread i o f = by_test b.have_output refl
  where
    by_test : (t : Bool) → b.have_output ≡ t → sides_of (record b { info = info; scratch_flags = flags; order = order }) ≡ with_merged (index_in_all start (sides_of b)) (index_in_all end (sides_of b)) (sides_of b)
    by_test true h =
        let at : p ≡ (b.out_len, b.idx) = rw h at ends in
        let first : b.idx - b.gap ≤ start = (rw h at unread) refl in
        let out = take b.out_len b.info.items in
        let from = start + b.gap - b.idx in
        let to = end + b.gap - b.idx in
        let m = merged_sides b.cluster_level from to (length out + start - (b.idx - b.gap)) (length out + end - (b.idx - b.gap)) out (drop b.idx b.info.items) (omega (arith, s.opened, first)) (omega (arith, s.opened, first, before)) in
        let input = rw at at i in
        let output = rw at at o in
        let marks = rw at at f ∙ ap (λ any. with_has_glyph_flags any b.scratch_flags) (same_marks b.cluster_level from to (length out + start - (b.idx - b.gap)) (length out + end - (b.idx - b.gap)) (clusters (drop b.idx b.info.items)) (clusters (out ++ drop b.idx b.info.items)) m.range_is) in
        rw (h, output, input, m.behind_is, m.ahead_is, marks) refl
    by_test false h =
        let at : p ≡ (0, 0) = rw h at ends in
        let none = closed_gap b s h in
        let long : length (take b.idx b.info.items) ≡ b.idx = length-take-le b.idx b.info.items s.cursor in
        let one : start + b.gap - 0 ≡ start = omega (arith, none) in
        let two : end + b.gap - 0 ≡ end = omega (arith, none) in
        let from : b.idx + start - b.idx ≡ start = omega arith in
        let to : b.idx + end - b.idx ≡ end = omega arith in
        let input : info.items ≡ glyphs_merged_at b.cluster_level start end b.info.items = rw (at, one, two) at i in
        let marks = rw (at, one, two) at f in
        rw (h, input, long, from, to, take-append-drop b.idx b.info.items, marks) refl

pub all_merged : (from to : ℕ) (s : Sides) → all_glyphs (with_merged from to s) ≡ glyphs_merged_at s.level from to (all_glyphs s)
all_merged from to s = take-append-drop (length s.behind) (glyphs_merged_at s.level from to (all_glyphs s))

pub merged_items : (start end : ℕ) (s : Sides) → start ≤ end → items_of (with_merged (index_in_all start s) (index_in_all end s) s) ≡ items_of s
merged_items start end s le = ap strip (all_merged (index_in_all start s) (index_in_all end s) s) ∙ strip_merged_at s.level (index_in_all start s) (index_in_all end s) (all_glyphs s) (places_order start end s le)
