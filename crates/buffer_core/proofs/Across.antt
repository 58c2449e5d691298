-- What happens to a range that begins in the output, over both sides.
use Rattle.std.specs.Global.{Vec}
use Rattle.std.specs.Prelude.{slice_range}
use Rattle.std.proofs.Common.{ℕ, ◌≡◌, ◌≤◌, ◌+◌, ◌-◌, true, nat_lt, List, ◌++◌, length, map, take, drop, refl, arith, ap, sym, append_assoc, ◌∙◌, []}
use Rattle.std.proofs.lemmas.List.{map-append, take-append-drop, take-append-le, drop-append-le, take_at, drop_at, length-map, length-append, length-drop}
use Rattle.std.proofs.Math.Seq.{take-append-add, drop-append-add}
use Rattle.buffer_glyphs.specs.declared.info.hb_glyph_info_t.{hb_glyph_info_t}
use Rattle.buffer_glyphs.specs.declared.level.BufferClusterLevel.TheVariants.{MonotoneGraphemes, MonotoneCharacters, Characters, Graphemes}
use Rattle.buffer_glyphs.specs.declared.level.BufferClusterLevel.{BufferClusterLevel}
use Rattle.buffer_glyphs.specs.Items.{strip, clusters}
use Rattle.buffer_glyphs.specs.Parts.{range_of}
use Rattle.buffer_glyphs.specs.Merges.{least_number, merged_number}
use Rattle.buffer_glyphs.specs.Levels.{InOutput, manner}
use Rattle.buffer_glyphs.specs.Glyphs.{beside_merged_as, glyph_flagged, glyphs_flagged, glyphs_marked, glyphs_merged, in_cluster, marked_outside, has_several_numbers}
use Rattle.buffer_glyphs.specs.Lemmas.Glyphs.{range_clusters, strip_merged}
use Rattle.buffer_core.specs.declared.buffer.hb_buffer_t.TheInside.{Inside}
use Rattle.buffer_lists.specs.declared.order.ClusterOrder.{ClusterOrder}
use Rattle.buffer_core.specs.Inside.{sides_of}
use Rattle.buffer_core.specs.Sides.{Sides, all_glyphs, items_of}
use Rattle.buffer_core.specs.Merging.{output_merged_at, index_in_all, with_has_glyph_flags, with_glyphs, with_output_merged}
use Rattle.buffer_core.specs.Marking.{with_flagged_apart, with_flagged}
use Rattle.buffer_lists.proofs.Ordered.{stretch_first}

-- a range that goes over the end of the first of two lists
slice_across : {X : Type 0} (xs ys : List X) (start n : ℕ) → start ≤ length xs → slice_range (xs ++ ys) start (length xs + n) ≡ drop start xs ++ take n ys
slice_across xs ys start n le =
    let long = length-drop start xs in
    let wide : length xs + n - start ≡ length (drop start xs) + n = omega (arith, long, le) in
    rw (drop-append-le start xs ys le, wide) (take-append-add (drop start xs) ys n)

stretch_across : (xs ys : List hb_glyph_info_t) (start n : ℕ) → start ≤ length xs → range_of start (length xs + n) (clusters (xs ++ ys)) ≡ clusters (drop start xs) ++ clusters (take n ys)
stretch_across xs ys start n le =
    let cluster_of : hb_glyph_info_t → ℕ = λ g. g.cluster in
    range_clusters (xs ++ ys) start (length xs + n) ∙ ap clusters (slice_across xs ys start n le) ∙ map-append cluster_of (drop start xs) (take n ys)

-- each glyph of such a range is changed alike
changed_across : (f : hb_glyph_info_t → hb_glyph_info_t) (xs ys : List hb_glyph_info_t) (start n : ℕ) → start ≤ length xs
    → take start (xs ++ ys) ++ map f (slice_range (xs ++ ys) start (length xs + n)) ++ drop (length xs + n) (xs ++ ys) ≡ (take start xs ++ map f (drop start xs)) ++ (map f (take n ys) ++ drop n ys)
changed_across f xs ys start n le =
    rw (slice_across xs ys start n le, take-append-le start xs ys le, drop-append-add xs ys n, map-append f (drop start xs) (take n ys))
    (ap (λ zs. zs ++ drop n ys) (sym (append_assoc (take start xs) (map f (drop start xs)) (map f (take n ys)))) ∙ append_assoc (take start xs ++ map f (drop start xs)) (map f (take n ys)) (drop n ys))

-- other glyphs on both sides
both_sides : (s : Sides) (behind ahead : List hb_glyph_info_t) (flags : ℕ) (gs : List hb_glyph_info_t) → length behind ≡ length s.behind → gs ≡ behind ++ ahead
    → record s { behind = behind; ahead = ahead; scratch_flags = flags } ≡ record (with_glyphs gs s) { scratch_flags = flags }
both_sides s behind ahead flags gs long e = rw (e, take_at behind ahead (length s.behind) long, drop_at behind ahead (length s.behind) long) refl

changed_length : (f : hb_glyph_info_t → hb_glyph_info_t) (xs : List hb_glyph_info_t) (start : ℕ) → length (take start xs ++ map f (drop start xs)) ≡ length xs
changed_length f xs start =
    let whole = ap length (take-append-drop start xs) in
    omega (arith, whole, length-append (take start xs) (drop start xs), length-append (take start xs) (map f (drop start xs)), length-map (drop start xs) f)

-- flags on a range that goes over the end of the output
pub marked_across_sides : (s : Sides) (behind ahead : List hb_glyph_info_t) (bits start end flags : ℕ) → start ≤ length s.behind → s.read ≤ end
    → behind ≡ take start s.behind ++ map (marked_outside bits (least_number (clusters (drop start s.behind) ++ clusters (take (end - s.read) s.ahead)))) (drop start s.behind)
    → ahead ≡ map (marked_outside bits (least_number (clusters (drop start s.behind) ++ clusters (take (end - s.read) s.ahead)))) (take (end - s.read) s.ahead) ++ drop (end - s.read) s.ahead
    → flags ≡ with_has_glyph_flags (has_several_numbers (clusters (drop start s.behind) ++ clusters (take (end - s.read) s.ahead))) s.scratch_flags
    → record s { behind = behind; ahead = ahead; scratch_flags = flags } ≡ with_flagged_apart bits start (index_in_all end s) s
marked_across_sides s behind ahead bits start end flags le begins o i f =
    let n = end - s.read in
    let range = stretch_across s.behind s.ahead start n le in
    let mark = marked_outside bits (least_number (clusters (drop start s.behind) ++ clusters (take n s.ahead))) in
    let place : index_in_all end s ≡ length s.behind + n = omega (arith, begins) in
    let long = ap length o ∙ changed_length mark s.behind start in
    let glyphs : glyphs_marked bits start (length s.behind + n) (s.behind ++ s.ahead) ≡ behind ++ ahead = rw (range, o, i) (changed_across mark s.behind s.ahead start n le) in
    both_sides s behind ahead flags (glyphs_marked bits start (length s.behind + n) (s.behind ++ s.ahead)) long glyphs ∙ rw (place, range, f) refl

pub flagged_across_sides : (s : Sides) (behind ahead : List hb_glyph_info_t) (bits start end flags : ℕ) → start ≤ length s.behind → s.read ≤ end
    → behind ≡ take start s.behind ++ map (glyph_flagged bits) (drop start s.behind)
    → ahead ≡ map (glyph_flagged bits) (take (end - s.read) s.ahead) ++ drop (end - s.read) s.ahead
    → flags ≡ with_has_glyph_flags (nat_lt start (length s.behind + (end - s.read))) s.scratch_flags
    → record s { behind = behind; ahead = ahead; scratch_flags = flags } ≡ with_flagged bits start (index_in_all end s) s
flagged_across_sides s behind ahead bits start end flags le begins o i f =
    let n = end - s.read in
    let place : index_in_all end s ≡ length s.behind + n = omega (arith, begins) in
    let long = ap length o ∙ changed_length (glyph_flagged bits) s.behind start in
    let glyphs : glyphs_flagged bits start (length s.behind + n) (s.behind ++ s.ahead) ≡ behind ++ ahead = rw (o, i) (changed_across (glyph_flagged bits) s.behind s.ahead start n le) in
    both_sides s behind ahead flags (glyphs_flagged bits start (length s.behind + n) (s.behind ++ s.ahead)) long glyphs ∙ rw (place, f) refl

-- the view of a buffer whose glyphs were changed on both sides
pub marked_across_view : (b : Inside) (info : Vec hb_glyph_info_t) (order : ClusterOrder) (bits start end flags : ℕ) → b.gap ≤ b.idx → b.have_output ≡ true → start ≤ length (take b.out_len b.info.items) → b.idx - b.gap ≤ end
    → take b.out_len info.items ≡ take start (take b.out_len b.info.items) ++ map (marked_outside bits (least_number (clusters (drop start (take b.out_len b.info.items)) ++ clusters (take (end + b.gap - b.idx) (drop b.idx b.info.items))))) (drop start (take b.out_len b.info.items))
    → drop b.idx info.items ≡ map (marked_outside bits (least_number (clusters (drop start (take b.out_len b.info.items)) ++ clusters (take (end + b.gap - b.idx) (drop b.idx b.info.items))))) (take (end + b.gap - b.idx) (drop b.idx b.info.items)) ++ drop (end + b.gap - b.idx) (drop b.idx b.info.items)
    → flags ≡ with_has_glyph_flags (has_several_numbers (clusters (drop start (take b.out_len b.info.items)) ++ clusters (take (end + b.gap - b.idx) (drop b.idx b.info.items)))) b.scratch_flags
    → sides_of (record b { info = info; scratch_flags = flags; order = order }) ≡ with_flagged_apart bits start (index_in_all end (sides_of b)) (sides_of b)
marked_across_view b info order bits start end flags opened h le begins o i f =
    let n : end + b.gap - b.idx ≡ end - (b.idx - b.gap) = omega (arith, opened) in
    rw h (marked_across_sides (record (sides_of b) { behind = take b.out_len b.info.items; positions = []; is_open = true; read = b.idx - b.gap }) (take b.out_len info.items) (drop b.idx info.items) bits start end flags le begins (rw n at o) (rw n at i) (rw n at f))

pub flagged_across_view : (b : Inside) (info : Vec hb_glyph_info_t) (order : ClusterOrder) (bits start end flags : ℕ) → b.gap ≤ b.idx → b.have_output ≡ true → start ≤ length (take b.out_len b.info.items) → b.idx - b.gap ≤ end
    → take b.out_len info.items ≡ take start (take b.out_len b.info.items) ++ map (glyph_flagged bits) (drop start (take b.out_len b.info.items))
    → drop b.idx info.items ≡ map (glyph_flagged bits) (take (end + b.gap - b.idx) (drop b.idx b.info.items)) ++ drop (end + b.gap - b.idx) (drop b.idx b.info.items)
    → flags ≡ with_has_glyph_flags (nat_lt start (length (take b.out_len b.info.items) + (end + b.gap - b.idx))) b.scratch_flags
    → sides_of (record b { info = info; scratch_flags = flags; order = order }) ≡ with_flagged bits start (index_in_all end (sides_of b)) (sides_of b)
flagged_across_view b info order bits start end flags opened h le begins o i f =
    let n : end + b.gap - b.idx ≡ end - (b.idx - b.gap) = omega (arith, opened) in
    rw h (flagged_across_sides (record (sides_of b) { behind = take b.out_len b.info.items; positions = []; is_open = true; read = b.idx - b.gap }) (take b.out_len info.items) (drop b.idx info.items) bits start end flags le begins o (rw n at i) (rw n at f))

united_both : (xs ys : List hb_glyph_info_t) (start end : ℕ) → start ≤ end → end ≤ length xs
    → glyphs_merged (range_of start end (clusters (xs ++ ys))) (xs ++ ys) ≡ glyphs_merged (range_of start end (clusters xs)) xs ++ glyphs_merged (range_of start end (clusters xs)) ys
united_both xs ys start end le within =
    let range = range_of start end (clusters xs) in
    rw (stretch_first xs ys start end le within) (map-append (λ (g : hb_glyph_info_t). in_cluster (merged_number range g.cluster) g) xs ys)

both_merged : (level : BufferClusterLevel) (xs ys : List hb_glyph_info_t) (start end : ℕ) → start ≤ end → end ≤ length xs
    → output_merged_at level start end (xs ++ ys) ≡ output_merged_at level start end xs ++ beside_merged_as (manner InOutput level) (range_of start end (clusters xs)) ys
both_merged MonotoneGraphemes xs ys start end le within = united_both xs ys start end le within
both_merged MonotoneCharacters xs ys start end le within = united_both xs ys start end le within
both_merged Characters xs ys start end le within = refl
both_merged Graphemes xs ys start end le within = refl

-- as many glyphs as before
pub length_output_merged : (level : BufferClusterLevel) (start end : ℕ) (gs : List hb_glyph_info_t) → length (output_merged_at level start end gs) ≡ length gs
length_output_merged MonotoneGraphemes start end gs = length-map gs _
length_output_merged MonotoneCharacters start end gs = length-map gs _
length_output_merged Characters start end gs = refl
length_output_merged Graphemes start end gs = refl

-- a merge of a range of the output
output_merged_sides : (s : Sides) (behind ahead : List hb_glyph_info_t) (start end : ℕ) → start ≤ end → end ≤ length s.behind
    → behind ≡ output_merged_at s.level start end s.behind → ahead ≡ beside_merged_as (manner InOutput s.level) (range_of start end (clusters s.behind)) s.ahead
    → record s { behind = behind; ahead = ahead } ≡ with_output_merged start end s
output_merged_sides s behind ahead start end le within o i =
    let long = ap length o ∙ length_output_merged s.level start end s.behind in
    let gs = output_merged_at s.level start end (s.behind ++ s.ahead) in
    let glyphs : gs ≡ behind ++ ahead = rw (o, i) (both_merged s.level s.behind s.ahead start end le within) in
    both_sides s behind ahead s.scratch_flags gs long glyphs

pub output_merged_view : (b : Inside) (info : Vec hb_glyph_info_t) (order : ClusterOrder) (start end : ℕ) → b.have_output ≡ true → start ≤ end → end ≤ length (take b.out_len b.info.items)
    → take b.out_len info.items ≡ output_merged_at b.cluster_level start end (take b.out_len b.info.items) → drop b.idx info.items ≡ beside_merged_as (manner InOutput b.cluster_level) (range_of start end (clusters (take b.out_len b.info.items))) (drop b.idx b.info.items)
    → sides_of (record b { info = info; order = order }) ≡ with_output_merged start end (sides_of b)
output_merged_view b info order start end h le within o i =
    rw h (output_merged_sides (record (sides_of b) { behind = take b.out_len b.info.items; positions = []; is_open = true; read = b.idx - b.gap }) (take b.out_len info.items) (drop b.idx info.items) start end le within o i)

pub all_output_merged : (start end : ℕ) (s : Sides) → all_glyphs (with_output_merged start end s) ≡ output_merged_at s.level start end (all_glyphs s)
all_output_merged start end s = take-append-drop (length s.behind) (output_merged_at s.level start end (all_glyphs s))

strip_output_merged : (level : BufferClusterLevel) (start end : ℕ) (gs : List hb_glyph_info_t) → strip (output_merged_at level start end gs) ≡ strip gs
strip_output_merged MonotoneGraphemes start end gs = strip_merged (range_of start end (clusters gs)) gs
strip_output_merged MonotoneCharacters start end gs = strip_merged (range_of start end (clusters gs)) gs
strip_output_merged Characters start end gs = refl
strip_output_merged Graphemes start end gs = refl

pub output_items : (start end : ℕ) (s : Sides) → items_of (with_output_merged start end s) ≡ items_of s
output_items start end s = ap strip (all_output_merged start end s) ∙ strip_output_merged s.level start end (all_glyphs s)
