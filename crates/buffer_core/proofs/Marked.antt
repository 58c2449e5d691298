-- What flags set on a range of the input do to the sides.
use Rattle.std.specs.Global.{Vec}
use Rattle.std.proofs.Common.{ℕ, ◌≡◌, ◌≤◌, ◌<◌, ◌+◌, ◌-◌, Bool, true, false, nat_lt, List, ◌++◌, length, take, drop, refl, arith, ap, sym, ◌∙◌, append_assoc}
use Rattle.std.proofs.lemmas.Bool.Decides.{nat_tests}
use Rattle.std.proofs.lemmas.Grind.{common_steps}
use Rattle.std.proofs.lemmas.List.{take-append-drop, take-append-le, take-take, length-take-le, length-map, drop_at}
use Rattle.std.proofs.Math.Seq.{take-append_seam, drop-append_seam}
use Rattle.buffer_glyphs.specs.declared.info.hb_glyph_info_t.{hb_glyph_info_t}
use Rattle.buffer_glyphs.specs.Items.{strip, clusters}
use Rattle.buffer_glyphs.specs.Parts.{range_of}
use Rattle.buffer_glyphs.specs.Glyphs.{glyphs_marked, glyphs_flagged, has_several_numbers}
use Rattle.buffer_glyphs.specs.Lemmas.Glyphs.{marked_beyond, flagged_beyond, range_beyond, strip_marked, strip_flagged, clusters_marked, clusters_flagged}
use Rattle.buffer_core.specs.declared.buffer.hb_buffer_t.TheInside.{Inside}
use Rattle.buffer_lists.specs.declared.order.ClusterOrder.{ClusterOrder}
use Rattle.buffer_core.specs.Inside.{sides_of, IsSound}
use Rattle.buffer_core.specs.Sides.{Sides, all_glyphs, items_of}
use Rattle.buffer_core.specs.Merging.{index_in_all, with_has_glyph_flags}
use Rattle.buffer_core.proofs.Changed.{closed_gap, front_before}
use Rattle.buffer_core.specs.Marking.{with_flagged_apart, with_flagged}

-- with no output open as many glyphs are behind the cursor as it has passed, and indices are those of the list
pub closed_behind : (b : Inside) → b.have_output ≡ false → b.idx ≤ length b.info.items → length (sides_of b).behind ≡ (sides_of b).read
closed_behind b h le = rw h (length-take-le b.idx b.info.items le)

pub closed_index : (i : ℕ) (b : Inside) → b.have_output ≡ false → b.idx ≤ length b.info.items → index_in_all i (sides_of b) ≡ i
closed_index i b h le = let long = closed_behind b h le in omega (arith, long)

-- what a range of a list is in those from an index on
pub stretch_rest : (start end n : ℕ) (gs : List hb_glyph_info_t) → n ≤ length gs → n ≤ start → start ≤ end → range_of start end (clusters gs) ≡ range_of (start - n) (end - n) (clusters (drop n gs))
stretch_rest start end n gs le before ordered =
    let long : length (take n gs) ≡ n = length-take-le n gs le in
    let at : start ≡ length (take n gs) + (start - n) = omega (arith, long, before) in
    let to : end ≡ length (take n gs) + (end - n) = omega (arith, long, before, ordered) in
    ap (λ hs. range_of start end (clusters hs)) (sym (take-append-drop n gs)) ∙ ap (λ i. range_of i end (clusters (take n gs ++ drop n gs))) at ∙ ap (λ j. range_of (length (take n gs) + (start - n)) j (clusters (take n gs ++ drop n gs))) to
    ∙ range_beyond (take n gs) (drop n gs) (start - n) (end - n)

pub marked_rest : (bits start end n : ℕ) (gs : List hb_glyph_info_t) → n ≤ length gs → n ≤ start → start ≤ end → drop n (glyphs_marked bits start end gs) ≡ glyphs_marked bits (start - n) (end - n) (drop n gs)
marked_rest bits start end n gs le before ordered =
    let long : length (take n gs) ≡ n = length-take-le n gs le in
    let at : start ≡ length (take n gs) + (start - n) = omega (arith, long, before) in
    let to : end ≡ length (take n gs) + (end - n) = omega (arith, long, before, ordered) in
    ap (drop n) (ap (glyphs_marked bits start end) (sym (take-append-drop n gs)) ∙ ap (λ i. glyphs_marked bits i end (take n gs ++ drop n gs)) at ∙ ap (λ j. glyphs_marked bits (length (take n gs) + (start - n)) j (take n gs ++ drop n gs)) to ∙ marked_beyond bits (take n gs) (drop n gs) (start - n) (end - n))
    ∙ drop_at (take n gs) (glyphs_marked bits (start - n) (end - n) (drop n gs)) n long

pub flagged_rest : (bits start end n : ℕ) (gs : List hb_glyph_info_t) → n ≤ length gs → n ≤ start → start ≤ end → drop n (glyphs_flagged bits start end gs) ≡ glyphs_flagged bits (start - n) (end - n) (drop n gs)
flagged_rest bits start end n gs le before ordered =
    let long : length (take n gs) ≡ n = length-take-le n gs le in
    let at : start ≡ length (take n gs) + (start - n) = omega (arith, long, before) in
    let to : end ≡ length (take n gs) + (end - n) = omega (arith, long, before, ordered) in
    ap (drop n) (ap (glyphs_flagged bits start end) (sym (take-append-drop n gs)) ∙ ap (λ i. glyphs_flagged bits i end (take n gs ++ drop n gs)) at ∙ ap (λ j. glyphs_flagged bits (length (take n gs) + (start - n)) j (take n gs ++ drop n gs)) to ∙ flagged_beyond bits (take n gs) (drop n gs) (start - n) (end - n))
    ∙ drop_at (take n gs) (glyphs_flagged bits (start - n) (end - n) (drop n gs)) n long

pub marked_length : (bits start end : ℕ) (gs : List hb_glyph_info_t) → start ≤ end → length (glyphs_marked bits start end gs) ≡ length gs
marked_length bits start end gs le =
    let v : hb_glyph_info_t → ℕ = λ g. g.cluster in
    sym (length-map (glyphs_marked bits start end gs) v) ∙ ap length (clusters_marked bits start end gs le) ∙ length-map gs v

pub flagged_length : (bits start end : ℕ) (gs : List hb_glyph_info_t) → start ≤ end → length (glyphs_flagged bits start end gs) ≡ length gs
flagged_length bits start end gs le =
    let v : hb_glyph_info_t → ℕ = λ g. g.cluster in
    sym (length-map (glyphs_flagged bits start end gs) v) ∙ ap length (clusters_flagged bits start end gs le) ∙ length-map gs v

pub all_marked : (bits from to : ℕ) (s : Sides) → all_glyphs (with_flagged_apart bits from to s) ≡ glyphs_marked bits from to (all_glyphs s)
all_marked bits from to s = take-append-drop (length s.behind) (glyphs_marked bits from to (all_glyphs s))

pub all_flagged : (bits from to : ℕ) (s : Sides) → all_glyphs (with_flagged bits from to s) ≡ glyphs_flagged bits from to (all_glyphs s)
all_flagged bits from to s = take-append-drop (length s.behind) (glyphs_flagged bits from to (all_glyphs s))

pub places_order : (start end : ℕ) (s : Sides) → start ≤ end → index_in_all start s ≤ index_in_all end s
places_order start end s le = omega arith

pub marked_items : (bits from to : ℕ) (s : Sides) → bits < 8 → from ≤ to → items_of (with_flagged_apart bits from to s) ≡ items_of s
marked_items bits from to s lt le = ap strip (all_marked bits from to s) ∙ strip_marked bits from to (all_glyphs s) lt le

pub flagged_items : (bits from to : ℕ) (s : Sides) → bits < 8 → from ≤ to → items_of (with_flagged bits from to s) ≡ items_of s
flagged_items bits from to s lt le = ap strip (all_flagged bits from to s) ∙ strip_flagged bits from to (all_glyphs s) lt le

-- glyphs before the range stay
front_of : (xs ys zs : List hb_glyph_info_t) (m : ℕ) → m ≤ length xs → take m (xs ++ ys ++ zs) ≡ take m xs
front_of xs ys zs m le = ap (take m) (append_assoc xs ys zs) ∙ take-append-le m xs (ys ++ zs) le

pub marked_front : (bits start end m : ℕ) (gs : List hb_glyph_info_t) → m ≤ start → start ≤ length gs → take m (glyphs_marked bits start end gs) ≡ take m gs
marked_front bits start end m gs le within = let long = length-take-le start gs within in front_of (take start gs) _ _ m (omega (arith, long, le)) ∙ take-take m start gs le

pub flagged_front : (bits start end m : ℕ) (gs : List hb_glyph_info_t) → m ≤ start → start ≤ length gs → take m (glyphs_flagged bits start end gs) ≡ take m gs
flagged_front bits start end m gs le within = let long = length-take-le start gs within in front_of (take start gs) _ _ m (omega (arith, long, le)) ∙ take-take m start gs le

-- the view of a buffer of whose input a range was marked
pub marked_view : (b : Inside) (info : Vec hb_glyph_info_t) (order : ClusterOrder) (bits start end flags : ℕ) → IsSound b → start ≤ end → start + b.gap ≤ length b.info.items → ((sides_of b).is_open ≡ true → (sides_of b).read ≤ start)
    → info.items ≡ glyphs_marked bits (start + b.gap) (end + b.gap) b.info.items
    → flags ≡ with_has_glyph_flags (has_several_numbers (range_of (start + b.gap) (end + b.gap) (clusters b.info.items))) b.scratch_flags
    → sides_of (record b { info = info; scratch_flags = flags; order = order }) ≡ with_flagged_apart bits (index_in_all start (sides_of b)) (index_in_all end (sides_of b)) (sides_of b)
marked_view b info order bits start end flags s before within unread i f = by_test b.have_output refl
  where
    by_test : (t : Bool) → b.have_output ≡ t → sides_of (record b { info = info; scratch_flags = flags; order = order }) ≡ with_flagged_apart bits (index_in_all start (sides_of b)) (index_in_all end (sides_of b)) (sides_of b)
    by_test true h =
        let first : b.idx - b.gap ≤ start = (rw h at unread) refl in
        let begins : b.idx ≤ start + b.gap = omega (arith, first, s.opened) in
        let low = front_before b s h in
        let ordered : start + b.gap ≤ end + b.gap = omega (arith, before) in
        let out = take b.out_len b.info.items in
        let ahead = drop b.idx b.info.items in
        let from = start + b.gap - b.idx in
        let to = end + b.gap - b.idx in
        let kept : take b.out_len info.items ≡ out = ap (take b.out_len) i ∙ marked_front bits (start + b.gap) (end + b.gap) b.out_len b.info.items (omega (arith, low, begins)) within in
        let input : drop b.idx info.items ≡ glyphs_marked bits from to ahead = ap (drop b.idx) i ∙ marked_rest bits (start + b.gap) (end + b.gap) b.idx b.info.items s.cursor begins ordered in
        let marks = f ∙ ap (λ ns. with_has_glyph_flags (has_several_numbers ns) b.scratch_flags) (stretch_rest (start + b.gap) (end + b.gap) b.idx b.info.items s.cursor begins ordered) in
        let at : length out + start - (b.idx - b.gap) ≡ length out + from = omega (arith, first, s.opened) in
        let past : length out + end - (b.idx - b.gap) ≡ length out + to = omega (arith, first, s.opened, before) in
        rw (h, kept, input, marks, at, past, marked_beyond bits out ahead from to, range_beyond out ahead from to, take-append_seam out (glyphs_marked bits from to ahead), drop-append_seam out (glyphs_marked bits from to ahead)) refl
    by_test false h =
        let none = closed_gap b s h in
        let long : length (take b.idx b.info.items) ≡ b.idx = length-take-le b.idx b.info.items s.cursor in
        let one : start + b.gap ≡ start = omega (arith, none) in
        let two : end + b.gap ≡ end = omega (arith, none) in
        let at : b.idx + start - b.idx ≡ start = omega arith in
        let past : b.idx + end - b.idx ≡ end = omega arith in
        let input : info.items ≡ glyphs_marked bits start end b.info.items = rw (one, two) at i in
        let marks = rw (one, two) at f in
        rw (h, input, long, at, past, take-append-drop b.idx b.info.items, marks) refl

same_lengths : (p q i j : ℕ) → p ≤ q → i ≤ j → q - p ≡ j - i → nat_lt i j ≡ nat_lt p q
same_lengths p q i j le lt e = grind (arith, nat_tests, common_steps, e)

-- the view of a buffer of whose input a range was flagged
pub flagged_view : (b : Inside) (info : Vec hb_glyph_info_t) (order : ClusterOrder) (bits start end flags : ℕ) → IsSound b → start ≤ end → start + b.gap ≤ length b.info.items → ((sides_of b).is_open ≡ true → (sides_of b).read ≤ start)
    → info.items ≡ glyphs_flagged bits (start + b.gap) (end + b.gap) b.info.items
    → flags ≡ with_has_glyph_flags (nat_lt start end) b.scratch_flags
    → sides_of (record b { info = info; scratch_flags = flags; order = order }) ≡ with_flagged bits (index_in_all start (sides_of b)) (index_in_all end (sides_of b)) (sides_of b)
flagged_view b info order bits start end flags s before within unread i f = by_test b.have_output refl
  where
    by_test : (t : Bool) → b.have_output ≡ t → sides_of (record b { info = info; scratch_flags = flags; order = order }) ≡ with_flagged bits (index_in_all start (sides_of b)) (index_in_all end (sides_of b)) (sides_of b)
    by_test true h =
        let first : b.idx - b.gap ≤ start = (rw h at unread) refl in
        let begins : b.idx ≤ start + b.gap = omega (arith, first, s.opened) in
        let low = front_before b s h in
        let ordered : start + b.gap ≤ end + b.gap = omega (arith, before) in
        let out = take b.out_len b.info.items in
        let ahead = drop b.idx b.info.items in
        let from = start + b.gap - b.idx in
        let to = end + b.gap - b.idx in
        let kept : take b.out_len info.items ≡ out = ap (take b.out_len) i ∙ flagged_front bits (start + b.gap) (end + b.gap) b.out_len b.info.items (omega (arith, low, begins)) within in
        let input : drop b.idx info.items ≡ glyphs_flagged bits from to ahead = ap (drop b.idx) i ∙ flagged_rest bits (start + b.gap) (end + b.gap) b.idx b.info.items s.cursor begins ordered in
        let less : nat_lt start end ≡ nat_lt (length out + from) (length out + to) = same_lengths (length out + from) (length out + to) start end (omega (arith, before)) before (omega (arith, first, s.opened, before)) in
        let at : length out + start - (b.idx - b.gap) ≡ length out + from = omega (arith, first, s.opened) in
        let past : length out + end - (b.idx - b.gap) ≡ length out + to = omega (arith, first, s.opened, before) in
        rw (h, kept, input, f, at, past, flagged_beyond bits out ahead from to, less, take-append_seam out (glyphs_flagged bits from to ahead), drop-append_seam out (glyphs_flagged bits from to ahead)) refl
    by_test false h =
        let none = closed_gap b s h in
        let long : length (take b.idx b.info.items) ≡ b.idx = length-take-le b.idx b.info.items s.cursor in
        let one : start + b.gap ≡ start = omega (arith, none) in
        let two : end + b.gap ≡ end = omega (arith, none) in
        let at : b.idx + start - b.idx ≡ start = omega arith in
        let past : b.idx + end - b.idx ≡ end = omega arith in
        let input : info.items ≡ glyphs_flagged bits start end b.info.items = rw (one, two) at i in
        rw (h, input, long, at, past, take-append-drop b.idx b.info.items, f) refl
