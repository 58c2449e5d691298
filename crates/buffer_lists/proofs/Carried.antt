-- Merges over falling clusters, of which the last is still to be carried out.
use Rattle.std.specs.Prelude.{slice_range, ◌&&◌, ◌||◌}
use Rattle.std.proofs.Common.{ℕ, zero, suc, ◌≡◌, ◌≢◌, ◌≤◌, ◌<◌, ◌+◌, ◌-◌, ◌==◌, nat_lt, inl, inr, Bool, true, false, if◌then◌else◌, List, [], ◌∷◌, ◌++◌, length, map, take, drop, get_or, arith, refl, ap, sym, subst, ◌∙◌, append_assoc}
use borrow.Rule.Slice.PartMut.{put_mid}
use Rattle.std.proofs.lemmas.Grind.{common_steps}
use Rattle.std.proofs.lemmas.List.{map-append, take-take, take_more, drop-take, drop-drop, drop_more, length-append, length-map, length-take-le, length-drop, take-append-drop}
use Rattle.std.proofs.Math.Seq.{take-append_seam, drop-append_seam}
use Rattle.buffer_glyphs.specs.declared.info.hb_glyph_info_t.{hb_glyph_info_t as Glyph}
use Rattle.buffer_glyphs.specs.Items.{clusters, without_flags}
use Rattle.buffer_glyphs.specs.Parts.{range_of}
use Rattle.buffer_glyphs.specs.Order.{IsFalling, IsRising, IsOrdered, IsInOrder, IsChain, has_number}
use Rattle.buffer_glyphs.specs.Merges.{least_number, merged_number}
use Rattle.buffer_glyphs.specs.Glyphs.{in_cluster, glyphs_merged, glyphs_merged_at, is_marked_at}
use Rattle.buffer_glyphs.specs.declared.level.BufferClusterLevel.{BufferClusterLevel as Level}
use Rattle.buffer_glyphs.specs.declared.level.BufferClusterLevel.TheVariants.{MonotoneGraphemes, MonotoneCharacters, Characters, Graphemes}
use Rattle.buffer_glyphs.specs.Levels.{IsMonotone}
use Rattle.std.specs.List.{list_all}
use Rattle.buffer_glyphs.proofs.Merging.{direction_merged}
use Rattle.buffer_glyphs.specs.Deleting.{IsEndRun}
use Rattle.buffer_glyphs.specs.Lemmas.Ends.{from_first}
use Rattle.buffer_glyphs.specs.Lemmas.Glyphs.{without_flags_again, cut_out, range_clusters, cluster_in_cluster, same_cluster}
use Rattle.buffer_glyphs.specs.Lemmas.Merges.{least_number_is, chain_left, chain_right, chain_across, merged_in}
use Rattle.buffer_glyphs.specs.Lemmas.Numbers.{Has, has_here, has_more, has_cases, has_left, has_right, has_either}
use Rattle.buffer_lists.specs.declared.due.falling.DueRange.{DueRange}
use Rattle.buffer_lists.specs.Sorting.{SpanMerge, span_merged}
use Rattle.buffer_lists.specs.Falling.{with_range_in_cluster, IsDueBefore}

pub carried_put : (d : DueRange) (gs range : List Glyph) → d.from ≤ d.to → range ≡ map (in_cluster d.cluster) (slice_range gs d.from d.to) → put_mid d.from (d.to - d.from) gs range ≡ with_range_in_cluster d gs
carried_put d gs range le e =
    let there : d.from + (d.to - d.from) ≡ d.to = omega arith in
    let behind : drop (d.to - d.from) (drop d.from gs) ≡ drop d.to gs = drop-drop (d.to - d.from) d.from gs ∙ ap (λ n. drop n gs) there in
    rw (e, behind) (sym (append_assoc (take d.from gs) (map (in_cluster d.cluster) (slice_range gs d.from d.to)) (drop d.to gs)))

-- each glyph goes to what becomes of its cluster
abbrev gone : (ℕ → ℕ) → List Glyph → List Glyph
gone f gs = map (λ (g : Glyph). in_cluster (f g.cluster) g) gs

all_stay : (f : ℕ → ℕ) (gs : List Glyph) → ((n : ℕ) → Has (clusters gs) n → f n ≡ n) → gone f gs ≡ gs
all_stay f [] same = refl
all_stay f (g ∷ gs) same =
    let first : in_cluster (f g.cluster) g ≡ g = ap (λ n. in_cluster n g) (same g.cluster (has_here g.cluster (clusters gs))) ∙ same_cluster g in
    ap (λ (h : Glyph). h ∷ gone f gs) first ∙ ap (λ hs. g ∷ hs) (all_stay f gs (λ n h. same n (has_more g.cluster n (clusters gs) h)))

all_go : (f : ℕ → ℕ) (z : ℕ) (gs : List Glyph) → ((n : ℕ) → Has (clusters gs) n → f n ≡ z) → gone f gs ≡ map (in_cluster z) gs
all_go f z [] same = refl
all_go f z (g ∷ gs) same =
    let first : in_cluster (f g.cluster) g ≡ in_cluster z g = ap (λ n. in_cluster n g) (same g.cluster (has_here g.cluster (clusters gs))) in
    ap (λ (h : Glyph). h ∷ gone f gs) first ∙ ap (λ hs. in_cluster z g ∷ hs) (all_go f z gs (λ n h. same n (has_more g.cluster n (clusters gs) h)))

-- a number that is no greater than any of a range
low_stays : (x : ℕ) (xs : List ℕ) (n : ℕ) → ((k : ℕ) → Has (x ∷ xs) k → n ≤ k) → merged_number (x ∷ xs) n ≡ n
low_stays x xs n low = by_test (has_number (x ∷ xs) n) refl
  where
    by_test : (t : Bool) → has_number (x ∷ xs) n ≡ t → (if t then least_number (x ∷ xs) else n) ≡ n
    by_test true e = let least = least_number_is x xs in omega (arith, least.below n e, low (least_number (x ∷ xs)) least.among)
    by_test false e = refl

-- or one that is greater than all
high_stays : (x : ℕ) (xs : List ℕ) (n : ℕ) → ((k : ℕ) → Has (x ∷ xs) k → k < n) → merged_number (x ∷ xs) n ≡ n
high_stays x xs n high = by_test (has_number (x ∷ xs) n) refl
  where
    by_test : (t : Bool) → has_number (x ∷ xs) n ≡ t → (if t then least_number (x ∷ xs) else n) ≡ n
    by_test true e = absurd (omega (arith, high n e))
    by_test false e = refl

abbrev Falls : ℕ → ℕ → Type 0
Falls m n = n ≤ m

falls_self : (n : ℕ) → Falls n n
falls_self n = omega arith

parts_clusters : (f r w b : List Glyph) → clusters (f ++ (r ++ w) ++ b) ≡ clusters f ++ (clusters r ++ clusters w) ++ clusters b
parts_clusters f r w b =
    let v : Glyph → ℕ = λ g. g.cluster in
    map-append v (f ++ (r ++ w)) b ∙ ap (λ ns. ns ++ clusters b) (map-append v f (r ++ w) ∙ ap (λ ns. clusters f ++ ns) (map-append v r w))

-- a merge in falling clusters: what is of the first cluster of the range goes to the least of it, and nothing else
merged_parts : (x : ℕ) (xs : List ℕ) (f r w b : List Glyph) → clusters w ≡ x ∷ xs → IsFalling (clusters (f ++ (r ++ w) ++ b))
    → ((n : ℕ) → Has (clusters f) n → n ≢ x) → ((n : ℕ) → Has (clusters r) n → n ≡ x)
    → gone (merged_number (x ∷ xs)) (f ++ (r ++ w) ++ b) ≡ f ++ map (in_cluster (least_number (x ∷ xs))) (r ++ w) ++ b
merged_parts x xs f r w b is falling other same =
    let range = x ∷ xs in
    let z = least_number range in
    let m : ℕ → ℕ = merged_number range in
    let e : Glyph → Glyph = λ g. in_cluster (m g.cluster) g in
    let whole : IsChain Falls (clusters f ++ (clusters r ++ range) ++ clusters b) =
    subst (IsChain Falls) (parts_clusters f r w b ∙ ap (λ ns. clusters f ++ (clusters r ++ ns) ++ clusters b) is) falling in
    let near : IsChain Falls (clusters f ++ (clusters r ++ range)) = chain_left Falls (clusters f ++ (clusters r ++ range)) (clusters b) whole in
    let inner : IsChain Falls range = chain_right Falls (clusters r) range (chain_right Falls (clusters f) (clusters r ++ range) near) in
    let top = λ (k : ℕ) (h : Has range k). from_first Falls falls_self x k xs inner.0 h in
    let front : gone m f ≡ f = all_stay m f (λ n h. high_stays x xs n (λ k hk.
    let above = chain_across Falls n x (clusters f) (clusters r ++ range) near h (has_right x (clusters r) range (has_here x xs)) in
    let no = other n h in
    let up = top k hk in
    omega (arith, above, no, up))) in
    let back : gone m b ≡ b = all_stay m b (λ n h. low_stays x xs n (λ k hk.
    chain_across Falls k n (clusters f ++ (clusters r ++ range)) (clusters b) whole (has_right k (clusters f) (clusters r ++ range) (has_right k (clusters r) range hk)) h)) in
    let run : gone m r ≡ map (in_cluster z) r = all_go m z r (λ n h. merged_in range n (subst (Has range) (sym (same n h)) (has_here x xs))) in
    let mid : gone m w ≡ map (in_cluster z) w = all_go m z w (λ n h. merged_in range n (subst (λ ns. Has ns n) is h)) in
    map-append e (f ++ (r ++ w)) b ∙ ap (λ hs. hs ++ gone m b) (map-append e f (r ++ w) ∙ ap (λ hs. hs ++ gone m (r ++ w)) front ∙ ap (λ hs. f ++ hs) (map-append e r w ∙ ap (λ hs. hs ++ gone m w) run ∙ ap (λ hs. map (in_cluster z) r ++ hs) mid ∙ sym (map-append (in_cluster z) r w)))
    ∙ ap (λ hs. f ++ map (in_cluster z) (r ++ w) ++ hs) back

pub take_sum : {X : Type 0} (m n : ℕ) (xs : List X) → take (m + n) xs ≡ take m xs ++ take n (drop m xs)
take_sum zero n xs = let e : 0 + n ≡ n = omega arith in ap (λ k. take k xs) e
take_sum (suc m) zero [] = let e : suc m + 0 ≡ suc (m + 0) = omega arith in rw e refl
take_sum (suc m) (suc n) [] = let e : suc m + suc n ≡ suc (m + suc n) = omega arith in rw e refl
take_sum (suc m) n (x ∷ xs) = let e : suc m + n ≡ suc (m + n) = omega arith in ap (λ k. take k (x ∷ xs)) e ∙ ap (λ ys. x ∷ ys) (take_sum m n xs)

pub drop_beyond : {X : Type 0} (i j : ℕ) (xs : List X) → i ≤ j → drop (j - i) (drop i xs) ≡ drop j xs
drop_beyond i j xs le = let there : i + (j - i) ≡ j = omega arith in drop-drop (j - i) i xs ∙ ap (λ n. drop n xs) there

-- a range in two parts
pub two_ranges : {X : Type 0} (i j k : ℕ) (xs : List X) → i ≤ j → j ≤ k → slice_range xs i k ≡ slice_range xs i j ++ slice_range xs j k
two_ranges i j k xs le less =
    let there : k - i ≡ (j - i) + (k - j) = omega arith in
    ap (λ n. take n (drop i xs)) there ∙ take_sum (j - i) (k - j) (drop i xs) ∙ ap (λ ys. slice_range xs i j ++ take (k - j) ys) (drop_beyond i j xs le)

pub take_to : {X : Type 0} (i j : ℕ) (xs : List X) → i ≤ j → take j xs ≡ take i xs ++ slice_range xs i j
take_to i j xs le = let there : j ≡ i + (j - i) = omega arith in ap (λ n. take n xs) there ∙ take_sum i (j - i) xs

-- the first cluster of a range
pub range_first : (gs : List Glyph) (start end : ℕ) (d : Glyph) → start < end → start < length gs → clusters (slice_range gs start end) ≡ (get_or gs start d).cluster ∷ clusters (take (end - start - 1) (drop (start + 1) gs))
range_first gs start end d lt within =
    let one : end - start ≡ suc (end - start - 1) = omega arith in
    ap clusters (ap (take (end - start)) (drop_more gs start d within) ∙ ap (λ n. take n (get_or gs start d ∷ drop (start + 1) gs)) one)

clusters_cut : (gs : List Glyph) (i : ℕ) → clusters gs ≡ clusters (take i gs) ++ clusters (drop i gs)
clusters_cut gs i = ap clusters (sym (take-append-drop i gs)) ∙ map-append (λ (g : Glyph). g.cluster) (take i gs) (drop i gs)

-- those before a range of falling clusters are not less than its first
before_range : (gs : List Glyph) (start end a n : ℕ) (xs : List ℕ) → clusters (slice_range gs start end) ≡ a ∷ xs → IsFalling (clusters gs) → Has (clusters (take start gs)) n → a ≤ n
before_range gs start end a n xs is falling h =
    let chain : IsChain Falls (clusters (take start gs) ++ clusters (drop start gs)) = subst (IsChain Falls) (clusters_cut gs start) falling in
    let within : Has (clusters (drop start gs)) a = subst (λ ns. Has ns a) (sym (clusters_cut (drop start gs) (end - start))) (has_left a (clusters (take (end - start) (drop start gs))) (clusters (drop (end - start) (drop start gs))) (subst (λ ns. Has ns a) (sym is) (has_here a xs))) in
    chain_across Falls n a (clusters (take start gs)) (clusters (drop start gs)) chain h within

-- and the least of the range is not greater than any up to its end
up_to_range : (gs : List Glyph) (start end a n : ℕ) (xs : List ℕ) → start ≤ end → clusters (slice_range gs start end) ≡ a ∷ xs → IsFalling (clusters gs) → Has (clusters (take end gs)) n → least_number (a ∷ xs) ≤ n
up_to_range gs start end a n xs le is falling h =
    let least = least_number_is a xs in
    let cut : clusters (take end gs) ≡ clusters (take start gs) ++ (a ∷ xs) = ap clusters (take_to start end gs le) ∙ map-append (λ (g : Glyph). g.cluster) (take start gs) (slice_range gs start end) ∙ ap (λ ns. clusters (take start gs) ++ ns) is in
    elim (has_either n (clusters (take start gs)) (a ∷ xs) (subst (λ ns. Has ns n) cut h)) [
      | inl before ↦ let far = before_range gs start end a n xs is falling before in let low = least.below a (has_here a xs) in omega (arith, far, low)
      | inr among ↦ least.below n among
    ]

-- a merge by positions
merged_from : (gs : List Glyph) (at start end a : ℕ) (xs : List ℕ) → at ≤ start → start < end → clusters (slice_range gs start end) ≡ a ∷ xs → IsFalling (clusters gs)
    → ((n : ℕ) → Has (clusters (take at gs)) n → n ≢ a) → ((n : ℕ) → Has (clusters (slice_range gs at start)) n → n ≡ a)
    → with_range_in_cluster (record { from = at; to = end; cluster = least_number (a ∷ xs) }) gs ≡ glyphs_merged (range_of start end (clusters gs)) gs
merged_from gs at start end a xs le lt is falling other same =
    let f = take at gs in
    let r = slice_range gs at start in
    let w = slice_range gs start end in
    let b = drop end gs in
    let cut : slice_range gs at end ≡ r ++ w = two_ranges at start end gs le (omega arith) in
    let whole : gs ≡ f ++ (r ++ w) ++ b = sym (cut_out at end gs (omega arith)) ∙ ap (λ hs. f ++ hs ++ b) cut in
    let range : range_of start end (clusters gs) ≡ a ∷ xs = range_clusters gs start end ∙ is in
    sym (ap (λ ns. gone (merged_number ns) gs) range ∙ ap (gone (merged_number (a ∷ xs))) whole ∙ merged_parts a xs f r w b is (subst (λ (hs : List Glyph). IsFalling (clusters hs)) whole falling) other same ∙ ap (λ hs. f ++ map (in_cluster (least_number (a ∷ xs))) hs ++ b) (sym cut))

-- a range of one cluster
merged_alone : (gs : List Glyph) (start end a : ℕ) (xs : List ℕ) → clusters (slice_range gs start end) ≡ a ∷ xs → IsFalling (clusters gs) → a ≡ least_number (a ∷ xs) → gs ≡ glyphs_merged (range_of start end (clusters gs)) gs
merged_alone gs start end a xs is falling alone =
    let range : range_of start end (clusters gs) ≡ a ∷ xs = range_clusters gs start end ∙ is in
    let behind : IsChain Falls (clusters (drop start gs)) = chain_right Falls (clusters (take start gs)) (clusters (drop start gs)) (subst (IsChain Falls) (clusters_cut gs start) falling) in
    let inner : IsChain Falls (a ∷ xs) = subst (IsChain Falls) is (chain_left Falls (clusters (slice_range gs start end)) (clusters (drop (end - start) (drop start gs))) (subst (IsChain Falls) (clusters_cut (drop start gs) (end - start)) behind)) in
    sym (ap (λ ns. gone (merged_number ns) gs) range ∙ all_stay (merged_number (a ∷ xs)) gs (λ n h. by_test n (has_number (a ∷ xs) n) refl inner))
  where
    by_test : (n : ℕ) (t : Bool) → has_number (a ∷ xs) n ≡ t → IsChain Falls (a ∷ xs) → (if t then least_number (a ∷ xs) else n) ≡ n
    by_test n true e inner = let low = (least_number_is a xs).below n e in let top = from_first Falls falls_self a n xs inner.0 e in omega (arith, low, top, alone)
    by_test n false e inner = refl

-- what is carried out, part by part
pub range_long : (d : DueRange) (gs : List Glyph) → d.from ≤ d.to → d.to ≤ length gs → length (map (in_cluster d.cluster) (slice_range gs d.from d.to)) ≡ d.to - d.from
range_long d gs le within = length-map (slice_range gs d.from d.to) (in_cluster d.cluster) ∙ length-take-le (d.to - d.from) (drop d.from gs) (omega (arith, length-drop d.from gs))

pub front_long : (d : DueRange) (gs : List Glyph) → d.from ≤ d.to → d.to ≤ length gs → length (take d.from gs ++ map (in_cluster d.cluster) (slice_range gs d.from d.to)) ≡ d.to
front_long d gs le within = omega (arith, length-append (take d.from gs) (map (in_cluster d.cluster) (slice_range gs d.from d.to)), length-take-le d.from gs (omega arith), range_long d gs le within)

pub take_carried : (d : DueRange) (gs : List Glyph) → d.from ≤ d.to → d.to ≤ length gs → take d.to (with_range_in_cluster d gs) ≡ take d.from gs ++ map (in_cluster d.cluster) (slice_range gs d.from d.to)
take_carried d gs le within =
    let f = take d.from gs ++ map (in_cluster d.cluster) (slice_range gs d.from d.to) in
    ap (λ n. take n (f ++ drop d.to gs)) (sym (front_long d gs le within)) ∙ take-append_seam f (drop d.to gs)

pub drop_carried : (d : DueRange) (gs : List Glyph) (at : ℕ) → d.from ≤ d.to → d.to ≤ length gs → d.to ≤ at → drop at (with_range_in_cluster d gs) ≡ drop at gs
drop_carried d gs at le within behind =
    let f = take d.from gs ++ map (in_cluster d.cluster) (slice_range gs d.from d.to) in
    let here : drop d.to (with_range_in_cluster d gs) ≡ drop d.to gs = ap (λ n. drop n (f ++ drop d.to gs)) (sym (front_long d gs le within)) ∙ drop-append_seam f (drop d.to gs) in
    sym (drop_beyond d.to at (with_range_in_cluster d gs) behind) ∙ ap (drop (at - d.to)) here ∙ drop_beyond d.to at gs behind

pub from_carried : (d : DueRange) (gs : List Glyph) → d.from ≤ d.to → d.to ≤ length gs → take d.from (with_range_in_cluster d gs) ≡ take d.from gs
from_carried d gs le within =
    let m = map (in_cluster d.cluster) (slice_range gs d.from d.to) in
    let long : length (take d.from gs) ≡ d.from = length-take-le d.from gs (omega arith) in
    ap (take d.from) (append_assoc (take d.from gs) m (drop d.to gs)) ∙ ap (λ n. take n (take d.from gs ++ (m ++ drop d.to gs))) (sym long) ∙ take-append_seam (take d.from gs) (m ++ drop d.to gs)

pub range_carried : (d : DueRange) (gs : List Glyph) → d.from ≤ d.to → d.to ≤ length gs → slice_range (with_range_in_cluster d gs) d.from d.to ≡ map (in_cluster d.cluster) (slice_range gs d.from d.to)
range_carried d gs le within =
    let m = map (in_cluster d.cluster) (slice_range gs d.from d.to) in
    let long : length (take d.from gs) ≡ d.from = length-take-le d.from gs (omega arith) in
    let behind : drop d.from (with_range_in_cluster d gs) ≡ m ++ drop d.to gs = ap (drop d.from) (append_assoc (take d.from gs) m (drop d.to gs)) ∙ ap (λ n. drop n (take d.from gs ++ (m ++ drop d.to gs))) (sym long) ∙ drop-append_seam (take d.from gs) (m ++ drop d.to gs) in
    ap (take (d.to - d.from)) behind ∙ ap (λ n. take n (m ++ drop d.to gs)) (sym (range_long d gs le within)) ∙ take-append_seam m (drop d.to gs)

in_twice : (c z : ℕ) (g : Glyph) → c ≢ z → g.cluster ≢ z → in_cluster z (in_cluster c g) ≡ in_cluster z g
in_twice c z g other off = by_test (g.cluster == c) refl
  where
    by_test : (t : Bool) → (g.cluster == c) ≡ t → in_cluster z (if t then g else record g { cluster = c; mask = without_flags g.mask }) ≡ in_cluster z g
    by_test true e = refl
    by_test false e =
        let no : (c == z) ≡ false = grind (arith, common_steps, other) in
        let never : (g.cluster == z) ≡ false = grind (arith, common_steps, off) in
        rw (no, never, without_flags_again g.mask) refl

all_twice : (c z : ℕ) (gs : List Glyph) → c ≢ z → ((n : ℕ) → Has (clusters gs) n → n ≢ z) → map (in_cluster z) (map (in_cluster c) gs) ≡ map (in_cluster z) gs
all_twice c z [] other off = refl
all_twice c z (g ∷ gs) other off =
    ap (λ (h : Glyph). h ∷ map (in_cluster z) (map (in_cluster c) gs)) (in_twice c z g other (off g.cluster (has_here g.cluster (clusters gs))))
    ∙ ap (λ hs. in_cluster z g ∷ hs) (all_twice c z gs other (λ n h. off n (has_more g.cluster n (clusters gs) h)))

-- after what is due nothing changes
pub same_range : (d : DueRange) (gs : List Glyph) (i j : ℕ) → d.from ≤ d.to → d.to ≤ length gs → d.to ≤ i → slice_range (with_range_in_cluster d gs) i j ≡ slice_range gs i j
same_range d gs i j le within behind = ap (take (j - i)) (drop_carried d gs i le within behind)

has_before : (gs : List Glyph) (i j n : ℕ) → i ≤ j → Has (clusters (take i gs)) n → Has (clusters (take j gs)) n
has_before gs i j n le h =
    let cut : clusters (take j gs) ≡ clusters (take i gs) ++ clusters (slice_range gs i j) = ap clusters (take_to i j gs le) ∙ map-append (λ (g : Glyph). g.cluster) (take i gs) (slice_range gs i j) in
    subst (λ ns. Has ns n) (sym cut) (has_left n (clusters (take i gs)) (clusters (slice_range gs i j)) h)

has_within : (gs : List Glyph) (i j n : ℕ) → i ≤ j → Has (clusters (slice_range gs i j)) n → Has (clusters (take j gs)) n
has_within gs i j n le h =
    let cut : clusters (take j gs) ≡ clusters (take i gs) ++ clusters (slice_range gs i j) = ap clusters (take_to i j gs le) ∙ map-append (λ (g : Glyph). g.cluster) (take i gs) (slice_range gs i j) in
    subst (λ ns. Has ns n) (sym cut) (has_right n (clusters (take i gs)) (clusters (slice_range gs i j)) h)

-- what is carried out again to a lesser cluster
twice : (d : DueRange) (gs : List Glyph) (end z : ℕ) → d.from ≤ d.to → d.to ≤ length gs → d.to ≤ end → z < d.cluster → ((n : ℕ) → Has (clusters (take d.to gs)) n → d.cluster ≤ n)
    → with_range_in_cluster (record { from = d.from; to = end; cluster = z }) (with_range_in_cluster d gs) ≡ with_range_in_cluster (record { from = d.from; to = end; cluster = z }) gs
twice d gs end z le within behind less least =
    let m = with_range_in_cluster d gs in
    let go : List Glyph → List Glyph = map (in_cluster z) in
    let r = slice_range gs d.from d.to in
    let w = slice_range gs d.to end in
    let other : d.cluster ≢ z = λ e. absurd (omega (arith, e, less)) in
    let off : (n : ℕ) → Has (clusters r) n → n ≢ z = λ n h e. let low = least n (has_within gs d.from d.to n le h) in absurd (omega (arith, e, less, low)) in
    let cut : slice_range m d.from end ≡ map (in_cluster d.cluster) r ++ w = two_ranges d.from d.to end m le behind ∙ ap (λ hs. hs ++ slice_range m d.to end) (range_carried d gs le within) ∙ ap (λ hs. map (in_cluster d.cluster) r ++ hs) (same_range d gs d.to end le within (omega arith)) in
    let mid : go (slice_range m d.from end) ≡ go (slice_range gs d.from end) = ap go cut ∙ map-append (in_cluster z) (map (in_cluster d.cluster) r) w ∙ ap (λ hs. hs ++ go w) (all_twice d.cluster z r other off) ∙ sym (map-append (in_cluster z) r w) ∙ ap go (sym (two_ranges d.from d.to end gs le behind)) in
    ap (λ hs. hs ++ go (slice_range m d.from end) ++ drop end m) (from_carried d gs le within) ∙ ap (λ hs. take d.from gs ++ hs ++ drop end m) mid ∙ ap (λ hs. take d.from gs ++ go (slice_range gs d.from end) ++ hs) (drop_carried d gs end le within behind)

in_one : (c n : ℕ) (gs : List Glyph) → Has (clusters (map (in_cluster c) gs)) n → n ≡ c
in_one c n [] h = cc
in_one c n (g ∷ gs) h = elim (has_cases (in_cluster c g).cluster n (clusters (map (in_cluster c) gs)) h) [ inl e ↦ sym e ∙ cluster_in_cluster c g | inr later ↦ in_one c n gs later ]

one_in : (c : ℕ) (gs : List Glyph) → 0 < length gs → Has (clusters (map (in_cluster c) gs)) c
one_in c [] lt = absurd (omega arith)
one_in c (g ∷ gs) lt = subst (λ (n : ℕ). Has (n ∷ clusters (map (in_cluster c) gs)) c) (sym (cluster_in_cluster c g)) (has_here c (clusters (map (in_cluster c) gs)))

has_some : (k n : ℕ) (gs : List Glyph) → Has (clusters (take k gs)) n → 0 < k
has_some zero n gs h = cc
has_some (suc k) n gs h = omega arith

all_are : (p n : ℕ) (gs : List Glyph) → list_all (λ (k : Glyph). k.cluster == p) gs ≡ true → Has (clusters gs) n → n ≡ p
all_are p n [] e h = cc
all_are p n (g ∷ gs) e h = elim (has_cases g.cluster n (clusters gs) h) [
  | inl is ↦ sym is ∙ same (g.cluster == p) refl
  | inr later ↦ all_are p n gs (rest (g.cluster == p) e) later
]
  where
    same : (t : Bool) → (g.cluster == p) ≡ t → g.cluster ≡ p
    same true f = grind (arith, common_steps, f)
    same false f = let bad : (false && list_all (λ (k : Glyph). k.cluster == p) gs) ≡ true = subst (λ (t : Bool). (t && list_all (λ (k : Glyph). k.cluster == p) gs) ≡ true) f e in cc

    rest : (t : Bool) → (t && list_all (λ (k : Glyph). k.cluster == p) gs) ≡ true → list_all (λ (k : Glyph). k.cluster == p) gs ≡ true
    rest true f = f
    rest false f = cc

-- a range after what is due in falling clusters
pub record IsRange (start end a : ℕ) (xs : List ℕ) (d : DueRange) (gs : List Glyph) : Type 0 where
  pub lt : start < end
  pub within : end ≤ length gs
  pub is : clusters (slice_range gs start end) ≡ a ∷ xs
  pub due : IsDueBefore start d gs

range_meant : (start end a : ℕ) (xs : List ℕ) (d : DueRange) (gs : List Glyph) → IsRange start end a xs d gs → clusters (slice_range (with_range_in_cluster d gs) start end) ≡ a ∷ xs
range_meant start end a xs d gs r = ap clusters (same_range d gs start end r.due.ordered (omega (arith, r.due.before, r.lt, r.within)) r.due.before) ∙ r.is

falls_merged : (start end : ℕ) (gs new : List Glyph) → start < end → IsFalling (clusters gs) → new ≡ glyphs_merged (range_of start end (clusters gs)) gs → IsFalling (clusters new)
falls_merged start end gs new lt falling e = direction_merged MonotoneGraphemes start end gs new (omega arith) e true falling

-- the due range joins
pub joined_merged : (start end a : ℕ) (xs : List ℕ) (d : DueRange) (gs : List Glyph) → IsRange start end a xs d gs → least_number (a ∷ xs) < a → d.cluster ≡ a → ((n : ℕ) → Has (clusters (slice_range gs d.to start)) n → n ≡ a)
    → with_range_in_cluster (record { from = d.from; to = end; cluster = least_number (a ∷ xs) }) gs ≡ glyphs_merged (range_of start end (clusters (with_range_in_cluster d gs))) (with_range_in_cluster d gs)
joined_merged start end a xs d gs r less joins all =
    let due = r.due in
    let m = with_range_in_cluster d gs in
    let within : d.to ≤ length gs = omega (arith, due.before, r.lt, r.within) in
    let mid = slice_range gs d.from d.to in
    let cut : clusters (slice_range m d.from start) ≡ clusters (map (in_cluster d.cluster) mid) ++ clusters (slice_range gs d.to start) =
    ap clusters (two_ranges d.from d.to start m due.ordered due.before ∙ ap (λ hs. hs ++ slice_range m d.to start) (range_carried d gs due.ordered within) ∙ ap (λ hs. map (in_cluster d.cluster) mid ++ hs) (same_range d gs d.to start due.ordered within (omega arith)))
    ∙ map-append (λ (g : Glyph). g.cluster) (map (in_cluster d.cluster) mid) (slice_range gs d.to start) in
    let other : (n : ℕ) → Has (clusters (take d.from m)) n → n ≢ a = λ n h e. let high = due.above n (subst (λ (hs : List Glyph). Has (clusters hs) n) (from_carried d gs due.ordered within) h) in absurd (omega (arith, e, joins, high)) in
    let same : (n : ℕ) → Has (clusters (slice_range m d.from start)) n → n ≡ a = λ n h. elim (has_either n (clusters (map (in_cluster d.cluster) mid)) (clusters (slice_range gs d.to start)) (subst (λ ns. Has ns n) cut h)) [
      | inl of ↦ in_one d.cluster n mid of ∙ joins
      | inr ahead ↦ all n ahead
    ] in
    sym (twice d gs end (least_number (a ∷ xs)) due.ordered within (omega (arith, due.before, r.lt)) (omega (arith, joins, less)) due.least)
    ∙ merged_from m d.from start end a xs (omega (arith, due.ordered, due.before)) r.lt (range_meant start end a xs d gs r) due.falls other same

pub joined_due : (start end a : ℕ) (xs : List ℕ) (d : DueRange) (gs : List Glyph) → IsRange start end a xs d gs → least_number (a ∷ xs) < a → d.cluster ≡ a → ((n : ℕ) → Has (clusters (slice_range gs d.to start)) n → n ≡ a)
    → IsDueBefore end (record { from = d.from; to = end; cluster = least_number (a ∷ xs) }) gs
joined_due start end a xs d gs r less joins all =
    let due = r.due in
    let m = with_range_in_cluster d gs in
    let z = least_number (a ∷ xs) in
    let within : d.to ≤ length gs = omega (arith, due.before, r.lt, r.within) in
    let far : d.to ≤ end = omega (arith, due.before, r.lt) in
    let cut : clusters (take end gs) ≡ clusters (take d.to gs) ++ clusters (slice_range gs d.to end) = ap clusters (take_to d.to end gs far) ∙ map-append (λ (g : Glyph). g.cluster) (take d.to gs) (slice_range gs d.to end) in
    record {
      ordered = omega (arith, due.ordered, due.before, r.lt);
      before = omega arith;
      some = λ lt. omega (arith, due.ordered, due.before, r.lt);
      above = λ n h. let high = due.above n h in omega (arith, high, joins, less);
      least = λ n h. elim (has_either n (clusters (take d.to gs)) (clusters (slice_range gs d.to end)) (subst (λ ns. Has ns n) cut h)) [
        | inl before ↦ let low = due.least n before in omega (arith, low, joins, less)
        | inr ahead ↦ up_to_range m start end a n xs (omega (arith, r.lt)) (range_meant start end a xs d gs r) due.falls (has_within m d.to end n far (subst (λ (hs : List Glyph). Has (clusters hs) n) (sym (same_range d gs d.to end due.ordered within (omega arith))) ahead))
      ];
      falls = falls_merged start end m (with_range_in_cluster (record { from = d.from; to = end; cluster = z }) gs) r.lt due.falls (joined_merged start end a xs d gs r less joins all);
    }

-- what is due goes to a cluster that is not less
due_above : (start end a : ℕ) (xs : List ℕ) (d : DueRange) (gs : List Glyph) → IsRange start end a xs d gs → 0 < d.to → a ≤ d.cluster
due_above start end a xs d gs r lt =
    let due = r.due in
    let m = with_range_in_cluster d gs in
    let within : d.to ≤ length gs = omega (arith, due.before, r.lt, r.within) in
    let mid = slice_range gs d.from d.to in
    let go : List Glyph = map (in_cluster d.cluster) mid in
    let long : 0 < length mid = omega (arith, due.some lt, length-take-le (d.to - d.from) (drop d.from gs) (omega (arith, length-drop d.from gs))) in
    let there : clusters (take d.to m) ≡ clusters (take d.from gs) ++ clusters go = ap clusters (take_carried d gs due.ordered within) ∙ map-append (λ (g : Glyph). g.cluster) (take d.from gs) go in
    before_range m start end a d.cluster xs (range_meant start end a xs d gs r) due.falls
    (has_before m d.to start d.cluster due.before (subst (λ ns. Has ns d.cluster) (sym there) (has_right d.cluster (clusters (take d.from gs)) (clusters go) (one_in d.cluster mid long))))

-- none of it is of the first cluster of the range, nor is what is before it
none_due : (start end a n : ℕ) (xs : List ℕ) (d : DueRange) (gs : List Glyph) → IsRange start end a xs d gs → d.cluster ≢ a → Has (clusters (take d.to (with_range_in_cluster d gs))) n → n ≢ a
none_due start end a n xs d gs r other h e =
    let due = r.due in
    let within : d.to ≤ length gs = omega (arith, due.before, r.lt, r.within) in
    let mid = slice_range gs d.from d.to in
    let go : List Glyph = map (in_cluster d.cluster) mid in
    let there : clusters (take d.to (with_range_in_cluster d gs)) ≡ clusters (take d.from gs) ++ clusters go = ap clusters (take_carried d gs due.ordered within) ∙ map-append (λ (g : Glyph). g.cluster) (take d.from gs) go in
    let high : a ≤ d.cluster = due_above start end a xs d gs r (has_some d.to n (with_range_in_cluster d gs) h) in
    elim (has_either n (clusters (take d.from gs)) (clusters go) (subst (λ ns. Has ns n) there h)) [
      | inl before ↦ let up = due.above n before in absurd (omega (arith, up, high, e))
      | inr among ↦ other (sym (in_one d.cluster n mid among) ∙ e)
    ]

-- the range between the due one and the range
ahead_is : {X : Type 0} (gs : List X) (to start ahead : ℕ) → to + ahead ≤ start → take ahead (slice_range gs to start) ≡ slice_range gs to (to + ahead)
ahead_is gs to start ahead le =
    let wide : to + ahead - to ≡ ahead = omega arith in
    take-take ahead (start - to) (drop to gs) (omega arith) ∙ ap (λ n. take n (drop to gs)) (sym wide)

behind_is : {X : Type 0} (gs : List X) (to start ahead : ℕ) → to + ahead ≤ start → drop ahead (slice_range gs to start) ≡ slice_range gs (to + ahead) start
behind_is gs to start ahead le =
    let wide : start - to ≡ ahead + (start - (to + ahead)) = omega arith in
    ap (λ n. drop ahead (take n (drop to gs))) wide ∙ drop-take ahead (start - (to + ahead)) (drop to gs) ∙ ap (take (start - (to + ahead))) (drop-drop ahead to gs)

-- where the run before the range begins, all before it is of other clusters
none_before : (start end a n ahead : ℕ) (xs : List ℕ) (d : DueRange) (gs : List Glyph) → IsRange start end a xs d gs → d.to + ahead ≤ start → IsEndRun a ahead (slice_range gs d.to start) → (ahead ≡ 0 → d.cluster ≢ a)
    → Has (clusters (take (d.to + ahead) (with_range_in_cluster d gs))) n → n ≢ a
none_before start end a n zero xs d gs r le run other h e =
    let here : d.to + 0 ≡ d.to = omega arith in
    none_due start end a n xs d gs r (other refl) (subst (λ (k : ℕ). Has (clusters (take k (with_range_in_cluster d gs))) n) here h) e
none_before start end a n (suc i) xs d gs r le run other h e =
    by_last (drop i (slice_range gs d.to start)) refl
  where
    by_last : (rest : List Glyph) → drop i (slice_range gs d.to start) ≡ rest → ⊥
    by_last [] f =
        let k : List Glyph = slice_range gs d.to start in
        let long : length k ≡ start - d.to = length-take-le (start - d.to) (drop d.to gs) (omega (arith, length-drop d.to gs, r.lt, r.within)) in
        absurd (omega (arith, ap length f, length-drop i k, long, le))
    by_last (g ∷ rest) f =
        let due = r.due in
        let m = with_range_in_cluster d gs in
        let v : Glyph → ℕ = λ g. g.cluster in
        let within : d.to ≤ length gs = omega (arith, due.before, r.lt, r.within) in
        let k : List Glyph = slice_range gs d.to start in
        let long : length k ≡ start - d.to = length-take-le (start - d.to) (drop d.to gs) (omega (arith, length-drop d.to gs, r.lt, r.within)) in
        let lt : i < length k = omega (arith, long, le) in
        let last = get_or k i g in
        let one : i + 1 ≡ suc i = omega arith in
        let cut : take (suc i) k ≡ take i k ++ last ∷ [] = ap (λ j. take j k) (sym one) ∙ take_more k i g lt in
        let same : slice_range m d.to (d.to + suc i) ≡ take i k ++ last ∷ [] = same_range d gs d.to (d.to + suc i) due.ordered within (omega arith) ∙ sym (ahead_is gs d.to start (suc i) le) ∙ cut in
        let there : clusters (take (d.to + suc i) m) ≡ (clusters (take d.to m) ++ clusters (take i k)) ++ last.cluster ∷ [] =
        ap clusters (take_to d.to (d.to + suc i) m (omega arith) ∙ ap (λ hs. take d.to m ++ hs) same) ∙ map-append v (take d.to m) (take i k ++ last ∷ []) ∙ ap (λ ns. clusters (take d.to m) ++ ns) (map-append v (take i k) (last ∷ [])) ∙ sym (append_assoc (clusters (take d.to m)) (clusters (take i k)) (last.cluster ∷ [])) in
        let chain : IsChain Falls ((clusters (take d.to m) ++ clusters (take i k)) ++ last.cluster ∷ []) =
        subst (IsChain Falls) there (chain_left Falls (clusters (take (d.to + suc i) m)) (clusters (drop (d.to + suc i) m)) (subst (IsChain Falls) (clusters_cut m (d.to + suc i)) due.falls)) in
        let has : Has (clusters (take (d.to + suc i) m)) last.cluster = subst (λ ns. Has ns last.cluster) (sym there) (has_right last.cluster (clusters (take d.to m) ++ clusters (take i k)) (last.cluster ∷ []) (has_here last.cluster [])) in
        let low : a ≤ last.cluster = before_range m start end a last.cluster xs (range_meant start end a xs d gs r) due.falls (has_before m (d.to + suc i) start last.cluster le has) in
        let off : last.cluster ≢ a = run.first i g one in
        elim (has_either n (clusters (take d.to m) ++ clusters (take i k)) (last.cluster ∷ []) (subst (λ ns. Has ns n) there h)) [
          | inl before ↦ let high = chain_across Falls n last.cluster (clusters (take d.to m) ++ clusters (take i k)) (last.cluster ∷ []) chain before (has_here last.cluster []) in off (omega (arith, high, low, e))
          | inr among ↦ elim (has_cases last.cluster n [] among) [ inl is ↦ off (is ∙ e) | inr none ↦ cc ]
        ]

-- the due range is carried out, and another begins
pub begun_merged : (start end a ahead : ℕ) (xs : List ℕ) (d : DueRange) (gs : List Glyph) → IsRange start end a xs d gs → d.to + ahead ≤ start → IsEndRun a ahead (slice_range gs d.to start) → (ahead ≡ 0 → d.cluster ≢ a)
    → with_range_in_cluster (record { from = d.to + ahead; to = end; cluster = least_number (a ∷ xs) }) (with_range_in_cluster d gs) ≡ glyphs_merged (range_of start end (clusters (with_range_in_cluster d gs))) (with_range_in_cluster d gs)
begun_merged start end a ahead xs d gs r le run other =
    let due = r.due in
    let within : d.to ≤ length gs = omega (arith, due.before, r.lt, r.within) in
    let behind : slice_range (with_range_in_cluster d gs) (d.to + ahead) start ≡ drop ahead (slice_range gs d.to start) = same_range d gs (d.to + ahead) start due.ordered within (omega arith) ∙ sym (behind_is gs d.to start ahead le) in
    merged_from (with_range_in_cluster d gs) (d.to + ahead) start end a xs le r.lt (range_meant start end a xs d gs r) due.falls
    (λ n h. none_before start end a n ahead xs d gs r le run other h)
    (λ n h. all_are a n (drop ahead (slice_range gs d.to start)) run.all (subst (λ (hs : List Glyph). Has (clusters hs) n) behind h))

pub begun_due : (start end a ahead : ℕ) (xs : List ℕ) (d : DueRange) (gs : List Glyph) → IsRange start end a xs d gs → d.to + ahead ≤ start → IsEndRun a ahead (slice_range gs d.to start) → (ahead ≡ 0 → d.cluster ≢ a) → least_number (a ∷ xs) < a
    → IsDueBefore end (record { from = d.to + ahead; to = end; cluster = least_number (a ∷ xs) }) (with_range_in_cluster d gs)
begun_due start end a ahead xs d gs r le run other less =
    let m = with_range_in_cluster d gs in
    let is = range_meant start end a xs d gs r in
    record {
      ordered = omega (arith, le, r.lt);
      before = omega arith;
      some = λ lt. omega (arith, le, r.lt);
      above = λ n h. let low = before_range m start end a n xs is r.due.falls (has_before m (d.to + ahead) start n le h) in omega (arith, low, less);
      least = λ n h. up_to_range m start end a n xs (omega (arith, r.lt)) is r.due.falls h;
      falls = falls_merged start end m (with_range_in_cluster (record { from = d.to + ahead; to = end; cluster = least_number (a ∷ xs) }) m) r.lt r.due.falls (begun_merged start end a ahead xs d gs r le run other);
    }

-- a range that begins with a glyph
pub range_at : (start end : ℕ) (d : DueRange) (gs : List Glyph) (g : Glyph) → start < end → end ≤ length gs → IsDueBefore start d gs → IsRange start end (get_or gs start g).cluster (clusters (take (end - start - 1) (drop (start + 1) gs))) d gs
range_at start end d gs g lt within due = record { lt = lt; within = within; is = range_first gs start end g lt (omega arith); due = due }

-- a range of one cluster changes nothing
pub kept_merged : (start end a : ℕ) (xs : List ℕ) (d : DueRange) (gs : List Glyph) → IsRange start end a xs d gs → a ≡ least_number (a ∷ xs) → with_range_in_cluster d gs ≡ glyphs_merged (range_of start end (clusters (with_range_in_cluster d gs))) (with_range_in_cluster d gs)
kept_merged start end a xs d gs r alone = merged_alone (with_range_in_cluster d gs) start end a xs (range_meant start end a xs d gs r) r.due.falls alone

pub low_below : (a z : ℕ) (ns xs : List ℕ) → ns ≡ a ∷ xs → z ≡ least_number ns → a ≢ z → least_number (a ∷ xs) < a
low_below a z ns xs is e other =
    let same : z ≡ least_number (a ∷ xs) = e ∙ ap least_number is in
    let low = (least_number_is a xs).below a (has_here a xs) in
    omega (arith, same, low, other)

-- where none is passed, all that was to be passed is of the cluster
pub all_ahead : (a n ahead : ℕ) (gs : List Glyph) → ahead ≡ 0 → IsEndRun a ahead gs → Has (clusters gs) n → n ≡ a
all_ahead a n ahead gs e run h = let all = run.all in all_are a n gs (rw e at all) h

first_of_rising : (n m : ℕ) (ns : List ℕ) → IsRising (n ∷ ns) → Has (n ∷ ns) m → n ≤ m
first_of_rising n m ns h has = from_first (λ (i j : ℕ). i ≤ j) (λ k. omega arith) n m ns h.0 has

pub got_has : (gs : List Glyph) (i : ℕ) (d : Glyph) → i < length gs → Has (clusters gs) (get_or gs i d).cluster
got_has [] i d lt = absurd (omega arith)
got_has (g ∷ gs) zero d lt = has_here g.cluster (clusters gs)
got_has (g ∷ gs) (suc i) d lt = has_more g.cluster (get_or gs i d).cluster (clusters gs) (got_has gs i d (omega (arith, lt)))

-- clusters in order fall where the last is less than the first
pub falls_where_lower : (gs : List Glyph) (d : Glyph) → 0 < length gs → (get_or gs (length gs - 1) d).cluster < (get_or gs 0 d).cluster → IsOrdered (clusters gs) → IsFalling (clusters gs)
falls_where_lower [] d lt less o = absurd (omega arith)
falls_where_lower (g ∷ gs) d lt less o = elim o [
  | inl rises ↦ let low = first_of_rising g.cluster (get_or (g ∷ gs) (length (g ∷ gs) - 1) d).cluster (clusters gs) rises (got_has (g ∷ gs) (length (g ∷ gs) - 1) d (omega arith)) in absurd (omega (arith, low, less))
  | inr falls ↦ falls
]

-- a span keeps the order of clusters
pub span_direction : (level : Level) (start end : ℕ) (s t : SpanMerge) → start ≤ end → t ≡ span_merged level start end s → (falls : Bool) → IsInOrder falls (clusters s.glyphs) → IsInOrder falls (clusters t.glyphs)
span_direction level start end s t le e falls o = subst (λ (u : SpanMerge). IsInOrder falls (clusters u.glyphs)) (sym e) (by_test (nat_lt (start + 1) end))
  where
    by_test : (u : Bool) → IsInOrder falls (clusters (if u then record { glyphs = glyphs_merged_at level start end s.glyphs; is_marked = s.is_marked || is_marked_at level start end (clusters s.glyphs) } else s).glyphs)
    by_test true = direction_merged level start end s.glyphs (glyphs_merged_at level start end s.glyphs) le refl falls o
    by_test false = o

pub span_ordered : (level : Level) (start end : ℕ) (s t : SpanMerge) → start ≤ end → t ≡ span_merged level start end s → IsOrdered (clusters s.glyphs) → IsOrdered (clusters t.glyphs)
span_ordered level start end s t le e o = elim o [
  | inl rises ↦ inl (span_direction level start end s t le e false rises)
  | inr falls ↦ inr (span_direction level start end s t le e true falls)
]

-- at a monotone level
pub merged_falling : (level : Level) (start end : ℕ) (gs : List Glyph) → IsMonotone level → glyphs_merged (range_of start end (clusters gs)) gs ≡ glyphs_merged_at level start end gs
merged_falling MonotoneGraphemes start end gs mono = refl
merged_falling MonotoneCharacters start end gs mono = refl
merged_falling Characters start end gs mono = absurd mono
merged_falling Graphemes start end gs mono = absurd mono

pub none_marked : (level : Level) (start end : ℕ) (ns : List ℕ) (m : Bool) → IsMonotone level → m ≡ (m || is_marked_at level start end ns)
none_marked MonotoneGraphemes start end ns m mono = elim m as (λ t. t ≡ (t || false)) [ true ↦ refl | false ↦ refl ]
none_marked MonotoneCharacters start end ns m mono = elim m as (λ t. t ≡ (t || false)) [ true ↦ refl | false ↦ refl ]
none_marked Characters start end ns m mono = absurd mono
none_marked Graphemes start end ns m mono = absurd mono

pub nothing_due : (gs : List Glyph) → IsFalling (clusters gs) → IsDueBefore 0 (record { from = 0; to = 0; cluster = 0 }) gs
nothing_due gs falls = record { ordered = omega arith; before = omega arith; some = λ lt. absurd (omega (arith, lt)); above = λ n h. cc; least = λ n h. cc; falls = falls }
