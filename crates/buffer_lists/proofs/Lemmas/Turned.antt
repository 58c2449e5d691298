-- A walk that turns round group after group.
use Rattle.std.specs.Prelude.{slice_range}
use borrow.Rule.Slice.PartMut.{put_mid}
use Rattle.std.proofs.Common.{ℕ, suc, zero, ◌≡◌, ◌≤◌, ◌<◌, ◌+◌, ◌-◌, ◌||◌, Bool, true, false, List, [], ◌∷◌, ◌++◌, length, map, take, drop, reverse, arith, refl, ap, sym, subst, ◌∙◌, append_assoc}
use Rattle.std.proofs.lemmas.List.{drop-drop, take-map, drop-map, length-append, take-append-drop, length-take-le, length-drop, length-reverse, reverse-append, reverse-reverse, map-append, drop_all, take_all}
use Rattle.std.proofs.Math.Seq.{take-append_seam, drop-append_seam}
use Rattle.buffer_glyphs.specs.declared.info.hb_glyph_info_t.{hb_glyph_info_t as Glyph}
use Rattle.buffer_glyphs.specs.declared.level.BufferClusterLevel.{BufferClusterLevel}
use Rattle.buffer_glyphs.specs.declared.level.BufferClusterLevel.TheVariants.{MonotoneGraphemes, MonotoneCharacters, Characters, Graphemes}
use Rattle.buffer_glyphs.specs.Items.{Position, clusters}
use Rattle.buffer_glyphs.specs.Parts.{range_of}
use Rattle.buffer_glyphs.specs.Merges.{least_number, merged_number}
use Rattle.buffer_glyphs.specs.Order.{IsOrdered}
use Rattle.buffer_glyphs.specs.Levels.{IsMonotone, Marks}
use Rattle.buffer_glyphs.specs.Lemmas.Merges.{map_alike}
use Rattle.buffer_glyphs.proofs.Merging.{order_merged}
use Rattle.buffer_glyphs.specs.Glyphs.{glyphs_merged_at, beside_merged, glyphs_merged, has_several_numbers, is_marked_as}
use Rattle.buffer_glyphs.specs.Lemmas.Glyphs.{merged_at_beyond, range_clusters, length_beside, length_merged_at, clusters_merged, cut_out, nothing_merged}
use Rattle.buffer_lists.specs.Groups.{group_length}
use Rattle.buffer_lists.specs.Turning.{Turning, range_reversed, glyphs_merged_if, is_marked_if, beside_if, first_turned, group_turned, turning_at, all_turned, turning_of}
use Rattle.buffer_glyphs.specs.Lemmas.EventParts.{map-reverse}
use Rattle.buffer_facts.proofs.Truth.{or_false}

pub turned_put : {X : Type 0} (start end : ℕ) (xs range : List X) → start ≤ end → range ≡ reverse (slice_range xs start end) → put_mid start (end - start) xs range ≡ range_reversed start end xs
turned_put start end xs range le e =
    let there : start + (end - start) ≡ end = omega arith in
    let behind : drop (end - start) (drop start xs) ≡ drop end xs = drop-drop (end - start) start xs ∙ ap (λ n. drop n xs) there in
    rw (e, behind) (sym (append_assoc (take start xs) (reverse (slice_range xs start end)) (drop end xs)))

pub part_front : {X : Type 0} (start end : ℕ) (xs : List X) → start ≤ end → end ≤ length xs → length (take start xs ++ reverse (slice_range xs start end)) ≡ end
part_front start end xs le within =
    omega (arith, length-append (take start xs) (reverse (slice_range xs start end)), length-take-le start xs (omega arith), length-reverse (slice_range xs start end), length-take-le (end - start) (drop start xs) (omega (arith, length-drop start xs)))

part_before : {X : Type 0} (start end : ℕ) (xs : List X) → start ≤ end → end ≤ length xs → reverse (take end (range_reversed start end xs)) ≡ take (end - start) (drop start xs) ++ reverse (take start xs)
part_before start end xs le within =
    let front = take start xs ++ reverse (slice_range xs start end) in
    let long : length front ≡ end = part_front start end xs le within in
    let cut : take end (front ++ drop end xs) ≡ front = ap (λ n. take n (front ++ drop end xs)) (sym long) ∙ take-append_seam front (drop end xs) in
    ap reverse cut ∙ reverse-append (take start xs) (reverse (slice_range xs start end)) ∙ ap (λ ys. ys ++ reverse (take start xs)) (reverse-reverse (slice_range xs start end))

pub part_after : {X : Type 0} (start end : ℕ) (xs : List X) → start ≤ end → end ≤ length xs → drop end (range_reversed start end xs) ≡ drop (end - start) (drop start xs)
part_after start end xs le within =
    let front = take start xs ++ reverse (slice_range xs start end) in
    let long : length front ≡ end = part_front start end xs le within in
    let there : start + (end - start) ≡ end = omega arith in
    ap (λ n. drop n (front ++ drop end xs)) (sym long) ∙ drop-append_seam front (drop end xs) ∙ ap (λ n. drop n xs) (sym there) ∙ sym (drop-drop (end - start) start xs)

beside_reverse : (level : BufferClusterLevel) (range : List ℕ) (gs : List Glyph) → reverse (beside_merged level range gs) ≡ beside_merged level range (reverse gs)
beside_reverse MonotoneGraphemes range gs = sym (map-reverse _ gs)
beside_reverse MonotoneCharacters range gs = sym (map-reverse _ gs)
beside_reverse Characters range gs = refl
beside_reverse Graphemes range gs = refl

-- a merge after an index, on both sides of it
merged_cut : (merge : Bool) (level : BufferClusterLevel) (start end : ℕ) (gs : List Glyph) → start ≤ end → start ≤ length gs
    → glyphs_merged_if merge level start end gs ≡ beside_if merge level (range_of 0 (end - start) (clusters (drop start gs))) (take start gs) ++ glyphs_merged_if merge level 0 (end - start) (drop start gs)
merged_cut false level start end gs le within = sym (take-append-drop start gs)
merged_cut true level start end gs le within =
    let long : length (take start gs) ≡ start = length-take-le start gs within in
    let from : length (take start gs) + 0 ≡ start = omega arith in
    let to : length (take start gs) + (end - start) ≡ end = omega arith in
    ap (λ n. glyphs_merged_at level n end gs) (sym from) ∙ ap (λ n. glyphs_merged_at level (length (take start gs) + 0) n gs) (sym to)
    ∙ ap (glyphs_merged_at level (length (take start gs) + 0) (length (take start gs) + (end - start))) (sym (take-append-drop start gs))
    ∙ merged_at_beyond level (take start gs) (drop start gs) 0 (end - start)

beside_length : (merge : Bool) (level : BufferClusterLevel) (range : List ℕ) (gs : List Glyph) → length (beside_if merge level range gs) ≡ length gs
beside_length false level range gs = refl
beside_length true level range gs = length_beside level range gs

beside_turned : (merge : Bool) (level : BufferClusterLevel) (range : List ℕ) (gs : List Glyph) → reverse (beside_if merge level range gs) ≡ beside_if merge level range (reverse gs)
beside_turned false level range gs = refl
beside_turned true level range gs = beside_reverse level range gs

several_cut : (start end : ℕ) (gs : List Glyph) → is_marked_as Marks start end (clusters gs) ≡ is_marked_as Marks 0 (end - start) (clusters (drop start gs))
several_cut start end gs =
    let f : Glyph → ℕ = λ g. g.cluster in
    let none : end - start - 0 ≡ end - start = omega arith in
    ap has_several_numbers (ap (take (end - start)) (drop-map f start gs) ∙ ap (λ n. take n (clusters (drop start gs))) (sym none))

marked_cut : (merge : Bool) (level : BufferClusterLevel) (start end : ℕ) (gs : List Glyph) → is_marked_if merge level start end (clusters gs) ≡ is_marked_if merge level 0 (end - start) (clusters (drop start gs))
marked_cut false level start end gs = refl
marked_cut true MonotoneGraphemes start end gs = refl
marked_cut true MonotoneCharacters start end gs = refl
marked_cut true Characters start end gs = several_cut start end gs
marked_cut true Graphemes start end gs = several_cut start end gs

merged_length : (merge : Bool) (level : BufferClusterLevel) (start end : ℕ) (gs : List Glyph) → start ≤ end → length (glyphs_merged_if merge level start end gs) ≡ length gs
merged_length false level start end gs le = refl
merged_length true level start end gs le = length_merged_at level start end gs le

-- a group was merged and reversed in its place: the glyphs up to its end in reversed order, and those after it
pub placed_glyphs : (merge : Bool) (level : BufferClusterLevel) (start end : ℕ) (gs mid new : List Glyph) → start ≤ end → end ≤ length gs → mid ≡ glyphs_merged_if merge level start end gs → new ≡ range_reversed start end mid
    → (reverse (take end new) ≡ take (end - start) (glyphs_merged_if merge level 0 (end - start) (drop start gs)) ++ beside_if merge level (range_of 0 (end - start) (clusters (drop start gs))) (reverse (take start gs)))
    × (drop end new ≡ drop (end - start) (glyphs_merged_if merge level 0 (end - start) (drop start gs)))
placed_glyphs merge level start end gs mid new le within m n =
    let range = range_of 0 (end - start) (clusters (drop start gs)) in
    let front = beside_if merge level range (take start gs) in
    let rest_glyphs = glyphs_merged_if merge level 0 (end - start) (drop start gs) in
    let cut : mid ≡ front ++ rest_glyphs = m ∙ merged_cut merge level start end gs le (omega arith) in
    let at : length front ≡ start = beside_length merge level range (take start gs) ∙ length-take-le start gs (omega arith) in
    let first : take start mid ≡ front = ap (take start) cut ∙ ap (λ i. take i (front ++ rest_glyphs)) (sym at) ∙ take-append_seam front rest_glyphs in
    let rest : drop start mid ≡ rest_glyphs = ap (drop start) cut ∙ ap (λ i. drop i (front ++ rest_glyphs)) (sym at) ∙ drop-append_seam front rest_glyphs in
    let wide : end ≤ length mid = omega (arith, ap length m, merged_length merge level start end gs le) in
    let one : reverse (take end new) ≡ take (end - start) rest_glyphs ++ beside_if merge level range (reverse (take start gs)) =
    ap (λ ys. reverse (take end ys)) n ∙ part_before start end mid le wide ∙ ap (λ ys. take (end - start) ys ++ reverse (take start mid)) rest ∙ ap (λ ys. take (end - start) rest_glyphs ++ reverse ys) first ∙ ap (λ ys. take (end - start) rest_glyphs ++ ys) (beside_turned merge level range (take start gs)) in
    let two : drop end new ≡ drop (end - start) rest_glyphs = ap (drop end) n ∙ part_after start end mid le wide ∙ ap (drop (end - start)) rest in
    (one, two)

-- and its positions beside it
pub group_placed : (merge : Bool) (level : BufferClusterLevel) (start end : ℕ) (gs mid new : List Glyph) (ps positions : List Position) (before marked : Bool) → start ≤ end → end ≤ length gs → length ps ≡ length gs
    → mid ≡ glyphs_merged_if merge level start end gs → marked ≡ is_marked_if merge level start end (clusters gs) → new ≡ range_reversed start end mid → positions ≡ range_reversed start end ps
    → turning_at end new positions (before || marked) ≡ first_turned merge level (end - start) (turning_at start gs ps before)
group_placed merge level start end gs mid new ps positions before marked le within long m k n p =
    let moved = placed_glyphs merge level start end gs mid new le within m n in
    let one = moved.0 in
    let two = moved.1 in
    let three : reverse (take end positions) ≡ take (end - start) (drop start ps) ++ reverse (take start ps) = ap (λ ys. reverse (take end ys)) p ∙ part_before start end ps le (omega arith) in
    let four : drop end positions ≡ drop (end - start) (drop start ps) = ap (drop end) p ∙ part_after start end ps le (omega arith) in
    let five : marked ≡ is_marked_if merge level 0 (end - start) (clusters (drop start gs)) = k ∙ marked_cut merge level start end gs in
    rw (one, two, three, four, five) refl

all_one : (c : ℕ) (ns : List ℕ) → reverse (map (λ (n : ℕ). c) ns) ≡ map (λ (n : ℕ). c) ns
all_one c ns = sym (map-reverse (λ (n : ℕ). c) ns) ∙ alike c (reverse ns) ns (length-reverse ns)
  where
    alike : (k : ℕ) (xs ys : List ℕ) → length xs ≡ length ys → map (λ (n : ℕ). k) xs ≡ map (λ (n : ℕ). k) ys
    alike k [] [] e = refl
    alike k [] (y ∷ ys) e = cc
    alike k (x ∷ xs) [] e = cc
    alike k (x ∷ xs) (y ∷ ys) e = ap (λ zs. k ∷ zs) (alike k xs ys (omega (arith, e)))

in_range : (start end : ℕ) (gs : List Glyph) → let range = range_of start end (clusters gs) in reverse (clusters (slice_range (glyphs_merged range gs) start end)) ≡ clusters (slice_range (glyphs_merged range gs) start end)
in_range start end gs =
    let range = range_of start end (clusters gs) in
    let seen : clusters (slice_range (glyphs_merged range gs) start end) ≡ map (merged_number range) range =
    sym (range_clusters (glyphs_merged range gs) start end) ∙ ap (range_of start end) (clusters_merged range gs) ∙ ap (take (end - start)) (drop-map (merged_number range) start (clusters gs)) ∙ take-map (merged_number range) (end - start) (drop start (clusters gs)) in
    let one : map (merged_number range) range ≡ map (λ (n : ℕ). least_number range) range = map_alike (merged_number range) (λ n. least_number range) range (λ n h. rw h refl) in
    rw (seen, one) (all_one (least_number range) range)

-- positions that were merged have one cluster, at the levels that keep the order
merged_range : (level : BufferClusterLevel) (start end : ℕ) (gs : List Glyph) → IsMonotone level → start ≤ end → reverse (clusters (slice_range (glyphs_merged_at level start end gs) start end)) ≡ clusters (slice_range (glyphs_merged_at level start end gs) start end)
merged_range Characters start end gs mono le = absurd mono
merged_range Graphemes start end gs mono le = absurd mono
merged_range MonotoneGraphemes start end gs mono le = in_range start end gs
merged_range MonotoneCharacters start end gs mono le = in_range start end gs

-- reversed, they leave the clusters as they are
pub clusters_part : (level : BufferClusterLevel) (start end : ℕ) (gs mid : List Glyph) → IsMonotone level → start ≤ end → mid ≡ glyphs_merged_at level start end gs → clusters (range_reversed start end mid) ≡ clusters mid
clusters_part level start end gs mid mono le m =
    let f : Glyph → ℕ = λ g. g.cluster in
    let range = slice_range mid start end in
    let same : reverse (clusters range) ≡ clusters range = rw m (merged_range level start end gs mono le) in
    let turned : clusters (reverse range) ≡ clusters range = map-reverse f range ∙ same in
    map-append f (take start mid ++ reverse range) (drop end mid) ∙ ap (λ ns. ns ++ clusters (drop end mid)) (map-append f (take start mid) (reverse range) ∙ ap (λ ns. clusters (take start mid) ++ ns) turned ∙ sym (map-append f (take start mid) range)) ∙ sym (map-append f (take start mid ++ range) (drop end mid)) ∙ ap clusters (cut_out start end mid le)

-- and so the order
pub group_ordered : (merge : Bool) (level : BufferClusterLevel) (start end : ℕ) (gs mid new : List Glyph) → start ≤ end → mid ≡ glyphs_merged_if merge level start end gs → new ≡ range_reversed start end mid
    → merge ≡ true → IsMonotone level → IsOrdered (clusters gs) → IsOrdered (clusters new)
group_ordered false level start end gs mid new le m n asked mono o = cc
group_ordered true level start end gs mid new le m n asked mono o =
    let P : List ℕ → Type 0 = IsOrdered in
    subst P (sym (ap clusters n ∙ clusters_part level start end gs mid mono le m)) (order_merged level start end gs mid le m o)

-- where no glyph is left to be walked, all stays
idle : (merge : Bool) (level : BufferClusterLevel) (p : Glyph → Glyph → Bool) (gs : List Glyph) (ps pa : List Position) (m : Bool)
    → group_turned merge level p (record { glyphs = gs; positions = ps; rest_glyphs = []; rest_positions = pa; is_marked = m }) ≡ record { glyphs = gs; positions = ps; rest_glyphs = []; rest_positions = pa; is_marked = m }
idle false level p gs ps pa m = rw (or_false m) refl
idle true MonotoneGraphemes p gs ps pa m = rw (nothing_merged gs, or_false m) refl
idle true MonotoneCharacters p gs ps pa m = rw (nothing_merged gs, or_false m) refl
idle true Characters p gs ps pa m = rw (or_false m) refl
idle true Graphemes p gs ps pa m = rw (or_false m) refl

pub all_idle : (n : ℕ) (merge : Bool) (level : BufferClusterLevel) (p : Glyph → Glyph → Bool) (gs : List Glyph) (ps pa : List Position) (m : Bool)
    → all_turned merge level p n (record { glyphs = gs; positions = ps; rest_glyphs = []; rest_positions = pa; is_marked = m }) ≡ record { glyphs = gs; positions = ps; rest_glyphs = []; rest_positions = pa; is_marked = m }
all_idle zero merge level p gs ps pa m = refl
all_idle (suc n) merge level p gs ps pa m = ap (all_turned merge level p n) (idle merge level p gs ps pa m) ∙ all_idle n merge level p gs ps pa m

-- what the walk still has to do: `most` groups at most, and then it has done them all
pub record Rest (merge : Bool) (level : BufferClusterLevel) (p : Glyph → Glyph → Bool) (start : ℕ) (gs : List Glyph) (ps : List Position) (m : Bool) (whole : Turning) : Type 0 where
  pub most : ℕ
  pub enough : length gs - start ≤ most
  pub leads : all_turned merge level p most (turning_at start gs ps m) ≡ whole

pub rest_begins : (merge : Bool) (level : BufferClusterLevel) (p : Glyph → Glyph → Bool) (gs : List Glyph) (ps : List Position) → Rest merge level p 0 gs ps false (turning_of merge level p gs ps)
rest_begins merge level p gs ps = record { most = length gs; enough = omega arith; leads = refl }

pub rest_continues : (merge : Bool) (level : BufferClusterLevel) (p : Glyph → Glyph → Bool) (start end : ℕ) (gs new : List Glyph) (ps positions : List Position) (m m' : Bool) (whole : Turning) → start < length gs → start < end → length new ≡ length gs → end ≡ start + group_length p (drop start gs)
    → turning_at end new positions m' ≡ first_turned merge level (end - start) (turning_at start gs ps m) → Rest merge level p start gs ps m whole → Rest merge level p end new positions m' whole
rest_continues merge level p start end gs new ps positions m m' whole lt some long at step rest = by_most rest.most rest.enough rest.leads
  where
    by_most : (n : ℕ) → length gs - start ≤ n → all_turned merge level p n (turning_at start gs ps m) ≡ whole → Rest merge level p end new positions m' whole
    by_most zero enough leads = absurd (omega arith)
    by_most (suc n) enough leads =
        let wide : end - start ≡ group_length p (drop start gs) = omega arith in
        record {
          most = n;
          enough = omega arith;
          leads = ap (all_turned merge level p n) (step ∙ ap (λ k. first_turned merge level k (turning_at start gs ps m)) wide) ∙ leads;
        }

-- it has done all at the end
pub rest_ends : (merge : Bool) (level : BufferClusterLevel) (p : Glyph → Glyph → Bool) (start : ℕ) (gs : List Glyph) (ps : List Position) (m : Bool) (whole : Turning) → length gs ≤ start → length ps ≡ length gs → Rest merge level p start gs ps m whole
    → record { glyphs = reverse gs; positions = reverse ps; rest_glyphs = []; rest_positions = []; is_marked = m } ≡ whole
rest_ends merge level p start gs ps m whole ge long rest =
    let one : take start gs ≡ gs = take_all start gs ge in
    let two : drop start gs ≡ [] = drop_all start gs ge in
    let three : take start ps ≡ ps = take_all start ps (omega arith) in
    let four : drop start ps ≡ [] = drop_all start ps (omega arith) in
    let leads = rw (one, two, three, four) at rest.leads in
    sym (all_idle rest.most merge level p (reverse gs) (reverse ps) [] m) ∙ leads
