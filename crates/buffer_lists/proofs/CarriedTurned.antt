-- A part is reversed while something is due.
use Rattle.std.specs.Prelude.{slice_range}
use Rattle.std.proofs.Common.{ℕ, ◌≡◌, ◌≤◌, ◌+◌, ◌-◌, inl, inr, List, ◌++◌, length, map, take, drop, reverse, arith, ap, sym, subst, ◌∙◌, append_assoc}
use Rattle.std.proofs.lemmas.List.{map-append, length-append, length-map, length-take-le, length-drop, length-reverse, take-take, drop-take, take-append-drop}
use Rattle.std.proofs.Math.Seq.{take-append_seam, drop-append_seam}
use Rattle.buffer_glyphs.specs.declared.info.hb_glyph_info_t.{hb_glyph_info_t as Glyph}
use Rattle.buffer_glyphs.specs.declared.level.BufferClusterLevel.{BufferClusterLevel as Level}
use Rattle.buffer_glyphs.specs.Items.{clusters}
use Rattle.buffer_glyphs.specs.Order.{IsFalling}
use Rattle.buffer_glyphs.specs.Glyphs.{in_cluster, glyphs_merged_at}
use Rattle.buffer_glyphs.specs.Lemmas.Numbers.{Has, has_either, has_left, has_right, has_reverse}
use Rattle.buffer_lists.specs.declared.due.falling.DueRange.{DueRange}
use Rattle.buffer_glyphs.specs.Levels.{IsMonotone}
use Rattle.buffer_lists.specs.Turning.{range_reversed}
use Rattle.buffer_lists.specs.Falling.{with_range_in_cluster, IsDueBefore, IsRound}
use Rattle.buffer_lists.proofs.Lemmas.Turned.{part_front, part_after, clusters_part}
use Rattle.buffer_lists.proofs.Carried.{two_ranges, take_to, drop_beyond, take_carried, drop_carried, same_range, front_long}
use Rattle.buffer_glyphs.specs.Lemmas.EventParts.{map-reverse}

-- as long as before
pub carried_long : (d : DueRange) (gs : List Glyph) → d.from ≤ d.to → d.to ≤ length gs → length (with_range_in_cluster d gs) ≡ length gs
carried_long d gs le within = omega (arith, length-append (take d.from gs ++ map (in_cluster d.cluster) (slice_range gs d.from d.to)) (drop d.to gs), front_long d gs le within, length-drop d.to gs)

-- the parts of a list of which a part was reversed
turned_front : {X : Type 0} (i start end : ℕ) (xs : List X) → i ≤ start → start ≤ length xs → take i (range_reversed start end xs) ≡ take i xs
turned_front i start end xs le within =
    let r = reverse (slice_range xs start end) in
    let long : length (take start xs) ≡ start = length-take-le start xs within in
    let whole : take start (range_reversed start end xs) ≡ take start xs = ap (take start) (append_assoc (take start xs) r (drop end xs)) ∙ ap (λ n. take n (take start xs ++ (r ++ drop end xs))) (sym long) ∙ take-append_seam (take start xs) (r ++ drop end xs) in
    sym (take-take i start (range_reversed start end xs) le) ∙ ap (take i) whole ∙ take-take i start xs le

turned_mid : {X : Type 0} (start end : ℕ) (xs : List X) → start ≤ end → end ≤ length xs → slice_range (range_reversed start end xs) start end ≡ reverse (slice_range xs start end)
turned_mid start end xs le within =
    let r = reverse (slice_range xs start end) in
    let long : length (take start xs) ≡ start = length-take-le start xs (omega arith) in
    let wide : length r ≡ end - start = length-reverse (slice_range xs start end) ∙ length-take-le (end - start) (drop start xs) (omega (arith, length-drop start xs)) in
    let rest : drop start (range_reversed start end xs) ≡ r ++ drop end xs = ap (drop start) (append_assoc (take start xs) r (drop end xs)) ∙ ap (λ n. drop n (take start xs ++ (r ++ drop end xs))) (sym long) ∙ drop-append_seam (take start xs) (r ++ drop end xs) in
    ap (take (end - start)) rest ∙ ap (λ n. take n (r ++ drop end xs)) (sym wide) ∙ take-append_seam r (drop end xs)

turned_back : {X : Type 0} (start end : ℕ) (xs : List X) → start ≤ end → end ≤ length xs → drop end (range_reversed start end xs) ≡ drop end xs
turned_back start end xs le within = part_after start end xs le within ∙ drop_beyond start end xs le

turned_long : {X : Type 0} (start end : ℕ) (xs : List X) → start ≤ end → end ≤ length xs → length (range_reversed start end xs) ≡ length xs
turned_long start end xs le within = omega (arith, length-append (take start xs ++ reverse (slice_range xs start end)) (drop end xs), part_front start end xs le within, length-drop end xs)

-- a list is known by three parts
three_parts : {X : Type 0} (start end : ℕ) (xs f m b : List X) → start ≤ end → take start xs ≡ f → slice_range xs start end ≡ m → drop end xs ≡ b → xs ≡ f ++ m ++ b
three_parts start end xs f m b le e g h =
    sym (take-append-drop end xs) ∙ ap (λ ys. ys ++ drop end xs) (take_to start end xs le ∙ ap (λ ys. ys ++ slice_range xs start end) e ∙ ap (λ ys. f ++ ys) g) ∙ ap (λ ys. f ++ m ++ ys) h

by_take : {X : Type 0} (i j : ℕ) (xs : List X) → i ≤ j → slice_range xs i j ≡ drop i (take j xs)
by_take i j xs le = let there : j ≡ i + (j - i) = omega arith in sym (ap (λ n. drop i (take n xs)) there ∙ drop-take i (j - i) xs)

-- a range before the part
turned_range : {X : Type 0} (i j start end : ℕ) (xs : List X) → i ≤ j → j ≤ start → start ≤ length xs → slice_range (range_reversed start end xs) i j ≡ slice_range xs i j
turned_range i j start end xs le less within =
    by_take i j (range_reversed start end xs) le ∙ ap (drop i) (turned_front j start end xs less within) ∙ sym (by_take i j xs le)

-- what is due goes with the part
pub carried_turned : (d : DueRange) (start end : ℕ) (gs : List Glyph) → start ≤ end → end ≤ length gs → d.from ≤ d.to → IsRound start end d → with_range_in_cluster d (range_reversed start end gs) ≡ range_reversed start end (with_range_in_cluster d gs)
carried_turned d start end gs le within ordered (inl before) =
    let new = range_reversed start end gs in
    let long : length new ≡ length gs = turned_long start end gs le within in
    let there : d.to ≤ length gs = omega (arith, before, le, within) in
    let same : take d.to (with_range_in_cluster d new) ≡ take d.to (with_range_in_cluster d gs) =
    take_carried d new ordered (omega (arith, long, there)) ∙ ap (λ hs. hs ++ map (in_cluster d.cluster) (slice_range new d.from d.to)) (turned_front d.from start end gs (omega (arith, ordered, before)) (omega arith)) ∙ ap (λ hs. take d.from gs ++ map (in_cluster d.cluster) hs) (turned_range d.from d.to start end gs ordered before (omega arith)) ∙ sym (take_carried d gs ordered there) in
    let front : take start (with_range_in_cluster d new) ≡ take start (with_range_in_cluster d gs) =
    take_to d.to start (with_range_in_cluster d new) before ∙ ap (λ hs. hs ++ slice_range (with_range_in_cluster d new) d.to start) same ∙ ap (λ hs. take d.to (with_range_in_cluster d gs) ++ hs) (same_range d new d.to start ordered (omega (arith, long, there)) (omega arith) ∙ turned_range d.to start start end gs before (omega arith) (omega arith) ∙ sym (same_range d gs d.to start ordered there (omega arith))) ∙ sym (take_to d.to start (with_range_in_cluster d gs) before) in
    three_parts start end (with_range_in_cluster d new) (take start (with_range_in_cluster d gs)) (reverse (slice_range (with_range_in_cluster d gs) start end)) (drop end (with_range_in_cluster d gs)) le front
    (same_range d new start end ordered (omega (arith, long, there)) before ∙ turned_mid start end gs le within ∙ ap reverse (sym (same_range d gs start end ordered there before)))
    (drop_carried d new end ordered (omega (arith, long, there)) (omega (arith, before, le)) ∙ turned_back start end gs le within ∙ sym (drop_carried d gs end ordered there (omega (arith, before, le))))
carried_turned d start end gs le within ordered (inr round) =
    let new = range_reversed start end gs in
    let m = with_range_in_cluster d gs in
    let go : List Glyph → List Glyph = map (in_cluster d.cluster) in
    let f = take d.from gs in
    let r = slice_range gs d.from start in
    let w = slice_range gs start end in
    let long : length new ≡ length gs = turned_long start end gs le within in
    let there : d.to ≤ length gs = omega (arith, round.1, within) in
    let far : d.to ≤ length new = omega (arith, long, there) in
    let to : d.to ≡ end = round.1 in
    let wide : length f ≡ d.from = length-take-le d.from gs (omega (arith, ordered, there)) in
    let short : length (go r) ≡ start - d.from = length-map r (in_cluster d.cluster) ∙ length-take-le (start - d.from) (drop d.from gs) (omega (arith, length-drop d.from gs, round.0, le, within)) in
    let range : slice_range gs d.from d.to ≡ r ++ w = ap (slice_range gs d.from) to ∙ two_ranges d.from start end gs round.0 le in
    let first : take d.to m ≡ (f ++ go r) ++ go w = take_carried d gs ordered there ∙ ap (λ hs. f ++ hs) (ap go range ∙ map-append (in_cluster d.cluster) r w) ∙ sym (append_assoc f (go r) (go w)) in
    let seam : length (f ++ go r) ≡ start = omega (arith, length-append f (go r), wide, short, round.0) in
    let before : take start m ≡ f ++ go r = sym (take-take start d.to m (omega (arith, to, le))) ∙ ap (take start) first ∙ ap (λ n. take n ((f ++ go r) ++ go w)) (sym seam) ∙ take-append_seam (f ++ go r) (go w) in
    let among : slice_range m start end ≡ go w = by_take start end m le ∙ ap (λ n. drop start (take n m)) (sym to) ∙ ap (drop start) first ∙ ap (λ n. drop n ((f ++ go r) ++ go w)) (sym seam) ∙ drop-append_seam (f ++ go r) (go w) in
    let turned : slice_range new d.from d.to ≡ r ++ reverse w = ap (slice_range new d.from) to ∙ two_ranges d.from start end new round.0 le ∙ ap (λ hs. hs ++ slice_range new start end) (turned_range d.from start start end gs round.0 (omega arith) (omega arith)) ∙ ap (λ hs. r ++ hs) (turned_mid start end gs le within) in
    let left : take d.to (with_range_in_cluster d new) ≡ (f ++ go r) ++ reverse (go w) =
    take_carried d new ordered far ∙ ap (λ hs. hs ++ go (slice_range new d.from d.to)) (turned_front d.from start end gs round.0 (omega arith)) ∙ ap (λ hs. f ++ hs) (ap go turned ∙ map-append (in_cluster d.cluster) r (reverse w) ∙ ap (λ hs. go r ++ hs) (map-reverse (in_cluster d.cluster) w)) ∙ sym (append_assoc f (go r) (reverse (go w))) in
    let back : drop d.to (with_range_in_cluster d new) ≡ drop end m = drop_carried d new d.to ordered far (omega arith) ∙ ap (λ n. drop n new) to ∙ turned_back start end gs le within ∙ ap (λ n. drop n gs) (sym to) ∙ sym (drop_carried d gs d.to ordered there (omega arith)) ∙ ap (λ n. drop n m) to in
    sym (take-append-drop d.to (with_range_in_cluster d new)) ∙ ap (λ hs. hs ++ drop d.to (with_range_in_cluster d new)) (left ∙ ap (λ hs. hs ++ reverse (go w)) (sym before) ∙ ap (λ hs. take start m ++ reverse hs) (sym among)) ∙ ap (λ hs. take start m ++ reverse (slice_range m start end) ++ hs) back

-- a cluster that occurs before the end of what is due did so before
turned_has : (d : DueRange) (start end n : ℕ) (gs : List Glyph) → start ≤ end → end ≤ length gs → IsRound start end d → Has (clusters (take d.to (range_reversed start end gs))) n → Has (clusters (take d.to gs)) n
turned_has d start end n gs le within (inl before) h = subst (λ (hs : List Glyph). Has (clusters hs) n) (turned_front d.to start end gs before (omega arith)) h
turned_has d start end n gs le within (inr round) h =
    let v : Glyph → ℕ = λ g. g.cluster in
    let w = slice_range gs start end in
    let new = range_reversed start end gs in
    let cut : clusters (take d.to new) ≡ clusters (take start gs) ++ reverse (clusters w) =
    ap clusters (ap (λ k. take k new) round.1 ∙ take_to start end new le ∙ ap (λ hs. hs ++ slice_range new start end) (turned_front start start end gs (omega arith) (omega arith)) ∙ ap (λ hs. take start gs ++ hs) (turned_mid start end gs le within)) ∙ map-append v (take start gs) (reverse w) ∙ ap (λ ns. clusters (take start gs) ++ ns) (map-reverse v w) in
    let old : clusters (take d.to gs) ≡ clusters (take start gs) ++ clusters w = ap clusters (ap (λ k. take k gs) round.1 ∙ take_to start end gs le) ∙ map-append v (take start gs) w in
    subst (λ ns. Has ns n) (sym old) (elim (has_either n (clusters (take start gs)) (reverse (clusters w)) (subst (λ ns. Has ns n) cut h)) [
      | inl there ↦ has_left n (clusters (take start gs)) (clusters w) there
      | inr among ↦ has_right n (clusters (take start gs)) (clusters w) (sym (has_reverse n (clusters w)) ∙ among)
    ])

-- a range is due where its group was merged and is reversed in its place
pub stretch_turned : (level : Level) (d : DueRange) (start end : ℕ) (old gs : List Glyph) → IsMonotone level → start ≤ end → end ≤ length gs → IsDueBefore end d gs → IsRound start end d → with_range_in_cluster d gs ≡ glyphs_merged_at level start end old → IsDueBefore end d (range_reversed start end gs)
stretch_turned level d start end old gs mono le within due round e =
    let new = range_reversed start end gs in
    let whole : clusters (with_range_in_cluster d new) ≡ clusters (with_range_in_cluster d gs) = ap clusters (carried_turned d start end gs le within due.ordered round) ∙ clusters_part level start end old (with_range_in_cluster d gs) mono le e in
    let early : d.from ≤ start = early_is round due.ordered in record {
      ordered = due.ordered;
      before = due.before;
      some = due.some;
      above = λ n k. due.above n (subst (λ (hs : List Glyph). Has (clusters hs) n) (turned_front d.from start end gs early (omega arith)) k);
      least = λ n k. due.least n (turned_has d start end n gs le within round k);
      falls = subst IsFalling (sym whole) due.falls;
    }
  where
    early_is : IsRound start end d → d.from ≤ d.to → d.from ≤ start
    early_is (inl before) k = omega (arith, before, k)
    early_is (inr at) k = at.0
