-- The indices of a match in a fragment, and in the text.
use Rattle.std.proofs.Common.{ℕ, zero, suc, ◌≡◌, ◌≤◌, ◌<◌, ◌+◌, ◌-◌, max, List, [], ◌∷◌, ◌++◌, Some, None, length, map, take, drop, get_or, add-one, arith, refl, ap, sym, subst, ◌∙◌}
use Rattle.std.specs.Prelude.{slice_get}
use Rattle.std.proofs.lemmas.List.{map-append, take-map, drop-map, append-nil, take-append-drop, take_all, length-take}
use Rattle.std.proofs.lemmas.Option.{get_or_from_slice_get}
use Rattle.buffer_facts.proofs.Lists.{map_same}
use Rattle.layout_contexts.specs.MatchIndices.{AreRising}
use Rattle.layout_contexts.specs.Shifts.{following, indices_after_resize, moved_end}

-- indices in a text, with `left` items before those that are counted
abbrev pub farther : ℕ → List ℕ → List ℕ
farther left ps = map (λ k. left + k) ps

-- ---- indices that rise

pub rising_wider : (low high more : ℕ) (ps : List ℕ) → high ≤ more → AreRising low high ps → AreRising low more ps
rising_wider low high more [] le h = tt
rising_wider low high more (p ∷ ps) le h = (h.0, omega (arith, le, h.1), rising_wider (p + 1) high more ps le h.2)

pub rising_lower : (least low high : ℕ) (ps : List ℕ) → least ≤ low → AreRising low high ps → AreRising least high ps
rising_lower least low high [] le h = tt
rising_lower least low high (p ∷ ps) le h = (omega (arith, le, h.0), h.1, h.2)

rising_take : (low high n : ℕ) (ps : List ℕ) → AreRising low high ps → AreRising low high (take n ps)
rising_take low high zero ps h = tt
rising_take low high (suc n) [] h = tt
rising_take low high (suc n) (p ∷ ps) h = (h.0, h.1, rising_take (p + 1) high n ps h.2)

rising_drop : (low high n : ℕ) (ps : List ℕ) → AreRising low high ps → AreRising (low + n) high (drop n ps)
rising_drop low high zero ps h = rising_lower (low + 0) low high ps (omega arith) h
rising_drop low high (suc n) [] h = tt
rising_drop low high (suc n) (p ∷ ps) h = rising_lower (low + suc n) (p + 1 + n) high (drop n ps) (omega (arith, h.0)) (rising_drop (p + 1) high n ps h.2)

rising_both : (low mid high : ℕ) (ps qs : List ℕ) → AreRising low mid ps → low ≤ mid → mid ≤ high → AreRising mid high qs → AreRising low high (ps ++ qs)
rising_both low mid high [] qs h le up k = rising_lower low mid high qs le k
rising_both low mid high (p ∷ ps) qs h le up k = (h.0, omega (arith, h.1, up), rising_both (p + 1) mid high ps qs h.2 (omega (arith, h.1)) up k)

-- the indices up to the i-th, which is p, and those after it
rising_front : (low high i p : ℕ) (ps : List ℕ) → AreRising low high ps → slice_get ps i ≡ Some p → AreRising low (p + 1) (take (suc i) ps) × (low ≤ p) × (p < high) × AreRising (p + 1) high (drop (suc i) ps)
rising_front low high i p [] h e = cc
rising_front low high zero p (q ∷ ps) h e = let same : q ≡ p = cc in
    ((omega (arith, h.0), omega (arith, same), tt), omega (arith, h.0, same), omega (arith, h.1, same), subst (λ (k : ℕ). AreRising (k + 1) high ps) same h.2)
rising_front low high (suc i) p (q ∷ ps) h e =
    let rest = rising_front (q + 1) high i p ps h.2 e in
    ((h.0, omega (arith, rest.1), rest.0), omega (arith, h.0, rest.1), rest.2, rest.3)

rising_following : (p n : ℕ) → AreRising (p + 1) (p + n + 1) (following p n)
rising_following p zero = tt
rising_following p (suc n) = (omega arith, omega arith, rising_wider (p + 1 + 1) (p + 1 + n + 1) (p + suc n + 1) (following (p + 1) n) (omega arith) (rising_following (p + 1) n))

rising_moved : (before after low high : ℕ) (ps : List ℕ) → before ≤ low + after → AreRising low high ps → AreRising (low + after - before) (high + after - before) (map (λ q. q + after - before) ps)
rising_moved before after low high [] le h = tt
rising_moved before after low high (p ∷ ps) le h =
    (omega (arith, h.0), omega (arith, le, h.0, h.1), rising_lower (p + after - before + 1) (p + 1 + after - before) (high + after - before) (map (λ q. q + after - before) ps) (omega (arith, le, h.0)) (rising_moved before after (p + 1) high ps (omega (arith, le, h.0)) h.2))

-- ---- after a lookup

-- the indices still rise, and are as far from the end as they were, or not past the item after the lookup's index
pub record IsResized (low high before after p : ℕ) (ps : List ℕ) : Type 0 where
  pub top : ℕ
  pub rises : AreRising low top ps
  pub below : (n : ℕ) → high ≤ before → p < after → after ≤ n → top ≤ n
  -- if all were before the match's end, or at it, they still are
  pub near : (end : ℕ) → high ≤ end + 1 → top ≤ moved_end p before after end + 1

pub resized : (low high i before after p : ℕ) (ps : List ℕ) → AreRising low high ps → slice_get ps i ≡ Some p → IsResized low high before after p (indices_after_resize i before after ps)
resized low high i before after p ps h e =
    let cut = rising_front low high i p ps h e in
    let mid = p + (after - before) + 1 in
    let top = max mid (high + after - before) in
    let later = drop (before - after) (drop (suc i) ps) in
    let rest : AreRising (p + 1 + (before - after)) high later = rising_drop (p + 1) high (before - after) (drop (suc i) ps) cut.3 in
    let moved : AreRising (p + 1 + (before - after) + after - before) (high + after - before) (map (λ q. q + after - before) later) = rising_moved before after (p + 1 + (before - after)) high later (omega arith) rest in
    let last : AreRising mid top (map (λ q. q + after - before) later) = rising_wider mid (high + after - before) top (map (λ q. q + after - before) later) (omega arith) (rising_lower mid (p + 1 + (before - after) + after - before) (high + after - before) (map (λ q. q + after - before) later) (omega arith) moved) in
    let next : AreRising (p + 1) mid (following p (after - before)) = rising_following p (after - before) in
    let here : get_or ps i 0 ≡ p = get_or_from_slice_get ps i p 0 e in
    let made : AreRising low top (take (suc i) ps ++ following p (after - before) ++ map (λ q. q + after - before) later) =
    rising_both low mid top (take (suc i) ps ++ following p (after - before)) (map (λ q. q + after - before) later) (rising_both low (p + 1) mid (take (suc i) ps) (following p (after - before)) cut.0 (omega (arith, cut.1)) (omega arith) next) (omega (arith, cut.1)) (omega arith) last in
    record {
      top = top;
      rises = subst (λ (k : ℕ). AreRising low top (take 64 (take (i + 1) ps ++ following k (after - before) ++ map (λ q. q + after - before) (drop (before - after) (drop (i + 1) ps))))) (sym here)
          (rising_take low top 64 (take (i + 1) ps ++ following p (after - before) ++ map (λ q. q + after - before) (drop (before - after) (drop (i + 1) ps)))
          (subst (λ (j : ℕ). AreRising low top (take j ps ++ following p (after - before) ++ map (λ q. q + after - before) (drop (before - after) (drop j ps)))) (sym (add-one i)) made));
      below = λ n le lt within. let low_p = cut.2 in omega (arith, le, lt, within, low_p);
      near = λ end le. let low_p = cut.2 in omega (arith, le, low_p);
    }

-- ---- after a lookup that leaves the length as it was

pub unresized : (i n : ℕ) (ps : List ℕ) → length ps ≤ 64 → indices_after_resize i n n ps ≡ ps
unresized i n ps few =
    let none : n - n ≡ 0 = omega arith in
    let front = take (i + 1) ps in
    let rest = drop (i + 1) ps in
    ap (λ (k : ℕ). take 64 (front ++ following (get_or ps i 0) k ++ map (λ q. q + n - n) (drop k rest))) none
    ∙ ap (λ (qs : List ℕ). take 64 (qs ++ map (λ q. q + n - n) rest)) (append-nil front)
    ∙ ap (λ (qs : List ℕ). take 64 (front ++ qs)) (map_same (λ q. q + n - n) rest (λ q. omega arith))
    ∙ ap (take 64) (take-append-drop (i + 1) ps) ∙ take_all 64 ps few

pub end_stays : (p n end : ℕ) → p ≤ end → moved_end p n n end ≡ end
end_stays p n end le = omega (arith, le)

pub resized_few : (i before after : ℕ) (ps : List ℕ) → length (indices_after_resize i before after ps) ≤ 64
resized_few i before after ps =
    let all = take (i + 1) ps ++ following (get_or ps i 0) (after - before) ++ map (λ q. q + after - before) (drop (before - after) (drop (i + 1) ps)) in
    omega (arith, length-take 64 all)

-- ---- in the text

following_farther : (left p n : ℕ) → following (left + p) n ≡ farther left (following p n)
following_farther left p zero = refl
following_farther left p (suc n) =
    let next : left + p + 1 ≡ left + (p + 1) = omega arith in
    ap (λ (k : ℕ). k ∷ following k n) next ∙ ap (λ (ks : List ℕ). (left + (p + 1)) ∷ ks) (following_farther left (p + 1) n)

moved_farther : (left right before after low high : ℕ) (ps : List ℕ) → before ≤ low + after → AreRising low high ps → map (λ q. q + (left + after + right) - (left + before + right)) (farther left ps) ≡ farther left (map (λ q. q + after - before) ps)
moved_farther left right before after low high [] le h = refl
moved_farther left right before after low high (p ∷ ps) le h =
    let here : left + p + (left + after + right) - (left + before + right) ≡ left + (p + after - before) = omega (arith, le, h.0) in
    ap (λ (k : ℕ). k ∷ map (λ q. q + (left + after + right) - (left + before + right)) (farther left ps)) here ∙ ap (λ (ks : List ℕ). (left + (p + after - before)) ∷ ks) (moved_farther left right before after (p + 1) high ps (omega (arith, le, h.0)) h.2)

pub index_farther : (left : ℕ) (ps : List ℕ) (i p : ℕ) → slice_get ps i ≡ Some p → slice_get (farther left ps) i ≡ Some (left + p)
index_farther left [] i p e = cc
index_farther left (q ∷ ps) zero p e = let same : q ≡ p = cc in ap (λ (k : ℕ). Some (left + k)) same
index_farther left (q ∷ ps) (suc i) p e = index_farther left ps i p e

pub none_farther : (left : ℕ) (ps : List ℕ) (i : ℕ) → slice_get ps i ≡ None → slice_get (farther left ps) i ≡ None
none_farther left [] i e = refl
none_farther left (q ∷ ps) zero e = cc
none_farther left (q ∷ ps) (suc i) e = none_farther left ps i e

pub resized_farther : (left right low high i before after p : ℕ) (ps : List ℕ) → AreRising low high ps → slice_get ps i ≡ Some p → indices_after_resize i (left + before + right) (left + after + right) (farther left ps) ≡ farther left (indices_after_resize i before after ps)
resized_farther left right low high i before after p ps h e =
    let cut = rising_front low high i p ps h e in
    let more : left + after + right - (left + before + right) ≡ after - before = omega arith in
    let less : left + before + right - (left + after + right) ≡ before - after = omega arith in
    let g : ℕ → ℕ = λ k. left + k in
    let m : ℕ → ℕ = λ q. q + (left + after + right) - (left + before + right) in
    let here : get_or ps i 0 ≡ p = get_or_from_slice_get ps i p 0 e in
    let there : get_or (farther left ps) i 0 ≡ left + p = get_or_from_slice_get (farther left ps) i (left + p) 0 (index_farther left ps i p e) in
    let later = drop (before - after) (drop (i + 1) ps) in
    let rest : AreRising (p + 1 + (before - after)) high (drop (before - after) (drop (suc i) ps)) = rising_drop (p + 1) high (before - after) (drop (suc i) ps) cut.3 in
    let rest_at : AreRising (p + 1 + (before - after)) high later = subst (λ (j : ℕ). AreRising (p + 1 + (before - after)) high (drop (before - after) (drop j ps))) (sym (add-one i)) rest in
    let ends : drop (before - after) (drop (i + 1) (farther left ps)) ≡ farther left later = ap (drop (before - after)) (drop-map g (i + 1) ps) ∙ drop-map g (before - after) (drop (i + 1) ps) in
    ap (λ (k : ℕ). take 64 (take (i + 1) (farther left ps) ++ following k (left + after + right - (left + before + right)) ++ map m (drop (left + before + right - (left + after + right)) (drop (i + 1) (farther left ps))))) there
    ∙ ap (λ (k : ℕ). take 64 (take (i + 1) (farther left ps) ++ following (left + p) k ++ map m (drop (left + before + right - (left + after + right)) (drop (i + 1) (farther left ps))))) more
    ∙ ap (λ (k : ℕ). take 64 (take (i + 1) (farther left ps) ++ following (left + p) (after - before) ++ map m (drop k (drop (i + 1) (farther left ps))))) less
    ∙ ap (λ (ks : List ℕ). take 64 (take (i + 1) (farther left ps) ++ following (left + p) (after - before) ++ map m ks)) ends
    ∙ ap (λ (ks : List ℕ). take 64 (take (i + 1) (farther left ps) ++ following (left + p) (after - before) ++ ks)) (moved_farther left right before after (p + 1 + (before - after)) high later (omega arith) rest_at)
    ∙ ap (λ (ks : List ℕ). take 64 (ks ++ following (left + p) (after - before) ++ farther left (map (λ q. q + after - before) later))) (take-map g (i + 1) ps)
    ∙ ap (λ (ks : List ℕ). take 64 (farther left (take (i + 1) ps) ++ ks ++ farther left (map (λ q. q + after - before) later))) (following_farther left p (after - before))
    ∙ ap (λ (ks : List ℕ). take 64 (ks ++ farther left (map (λ q. q + after - before) later))) (sym (map-append g (take (i + 1) ps) (following p (after - before))))
    ∙ ap (take 64) (sym (map-append g (take (i + 1) ps ++ following p (after - before)) (map (λ q. q + after - before) later)))
    ∙ take-map g 64 (take (i + 1) ps ++ following p (after - before) ++ map (λ q. q + after - before) later)
    ∙ ap (λ (k : ℕ). farther left (take 64 (take (i + 1) ps ++ following k (after - before) ++ map (λ q. q + after - before) later))) (sym here)

pub end_farther : (left right p before after end : ℕ) → moved_end (left + p) (left + before + right) (left + after + right) (left + end) ≡ left + moved_end p before after end
end_farther left right p before after end = omega arith

-- an index of a match is not before the first, and not past the last
pub rising_at : (low high i p : ℕ) (ps : List ℕ) → AreRising low high ps → slice_get ps i ≡ Some p → (low ≤ p) × (p < high)
rising_at low high i p ps h e = let cut = rising_front low high i p ps h e in (cut.1, cut.2)
