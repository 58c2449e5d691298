-- Places that rise.
use Rattle.std.proofs.Common.{ℕ, zero, suc, ◌≡◌, ◌≤◌, ◌<◌, ◌+◌, ◌-◌, ◌^◌, List, [], ◌∷◌, ◌++◌, length, take, drop, map, get_or, Ok, Err, refl, sym, subst, arith}
use Rattle.std.specs.Prelude.{Result}
use Rattle.std.proofs.lemmas.List.{length-drop, length-map}
use Rattle.buffer_glyphs.specs.declared.info.hb_glyph_info_t.{hb_glyph_info_t}
use Rattle.buffer_glyphs.specs.Items.{Item, item_of, strip}
use Rattle.layout_match.specs.declared.search.match_t.{match_t}
use Rattle.layout_match.specs.declared.search.match_t.TheVariants.{MATCH, SKIP, NOT_MATCH}
use Rattle.layout_match.specs.Matches.{by_answer, nearest, nearest_from, then_sequence_end, sequence_end, with_index, indices}
use Rattle.layout_contexts.specs.MatchIndices.{AreRising}
use Rattle.layout_contexts.specs.Shifts.{following, indices_after_resize}
use Rattle.std.specs.List.{All}
use Rattle.std.proofs.lemmas.List.Elements.{All-nil, All-cons}

pub wider : (low low' high high' : ℕ) (ps : List ℕ) → low' ≤ low → high ≤ high' → AreRising low high ps → AreRising low' high' ps
wider low low' high high' [] le ge r = tt
wider low low' high high' (p ∷ ps) le ge r =
    let from = r.0 in
    let under = r.1 in
    (omega (arith, le, from), omega (arith, under, ge), wider (p + 1) (p + 1) high high' ps (omega arith) ge r.2)

pub prefix_rises : (n low high : ℕ) (ps : List ℕ) → AreRising low high ps → AreRising low high (take n ps)
prefix_rises zero low high ps r = tt
prefix_rises (suc n) low high [] r = tt
prefix_rises (suc n) low high (p ∷ ps) r = (r.0, r.1, prefix_rises n (p + 1) high ps r.2)

-- some that end where others begin
pub both_rise : (low mid high : ℕ) (ps qs : List ℕ) → low ≤ mid → mid ≤ high → AreRising low mid ps → AreRising mid high qs → AreRising low high (ps ++ qs)
both_rise low mid high [] qs le ge r s = wider mid low high high qs le (omega arith) s
both_rise low mid high (p ∷ ps) qs le ge r s =
    let under = r.1 in
    (r.0, omega (arith, under, ge), both_rise (p + 1) mid high ps qs (omega (arith, under)) ge r.2 s)

pub place_rises : (i low high : ℕ) (ps : List ℕ) → i < length ps → AreRising low high ps → (low ≤ get_or ps i 0) × (get_or ps i 0 < high)
place_rises i low high [] lt r = absurd (omega (arith, lt))
place_rises zero low high (p ∷ ps) lt r = (r.0, r.1)
place_rises (suc i) low high (p ∷ ps) lt r =
    let next = place_rises i (p + 1) high ps (omega (arith, lt)) r.2 in
    let from = r.0 in
    (omega (arith, from, next.0), next.1)

-- those up to the i-th
pub up_to_rise : (i low high : ℕ) (ps : List ℕ) → i < length ps → AreRising low high ps → AreRising low (get_or ps i 0 + 1) (take (i + 1) ps)
up_to_rise i low high [] lt r = absurd (omega (arith, lt))
up_to_rise zero low high (p ∷ ps) lt r = (r.0, omega arith, tt)
up_to_rise (suc i) low high (p ∷ ps) lt r =
    let one = place_rises i (p + 1) high ps (omega (arith, lt)) r.2 in
    let from = r.0 in
    let e : suc i + 1 ≡ suc (i + 1) = omega arith in
    let P : ℕ → Type 0 = λ n. AreRising low (get_or ps i 0 + 1) (take n (p ∷ ps)) in
    subst P (sym e) (from, omega (arith, one.0), up_to_rise i (p + 1) high ps (omega (arith, lt)) r.2)

-- those after the i-th
pub behind_rise : (i low high : ℕ) (ps : List ℕ) → i < length ps → AreRising low high ps → AreRising (get_or ps i 0 + 1) high (drop (i + 1) ps)
behind_rise i low high [] lt r = absurd (omega (arith, lt))
behind_rise zero low high (p ∷ ps) lt r = r.2
behind_rise (suc i) low high (p ∷ ps) lt r =
    let e : suc i + 1 ≡ suc (i + 1) = omega arith in
    let P : ℕ → Type 0 = λ n. AreRising (get_or ps i 0 + 1) high (drop n (p ∷ ps)) in
    subst P (sym e) (behind_rise i (p + 1) high ps (omega (arith, lt)) r.2)

-- where so many are left out, the others begin as much later
pub dropped_rise : (n low high : ℕ) (ps : List ℕ) → AreRising low high ps → AreRising (low + n) high (drop n ps)
dropped_rise zero low high ps r = let e : low + 0 ≡ low = omega arith in rw e r
dropped_rise (suc n) low high [] r = tt
dropped_rise (suc n) low high (p ∷ ps) r =
    let from = r.0 in
    wider (p + 1 + n) (low + suc n) high high (drop n ps) (omega (arith, from)) (omega arith) (dropped_rise n (p + 1) high ps r.2)

-- those that move by a change of length
pub moved_rise : (low to before after : ℕ) (ps : List ℕ) → to + before ≤ low + after → AreRising low (before + 1) ps → AreRising to (after + 1) (map (λ q. q + after - before) ps)
moved_rise low to before after [] le r = tt
moved_rise low to before after (p ∷ ps) le r =
    let from = r.0 in
    let under = r.1 in (
      omega (arith, le, from),
      omega (arith, le, from, under),
      moved_rise (p + 1) (p + after - before + 1) before after ps (omega (arith, le, from)) r.2,
    )

following_rise : (p n : ℕ) → AreRising (p + 1) (p + 1 + n) (following p n)
following_rise p zero = tt
following_rise p (suc n) =
    let e : p + 1 + 1 + n ≡ p + 1 + suc n = omega arith in
    let P : ℕ → Type 0 = λ high. AreRising (p + 1 + 1) high (following (p + 1) n) in
    (omega arith, omega arith, subst P e (following_rise (p + 1) n))

-- the index of the lookup stays inside the list
pub resized_rise : (i low before after : ℕ) (ps : List ℕ) → i < length ps → AreRising low (before + 1) ps → get_or ps i 0 ≤ after → AreRising low (after + 1) (indices_after_resize i before after ps)
resized_rise i low before after ps lt r le =
    let p = get_or ps i 0 in
    let come = after - before in
    let gone = before - after in
    let one = place_rises i low (before + 1) ps lt r in
    let from = one.0 in
    let under = one.1 in
    let later = moved_rise (p + 1 + gone) (p + 1 + come) before after (drop gone (drop (i + 1) ps)) (omega arith) (dropped_rise gone (p + 1) (before + 1) (drop (i + 1) ps) (behind_rise i low (before + 1) ps lt r)) in
    let first = both_rise low (p + 1) (p + 1 + come) (take (i + 1) ps) (following p come) (omega (arith, from)) (omega arith) (up_to_rise i low (before + 1) ps lt r) (following_rise p come) in
    prefix_rises 64 low (after + 1) _ (both_rise low (p + 1 + come) (after + 1) _ _ (omega (arith, from)) (omega (arith, under, le)) first later)

-- ---- where they are as a match begins

low_nearest : (ask : Item → match_t) (at p : ℕ) (xs : List Item) → nearest ask at xs ≡ Ok p → (at ≤ p) × (p < at + length xs)
low_nearest ask at p [] e = cc
low_nearest ask at p (x ∷ xs) e = by (ask x) (λ f. low_nearest ask (at + 1) p xs f) e
  where
    by : (m : match_t) → (nearest ask (at + 1) xs ≡ Ok p → (at + 1 ≤ p) × (p < at + 1 + length xs)) → by_answer m at (nearest ask (at + 1) xs) ≡ Ok p → (at ≤ p) × (p < at + length (x ∷ xs))
    by MATCH next f = let same : at ≡ p = cc in (omega (arith, same), omega (arith, same))
    by NOT_MATCH next f = cc
    by SKIP next f = let more = next f in (omega (arith, more.0), omega (arith, more.1))

nearest_inside : (ask : Item → match_t) (at p : ℕ) (xs : List Item) → nearest_from ask at xs ≡ Ok p → (at ≤ p) × (p < length xs)
nearest_inside ask at p xs e =
    let one = low_nearest ask at p (drop at xs) e in
    let long : length (drop at xs) ≡ length xs - at = length-drop at xs in
    (one.0, omega (arith, one.0, one.1, long))

pub indices_rise : (asks : List (Item → match_t)) (at : ℕ) (xs : List Item) → AreRising at (length xs) (indices asks at xs)
indices_rise [] at xs = tt
indices_rise (ask ∷ asks) at xs = by (nearest_from ask at xs) refl (λ p. indices_rise asks (p + 1) xs)
  where
    by : (r : Result ℕ ℕ) → nearest_from ask at xs ≡ r → ((p : ℕ) → AreRising (p + 1) (length xs) (indices asks (p + 1) xs)) → AreRising at (length xs) (with_index r (λ next. indices asks next xs))
    by (Ok p) e more = let one = nearest_inside ask at p xs e in (one.0, one.1, more p)
    by (Err end) e more = tt

pub reached_low : (asks : List (Item → match_t)) (at end : ℕ) (xs : List Item) → sequence_end asks at xs ≡ Ok end → at ≤ end
reached_low [] at end xs e = let same : at ≡ end = cc in omega (arith, same)
reached_low (ask ∷ asks) at end xs e = by (nearest_from ask at xs) refl (λ p f. reached_low asks (p + 1) end xs f) e
  where
    by : (r : Result ℕ ℕ) → nearest_from ask at xs ≡ r → ((p : ℕ) → sequence_end asks (p + 1) xs ≡ Ok end → p + 1 ≤ end) → then_sequence_end r (λ next. sequence_end asks next xs) ≡ Ok end → at ≤ end
    by (Ok p) f more g =
        let one = nearest_inside ask at p xs f in
        let next = more p g in
        omega (arith, one.0, next)
    by (Err n) f more g = cc

-- indices counted from further before
pub shifted_rise : (by low high : ℕ) (ps : List ℕ) → AreRising low high ps → AreRising (low + by) (high + by) (map (λ q. q + by) ps)
shifted_rise by low high [] r = tt
shifted_rise by low high (p ∷ ps) r =
    let from = r.0 in
    let under = r.1 in
    let next = shifted_rise by (p + 1) high ps r.2 in
    let e : p + 1 + by ≡ p + by + 1 = omega arith in
    let P : ℕ → Type 0 = λ low. AreRising low (high + by) (map (λ q. q + by) ps) in
    (omega (arith, from), omega (arith, under), subst P e next)

-- what rises is below its bound
pub rising_below : (low high : ℕ) (ps : List ℕ) → AreRising low high ps → All (λ q. q < high) ps
rising_below low high [] r = All-nil (λ q. q < high)
rising_below low high (p ∷ ps) r = All-cons (λ q. q < high) p ps r.1 (rising_below (p + 1) high ps r.2)

pub indices_inside : (asks : List (Item → match_t)) (gs : List hb_glyph_info_t) (ps : List ℕ) → 0 < length gs → ps ≡ 0 ∷ indices asks 1 (strip gs) → AreRising 0 (length gs) ps
indices_inside asks gs ps lt e =
    let long : length (strip gs) ≡ length gs = length-map gs item_of in
    let P : List ℕ → Type 0 = λ qs. AreRising 0 (length gs) qs in
    let Q : ℕ → Type 0 = λ n. AreRising 1 n (indices asks 1 (strip gs)) in
    subst P (sym e) (omega arith, lt, subst Q long (indices_rise asks 1 (strip gs)))

pub room_to_move : (rest front : ℕ) (ps : List ℕ) → AreRising 0 rest ps → rest < 2 ^ 59 → front < 2 ^ 59 → All (λ q. q + front < 2 ^ 64) ps
room_to_move rest front ps r lt less = λ k d within. let one = rising_below 0 rest ps r k d within in omega (arith, one, lt, less)
