-- Flags that are spread over the glyphs of a cluster.
use Rattle.std.proofs.Common.{ℕ, zero, suc, ◌≡◌, ◌<◌, ◌==◌, ◌&&◌, not, Bool, true, false, if◌then◌else◌, inl, inr, List, [], ◌∷◌, Option, Some, None, arith, refl, ap, sym, subst, ◌∙◌}
use Rattle.std.specs.List.{list_any}
use Rattle.std.specs.Int.RustNames.{bit_and, bit_or}
use Rattle.std.proofs.lemmas.Nat.{and_assoc, and_mask, and_or_self, mod_below}
use Rattle.buffer_glyphs.specs.Origins.{Origin, Asks, numbers, is_unsafe, tatweel_settled, concat_settled, settled_flags, run_flags, spread_flags, origins_spread_after, origins_spread}
use Rattle.buffer_glyphs.specs.Lemmas.Numbers.{Has}
use Rattle.buffer_glyphs.specs.Lemmas.EventParts.{numbers_spread}
use Rattle.buffer_parts.specs.Breaks.Unsafe.{is_unsafe_of, has_unsafe_of, HaveNoTatweel}
use Rattle.buffer_parts.specs.Breaks.Laws.{SpreadShowsUnsafe}
use Rattle.buffer_parts.proofs.BreakLemmas.Any.{any_here, any_more, any_cases}
use Rattle.buffer_parts.proofs.BreakLemmas.Flags.{clear_or, unsafe_kept, unsafe_added, unsafe_of}
use Rattle.buffer_facts.proofs.Numbers.{same_by_test as equal_test, test_of_same as test_equal}
use Rattle.buffer_facts.proofs.Truth.{and_true}

-- ---- flags as they are settled

one_unsafe : (m : ℕ) → (bit_and m 1 == 1) ≡ true → is_unsafe (bit_and m 3) ≡ true
one_unsafe m e =
    let one : bit_and (bit_and m 3) 5 ≡ 1 = and_assoc 5 m 3 ∙ equal_test (bit_and m 1) 1 e in
    rw one refl

settled_tatweel : (asked : Bool) (m : ℕ) → is_unsafe m ≡ true → is_unsafe (tatweel_settled asked m) ≡ true
settled_tatweel false m h = h
settled_tatweel true m h = by_break (bit_and m 1 == 1) refl
  where
    by_tatweel : (t : Bool) → is_unsafe (if t then bit_or m 3 else m) ≡ true
    by_tatweel true = unsafe_kept m 3 h
    by_tatweel false = h

    by_break : (t : Bool) → (bit_and m 1 == 1) ≡ t → is_unsafe (if t then bit_and m 3 else if bit_and m 4 == 4 then bit_or m 3 else m) ≡ true
    by_break true e = one_unsafe m e
    by_break false e = by_tatweel (bit_and m 4 == 4)

settled_concat : (asked : Bool) (m : ℕ) → is_unsafe m ≡ true → is_unsafe (concat_settled asked m) ≡ true
settled_concat true m h = h
settled_concat false m h = ap (λ n. not (n == 0)) (and_assoc 5 m 5) ∙ h

settled_stays : (asks : Asks) (m : ℕ) → is_unsafe m ≡ true → is_unsafe (settled_flags asks m) ≡ true
settled_stays asks m h = settled_concat asks.concat (tatweel_settled asks.tatweel m) (settled_tatweel asks.tatweel m h)

-- ---- each run

run_here : (o : Origin) (os : List Origin) → run_flags o.cluster (o ∷ os) ≡ bit_or o.flags (run_flags o.cluster os)
run_here o os = rw (test_equal o.cluster o.cluster refl) refl

-- the flags of a run that is unsafe pass a test once they are settled
abbrev pub Settles : (ℕ → Bool) → Asks → List Origin → Type 0
Settles p asks os = (c : ℕ) → is_unsafe (run_flags c os) ≡ true → p (settled_flags asks (run_flags c os)) ≡ true

abbrev pub AllSettle : (ℕ → Bool) → Asks → List Origin → Type 0
AllSettle p asks [] = Unit {0}
AllSettle p asks (o ∷ os) = Settles p asks (o ∷ os) × AllSettle p asks os

-- the flags of a neighbour before pass the test where the rest of its cluster's run is unsafe
abbrev Covers : (ℕ → Bool) → Option Origin → List Origin → Type 0
Covers p None os = Unit {0}
Covers p (Some q) os = is_unsafe (run_flags q.cluster os) ≡ true → p q.flags ≡ true

covered : (p : ℕ → Bool) (asks : Asks) (before : Option Origin) (o : Origin) (os : List Origin) → Settles p asks (o ∷ os) → Covers p before (o ∷ os) → is_unsafe (run_flags o.cluster (o ∷ os)) ≡ true
    → p (spread_flags before o.cluster (settled_flags asks (run_flags o.cluster (o ∷ os)))) ≡ true
covered p asks None o os s k h = s o.cluster h
covered p asks (Some q) o os s k h = by_test (q.cluster == o.cluster) refl
  where
    by_test : (t : Bool) → (q.cluster == o.cluster) ≡ t → p (if t then q.flags else settled_flags asks (run_flags o.cluster (o ∷ os))) ≡ true
    by_test true e = k (ap (λ n. is_unsafe (run_flags n (o ∷ os))) (equal_test q.cluster o.cluster e) ∙ h)
    by_test false e = s o.cluster h

pub spread_passes : (p : ℕ → Bool) (asks : Asks) (before : Option Origin) (c : ℕ) (os : List Origin) → AllSettle p asks os → Covers p before os → has_unsafe_of c os ≡ true
    → list_any (λ (o : Origin). o.cluster == c && p o.flags) (origins_spread_after asks before os) ≡ true
spread_passes p asks before c [] s k h = cc
spread_passes p asks before c (o ∷ os) s k h =
    let flags = spread_flags before o.cluster (settled_flags asks (run_flags o.cluster (o ∷ os))) in
    let now : Origin = record { cluster = o.cluster; flags = flags } in
    let test : Origin → Bool = λ (q : Origin). q.cluster == c && p q.flags in
    let whole = covered p asks before o os s.0 k in
    let run = ap is_unsafe (run_here o os) in
    let next : Covers p (Some now) os = λ g. whole (run ∙ unsafe_added o.flags (run_flags o.cluster os) g) in
    elim (any_cases (is_unsafe_of c) o os h) [
      | inl here ↦
          let both = unsafe_of c o here in
          any_here test now (origins_spread_after asks (Some now) os) (and_true (o.cluster == c) (p flags) (test_equal o.cluster c both.0) (whole (run ∙ unsafe_kept o.flags (run_flags o.cluster os) both.1)))
      | inr later ↦ any_more test now (origins_spread_after asks (Some now) os) (spread_passes p asks (Some now) c os s.1 next later)
    ]

unsafe_settles : (asks : Asks) (os : List Origin) → AllSettle is_unsafe asks os
unsafe_settles asks [] = tt
unsafe_settles asks (o ∷ os) = (λ c h. settled_stays asks (run_flags c (o ∷ os)) h, unsafe_settles asks os)

pub spread_stays : (asks : Asks) (c : ℕ) (os : List Origin) → has_unsafe_of c os ≡ true → has_unsafe_of c (origins_spread asks os) ≡ true
spread_stays asks c os h = spread_passes is_unsafe asks None c os (unsafe_settles asks os) tt h

-- ---- what a spread shows

below_eight : (P : ℕ → Type 0) → P 0 → P 1 → P 2 → P 3 → P 4 → P 5 → P 6 → P 7 → (n : ℕ) → n < 8 → P n
below_eight P a b c d e f g h zero lt = a
below_eight P a b c d e f g h (suc zero) lt = b
below_eight P a b c d e f g h (suc (suc zero)) lt = c
below_eight P a b c d e f g h (suc (suc (suc zero))) lt = d
below_eight P a b c d e f g h (suc (suc (suc (suc zero)))) lt = e
below_eight P a b c d e f g h (suc (suc (suc (suc (suc zero))))) lt = f
below_eight P a b c d e f g h (suc (suc (suc (suc (suc (suc zero)))))) lt = g
below_eight P a b c d e f g h (suc (suc (suc (suc (suc (suc (suc zero))))))) lt = h
below_eight P a b c d e f g h (suc (suc (suc (suc (suc (suc (suc (suc n)))))))) lt = absurd (omega (arith, lt))

-- flags without UNSAFE_TO_BREAK that are unsafe have SAFE_TO_INSERT_TATWEEL
abbrev NeedsTatweel : ℕ → Type 0
NeedsTatweel m = (bit_and m 1 == 1) ≡ false → is_unsafe m ≡ true → bit_and m 4 ≡ 4

low_needs : (m : ℕ) → m < 8 → NeedsTatweel m
low_needs m lt = below_eight NeedsTatweel (λ e h. cc) (λ e h. cc) (λ e h. cc) (λ e h. cc) (λ e h. refl) (λ e h. cc) (λ e h. refl) (λ e h. cc) m lt

needs_tatweel : (m : ℕ) → NeedsTatweel m
needs_tatweel m = λ e h.
    let low : bit_and m 7 < 8 = let all = and_mask m 3 in let under = mod_below m 8 (omega arith) in omega (arith, all, under) in
    let one : bit_and (bit_and m 7) 1 ≡ bit_and m 1 = and_assoc 1 m 7 in
    let four : bit_and (bit_and m 7) 4 ≡ bit_and m 4 = and_assoc 4 m 7 in
    let five : bit_and (bit_and m 7) 5 ≡ bit_and m 5 = and_assoc 5 m 7 in
    sym four ∙ low_needs (bit_and m 7) low (ap (λ n. n == 1) one ∙ e) (ap (λ n. not (n == 0)) five ∙ h)

abbrev has_break : ℕ → Bool
has_break m = bit_and m 1 == 1

break_kept : (m : ℕ) → has_break m ≡ true → (asked : Bool) → has_break (concat_settled asked m) ≡ true
break_kept m h true = h
break_kept m h false = ap (λ n. n == 1) (and_assoc 1 m 5) ∙ h

three_breaks : (m : ℕ) → has_break (bit_or m 3) ≡ true
three_breaks m =
    let one : bit_and (bit_or m 3) 1 ≡ bit_and (bit_and (bit_or m 3) 3) 1 = sym (and_assoc 1 (bit_or m 3) 3) in
    let all : bit_and (bit_or m 3) 3 ≡ 3 = and_or_self 3 m in
    test_equal (bit_and (bit_or m 3) 1) 1 (one ∙ ap (λ n. bit_and n 1) all)

tatweel_shows : (m : ℕ) → is_unsafe m ≡ true → has_break (tatweel_settled true m) ≡ true
tatweel_shows m h = by_break (bit_and m 1 == 1) refl
  where
    by_tatweel : (t : Bool) → (bit_and m 4 == 4) ≡ t → bit_and m 4 ≡ 4 → has_break (if t then bit_or m 3 else m) ≡ true
    by_tatweel true e four = three_breaks m
    by_tatweel false e four = let no : true ≡ false = sym (test_equal (bit_and m 4) 4 four) ∙ e in cc

    by_break : (t : Bool) → (bit_and m 1 == 1) ≡ t → has_break (if t then bit_and m 3 else if bit_and m 4 == 4 then bit_or m 3 else m) ≡ true
    by_break true e = ap (λ n. n == 1) (and_assoc 1 m 3) ∙ e
    by_break false e = by_tatweel (bit_and m 4 == 4) refl (needs_tatweel m e h)

clear_shows : (m : ℕ) → bit_and m 4 ≡ 0 → is_unsafe m ≡ true → has_break m ≡ true
clear_shows m none h = by_break (bit_and m 1 == 1) refl
  where
    by_break : (t : Bool) → (bit_and m 1 == 1) ≡ t → has_break m ≡ true
    by_break true e = e
    by_break false e = let no : 4 ≡ 0 = sym (needs_tatweel m e h) ∙ none in absurd (omega (arith, no))

-- flags without SAFE_TO_INSERT_TATWEEL are settled to such
tatweel_clears : (asked : Bool) (m : ℕ) → bit_and m 4 ≡ 0 → is_unsafe m ≡ true → has_break (tatweel_settled asked m) ≡ true
tatweel_clears true m none h = tatweel_shows m h
tatweel_clears false m none h = clear_shows m none h

pub run_clear : (c : ℕ) (os : List Origin) → HaveNoTatweel os → bit_and (run_flags c os) 4 ≡ 0
run_clear c [] none = refl
run_clear c (o ∷ os) none = elim (o.cluster == c) as (λ t. bit_and (if t then bit_or o.flags (run_flags c os) else 0) 4 ≡ 0) [ true ↦ clear_or o.flags (run_flags c os) none.0 (run_clear c os none.1) | false ↦ refl ]

requested_settles : (asks : Asks) (os : List Origin) → asks.tatweel ≡ true → AllSettle has_break asks os
requested_settles asks [] e = tt
requested_settles asks (o ∷ os) e = (λ c h. break_kept (tatweel_settled asks.tatweel (run_flags c (o ∷ os))) (subst (λ b. has_break (tatweel_settled b (run_flags c (o ∷ os))) ≡ true) (sym e) (tatweel_shows (run_flags c (o ∷ os)) h)) asks.concat, requested_settles asks os e)

clear_settles : (asks : Asks) (os : List Origin) → HaveNoTatweel os → AllSettle has_break asks os
clear_settles asks [] none = tt
clear_settles asks (o ∷ os) none =
    (λ c h. break_kept (tatweel_settled asks.tatweel (run_flags c (o ∷ os))) (tatweel_clears asks.tatweel (run_flags c (o ∷ os)) (run_clear c (o ∷ os) none) h) asks.concat, clear_settles asks os none.1)

pub spread_shows_unsafe : SpreadShowsUnsafe
spread_shows_unsafe asks os c either u = λ there.
    let before : Has (numbers os) c = subst (λ (ns : List ℕ). Has ns c) (numbers_spread asks None os) there in
    spread_passes has_break asks None c os (elim either [ inl asked ↦ requested_settles asks os asked | inr none ↦ clear_settles asks os none ]) tt (u before)
