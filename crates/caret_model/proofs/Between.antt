-- Stops between two bytes.
use Rattle.std.proofs.Common.{ℕ, zero, suc, ◌≡◌, ◌≤◌, ◌<◌, ◌+◌, ◌-◌, ◌&&◌, nat_lt, ltb, Bool, true, false, if◌then◌else◌, List, [], ◌∷◌, ◌++◌, length, take, drop, get_or, arith, refl, sym, ap, subst, ◌∙◌}
use Rattle.std.specs.Prelude.{slice_range}
use Rattle.std.specs.List.{filter}
use Rattle.std.specs.List.Sorted.{IsNonDecreasing, IsPartitionPoint}
use Rattle.std.proofs.lemmas.Bool.Decides.{nat_tests}
use Rattle.std.proofs.lemmas.Grind.{common_steps}
use Rattle.std.proofs.lemmas.List.{append-nil}
use Rattle.caret_model.specs.Parted.{IsStart}
use Rattle.caret_model.specs.Stops.{AreStops, is_between, stops_between}

-- ---- stops rise

at_least : (end last : ℕ) (ss : List ℕ) (j d : ℕ) → AreStops end last ss → j < length ss → last < get_or ss j d
at_least end last [] j d are lt = absurd (omega (arith, lt))
at_least end last (s ∷ ss) zero d are lt = are.0
at_least end last (s ∷ ss) (suc j) d are lt = let first = are.0 in let more = at_least end s ss j d are.2 (omega (arith, lt)) in omega (arith, first, more)

pub stops_rise : (end last : ℕ) (ss : List ℕ) → AreStops end last ss → IsNonDecreasing ss
stops_rise end last [] are i j d le lt = absurd (omega (arith, lt))
stops_rise end last (s ∷ ss) are zero zero d le lt = omega arith
stops_rise end last (s ∷ ss) are zero (suc j) d le lt = let more = at_least end s ss j d are.2 (omega (arith, lt)) in omega (arith, more)
stops_rise end last (s ∷ ss) are (suc i) zero d le lt = absurd (omega (arith, le))
stops_rise end last (s ∷ ss) are (suc i) (suc j) d le lt = stops_rise end s ss are.2 i j d (omega (arith, le)) (omega (arith, lt))

-- ---- the first stop at a byte or after it

under : (s byte : ℕ) → ltb s byte ≡ true → s < byte
under s byte e = grind (arith, nat_tests, e)

over : (s byte : ℕ) → ltb s byte ≡ false → byte ≤ s
over s byte e = grind (arith, nat_tests, e)

pub parted_at : (ss : List ℕ) (byte at : ℕ) → at ≤ length ss → IsPartitionPoint (λ s. ltb s byte ≡ true) (λ s. ltb s byte ≡ false) ss at → IsStart ss byte at
parted_at ss byte at le point = record {
  within = le;
  below = λ i d lt. under _ _ (point.0 i d (omega arith) lt);
  rest = λ i d ge lt. over _ _ (point.1 i d ge lt);
}

-- ---- stops between two bytes

is_between_if : (lo hi s : ℕ) → lo < s → s < hi → is_between lo hi s ≡ true
is_between_if lo hi s low high = grind (arith, nat_tests, common_steps, low, high)

not_under : (lo hi s : ℕ) → s ≤ lo → is_between lo hi s ≡ false
not_under lo hi s low = grind (arith, nat_tests, common_steps, low)

not_over : (lo hi s : ℕ) → hi ≤ s → is_between lo hi s ≡ false
not_over lo hi s high = grind (arith, nat_tests, common_steps, high)

kept : (p : ℕ → Bool) (s : ℕ) (ss : List ℕ) → p s ≡ true → filter p (s ∷ ss) ≡ s ∷ filter p ss
kept p s ss e = ap (λ t. if t then s ∷ filter p ss else filter p ss) e

left_out : (p : ℕ → Bool) (s : ℕ) (ss : List ℕ) → p s ≡ false → filter p (s ∷ ss) ≡ filter p ss
left_out p s ss e = ap (λ t. if t then s ∷ filter p ss else filter p ss) e

-- none is between two bytes the second of which isn't after the first
pub none_between : (ss : List ℕ) (lo hi : ℕ) → hi ≤ lo → stops_between ss lo hi ≡ []
none_between [] lo hi le = refl
none_between (s ∷ ss) lo hi le = left_out (is_between lo hi) s ss (neither s) ∙ none_between ss lo hi le
  where
    neither : (s : ℕ) → is_between lo hi s ≡ false
    neither s = grind (arith, nat_tests, common_steps, le)

none_over : (ss : List ℕ) (lo hi : ℕ) → ((i d : ℕ) → i < length ss → hi ≤ get_or ss i d) → stops_between ss lo hi ≡ []
none_over [] lo hi all = refl
none_over (s ∷ ss) lo hi all = left_out (is_between lo hi) s ss (not_over lo hi s (all 0 0 (omega arith))) ∙ none_over ss lo hi (λ i d lt. all (suc i) d (omega (arith, lt)))

none_left : (n : ℕ) → 0 - n ≡ 0
none_left n = omega arith

all_left : (n : ℕ) → n - 0 ≡ n
all_left n = omega arith

both_less : (m n : ℕ) → suc m - suc n ≡ m - n
both_less m n = omega arith

-- the stops between two bytes are those from one index to another
pub parted : (ss : List ℕ) (lo hi from to : ℕ) → IsStart ss (lo + 1) from → IsStart ss hi to → stops_between ss lo hi ≡ take (to - from) (drop from ss)
parted [] lo hi zero zero first last = refl
parted [] lo hi (suc from) to first last = let within = first.within in absurd (omega (arith, within))
parted [] lo hi from (suc to) first last = let within = last.within in absurd (omega (arith, within))
parted (s ∷ ss) lo hi zero zero first last = none_over (s ∷ ss) lo hi (λ i d lt. last.rest i d (omega arith) lt)
parted (s ∷ ss) lo hi (suc from) zero first last = none_over (s ∷ ss) lo hi (λ i d lt. last.rest i d (omega arith) lt) ∙ sym (ap (λ n. take n (drop from ss)) (none_left (suc from)))
parted (s ∷ ss) lo hi zero (suc to) first last =
    let low = first.rest 0 0 (omega arith) (omega arith) in
    let high = last.below 0 0 (omega arith) in
    kept (is_between lo hi) s ss (is_between_if lo hi s (omega (arith, low)) high)
    ∙ ap (λ xs. s ∷ xs) (parted ss lo hi zero to (record { within = omega arith; below = λ i d lt. absurd (omega (arith, lt)); rest = λ i d ge lt. first.rest (suc i) d (omega arith) (omega (arith, lt)) }) (next ss hi s to last))
    ∙ ap (λ n. s ∷ take n ss) (all_left to) ∙ sym (ap (λ n. take n (s ∷ ss)) (all_left (suc to)))
  where
    next : (ss : List ℕ) (byte s at : ℕ) → IsStart (s ∷ ss) byte (suc at) → IsStart ss byte at
    next ss byte s at is = let within = is.within in record { within = omega (arith, within); below = λ i d lt. is.below (suc i) d (omega (arith, lt)); rest = λ i d ge lt. is.rest (suc i) d (omega (arith, ge)) (omega (arith, lt)) }
parted (s ∷ ss) lo hi (suc from) (suc to) first last =
    let low = first.below 0 0 (omega arith) in
    left_out (is_between lo hi) s ss (not_under lo hi s (omega (arith, low)))
    ∙ parted ss lo hi from to (next ss (lo + 1) s from first) (next ss hi s to last) ∙ sym (ap (λ n. take n (drop from ss)) (both_less to from))
  where
    next : (ss : List ℕ) (byte s at : ℕ) → IsStart (s ∷ ss) byte (suc at) → IsStart ss byte at
    next ss byte s at is = let within = is.within in record { within = omega (arith, within); below = λ i d lt. is.below (suc i) d (omega (arith, lt)); rest = λ i d ge lt. is.rest (suc i) d (omega (arith, ge)) (omega (arith, lt)) }

-- where the first index isn't before the second one, there are none
pub none_parted : (ss : List ℕ) (lo hi from to : ℕ) → IsStart ss (lo + 1) from → IsStart ss hi to → to ≤ from → stops_between ss lo hi ≡ []
none_parted ss lo hi from to first last le = let none : to - from ≡ 0 = omega (arith, le) in parted ss lo hi from to first last ∙ ap (λ n. take n (drop from ss)) none

pub between_parted : (ss : List ℕ) (lo hi from to : ℕ) → IsStart ss (lo + 1) from → IsStart ss hi to → stops_between ss lo hi ≡ slice_range ss from to
between_parted ss lo hi from to first last = parted ss lo hi from to first last
