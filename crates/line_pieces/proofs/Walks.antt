-- Walks over the glyphs of a text.
use Rattle.std.proofs.Common.{ℕ, zero, suc, ℤ, pos, ◌≡◌, ◌≢◌, ◌≤◌, ◌<◌, ◌+◌, ◌*◌, ◌^◌, ◌==◌, ◌&&◌, ◌||◌, ◌+ℤ◌, ◌≤ℤ◌, neg_ℤ, Bool, true, false, not, nat_lt, if◌then◌else◌, List, [], ◌∷◌, fold, length, take, drop, get_or, of_z, to_z, w64, arith, inl, inr, refl, sym, ap, subst, ◌∙◌}
use Rattle.std.specs.Prelude.{Some, slice_get}
use Rattle.std.specs.List.{list_any}
use Rattle.std.proofs.lemmas.Bool.{cases_lt}
use Rattle.std.proofs.lemmas.Bool.Decides.{nat_tests}
use Rattle.std.proofs.lemmas.Grind.{common_steps}
use Rattle.std.proofs.lemmas.Int.{ints}
use Rattle.std.proofs.lemmas.List.{drop_all, drop_more}
use Rattle.std.proofs.lemmas.List.Sums.{fold_more}
use Rattle.std.proofs.lemmas.Option.{get_or_from_slice_get, slice_get_within}
use Rattle.line_pieces.specs.declared.steps.Step.{Step}
use Rattle.line_pieces.specs.Cuts.{IsBounded, IsSplit, IsWalked, pen_after, pen_to, run_is_safe}
use Rattle.line_pieces.specs.Lines.{is_of, is_unsafe_of, pen_before, pen_with}
use Rattle.line_pieces.proofs.TextOrder.{Rises}
use Rattle.buffer_facts.proofs.Numbers.{test_of_apart as other_is, test_of_same as same_is, test_of_less as less_is, test_of_not_less as not_less_is}

-- ---- the pen

-- all glyphs before an index are before a byte, and the pen is after them
pub record IsPassed (ss : List Step) (byte i : ℕ) (pen : ℤ) : Type 0 where
  pub passed : (k : ℕ) (s : Step) → k < i → slice_get ss k ≡ Some s → s.cluster < byte
  pub sum : pen ≡ pen_to ss i
  pub bounded : IsBounded i pen

pub passed_first : (ss : List Step) (before byte at : ℕ) (pen : ℤ) → IsWalked ss before at pen → before ≤ byte → IsPassed ss byte at pen
passed_first ss before byte at pen is le = record {
  passed = λ k s within there. let less = (is.split k s there).0 within in omega (arith, less, le);
  sum = is.sum;
  bounded = is.bounded;
}

pub bounded_more : (i : ℕ) (pen advance : ℤ) → IsBounded i pen → neg_ℤ (pos (2 ^ 31)) ≤ℤ advance → advance ≤ℤ pos (2 ^ 31) → IsBounded (i + 1) (pen +ℤ advance)
bounded_more i pen advance is low high = record { low = low_more is.low; high = high_more is.high }
  where
    low_more : neg_ℤ (pos (2 ^ 31 * i)) ≤ℤ pen → neg_ℤ (pos (2 ^ 31 * (i + 1))) ≤ℤ (pen +ℤ advance)
    low_more below = omega (arith, ints, below, low)

    high_more : pen ≤ℤ pos (2 ^ 31 * i) → (pen +ℤ advance) ≤ℤ pos (2 ^ 31 * (i + 1))
    high_more above = omega (arith, ints, above, high)

-- in 64 bits the pen moves by the advance
pub moved : (i : ℕ) (pen advance : ℤ) → i < 2 ^ 31 → neg_ℤ (pos (2 ^ 31 * i)) ≤ℤ pen → pen ≤ℤ pos (2 ^ 31 * i) → neg_ℤ (pos (2 ^ 31)) ≤ℤ advance → advance ≤ℤ pos (2 ^ 31) → to_z w64 (of_z w64 (pen +ℤ to_z w64 (of_z w64 advance))) ≡ pen +ℤ advance
moved i pen advance few below above low high = omega (arith, ints, few, below, above, low, high)

pub passed_more : (ss : List Step) (byte i : ℕ) (pen new : ℤ) (s : Step) → IsPassed ss byte i pen → slice_get ss i ≡ Some s → s.cluster < byte → i < 2 ^ 31 → neg_ℤ (pos (2 ^ 31)) ≤ℤ s.advance → s.advance ≤ℤ pos (2 ^ 31)
    → new ≡ to_z w64 (of_z w64 (pen +ℤ to_z w64 (of_z w64 s.advance))) → IsPassed ss byte (i + 1) new
passed_more ss byte i pen new s is at less few low high same =
    let onward : new ≡ pen +ℤ s.advance = same ∙ moved i pen s.advance few is.bounded.low is.bounded.high low high in
    let within = slice_get_within ss i s at in
    let read : get_or ss i s ≡ s = get_or_from_slice_get ss i s s at in
    let total : pen_to ss (i + 1) ≡ pen_after (pen_to ss i) s = fold_more pen_after (pos 0) ss i s within ∙ ap (pen_after (pen_to ss i)) read in
    record {
      passed = passed;
      sum = onward ∙ ap (λ z. z +ℤ s.advance) is.sum ∙ sym total;
      bounded = subst (IsBounded (i + 1)) (sym onward) (bounded_more i pen s.advance is.bounded low high);
    }
  where
    passed : (k : ℕ) (t : Step) → k < i + 1 → slice_get ss k ≡ Some t → t.cluster < byte
    passed k t under there = elim (cases_lt k i) [
      | inl before ↦ is.passed k t before there
      | inr le ↦
          let same_index : i ≡ k = omega (arith, under, le) in
          let both : Some s ≡ Some t = sym at ∙ ap (slice_get ss) same_index ∙ there in
          let one : s ≡ t = cc in
          let P : Step → Type 0 = λ u. u.cluster < byte in
          subst P one less
    ]

-- the walk ends at a glyph that isn't before the byte
pub walked_here : (ss : List Step) (byte i : ℕ) (pen : ℤ) (s : Step) → Rises ss → IsPassed ss byte i pen → slice_get ss i ≡ Some s → byte ≤ s.cluster → IsWalked ss byte i pen
walked_here ss byte i pen s rise is at past = record {
  within = let inside = slice_get_within ss i s at in omega (arith, inside);
  split = λ k t there. (λ under. is.passed k t under there, λ less. under k t there less);
  sum = is.sum;
  bounded = is.bounded;
}
  where
    under : (k : ℕ) (t : Step) → slice_get ss k ≡ Some t → t.cluster < byte → k < i
    under k t there less = elim (cases_lt k i) [ inl before ↦ before | inr le ↦ let up = rise i k s t le at there in absurd (omega (arith, up, less, past)) ]

-- or at the end of the text
pub walked_whole : (ss : List Step) (byte n : ℕ) (pen : ℤ) → IsPassed ss byte n pen → length ss ≡ n → IsWalked ss byte n pen
walked_whole ss byte n pen is all = record {
  within = omega (arith, all);
  split = λ k t there. (λ under. is.passed k t under there, λ less. let inside = slice_get_within ss k t there in omega (arith, inside, all));
  sum = is.sum;
  bounded = is.bounded;
}

-- ---- the sum of the advances before a byte

shifted : (s : Step) (ss : List Step) (byte at : ℕ) → IsSplit (s ∷ ss) byte (suc at) → IsSplit ss byte at
shifted s ss byte at is k t there = let both = is (suc k) t there in (λ under. both.0 (omega (arith, under)), λ less. let over = both.1 less in omega (arith, over))

past_first : (s : Step) (ss : List Step) (byte : ℕ) → IsSplit (s ∷ ss) byte 0 → IsSplit ss byte 0
past_first s ss byte is k t there = let both = is (suc k) t there in (λ under. absurd (omega (arith, under)), λ less. let over = both.1 less in absurd (omega (arith, over)))

first_before : (s : Step) (ss : List Step) (byte at : ℕ) → IsSplit (s ∷ ss) byte (suc at) → s.cluster < byte
first_before s ss byte at is = (is 0 s refl).0 (omega arith)

first_after : (s : Step) (ss : List Step) (byte : ℕ) → IsSplit (s ∷ ss) byte 0 → byte ≤ s.cluster
first_after s ss byte is = elim (cases_lt s.cluster byte) [ inl less ↦ let over = (is 0 s refl).1 less in absurd (omega (arith, over)) | inr le ↦ le ]

sum_from : (ss : List Step) (byte at : ℕ) (pen : ℤ) → IsSplit ss byte at → fold (pen_with byte) pen ss ≡ fold pen_after pen (take at ss)
sum_from [] byte zero pen is = refl
sum_from [] byte (suc at) pen is = refl
sum_from (s ∷ ss) byte zero pen is =
    ap (λ t. fold (pen_with byte) (if t then pen +ℤ s.advance else pen) ss) (not_less_is s.cluster byte (first_after s ss byte is)) ∙ sum_from ss byte zero pen (past_first s ss byte is)
sum_from (s ∷ ss) byte (suc at) pen is =
    ap (λ t. fold (pen_with byte) (if t then pen +ℤ s.advance else pen) ss) (less_is s.cluster byte (first_before s ss byte at is)) ∙ sum_from ss byte at (pen +ℤ s.advance) (shifted s ss byte at is)

-- the pen after the glyphs before a byte
pub pen_there : (ss : List Step) (byte at : ℕ) (pen : ℤ) → IsWalked ss byte at pen → pen ≡ pen_before ss byte
pen_there ss byte at pen is = is.sum ∙ sym (sum_from ss byte at (pos 0) is.split)

-- ---- whether a break is safe

at_drop : (ss : List Step) (i : ℕ) (s : Step) → slice_get ss i ≡ Some s → drop i ss ≡ s ∷ drop (i + 1) ss
at_drop ss i s at = drop_more ss i s (slice_get_within ss i s at) ∙ ap (λ t. t ∷ drop (i + 1) ss) (get_or_from_slice_get ss i s s at)

pub run_ends : (c i : ℕ) (found : Bool) (ss : List Step) (s : Step) → slice_get ss i ≡ Some s → s.cluster ≢ c → run_is_safe c found (drop i ss) ≡ found
run_ends c i found ss s at other = ap (run_is_safe c found) (at_drop ss i s at) ∙ ap (λ t. if t then (if s.is_unsafe then false else run_is_safe c true (drop (i + 1) ss)) else found) (other_is s.cluster c other)

pub run_fails : (c i : ℕ) (found : Bool) (ss : List Step) (s : Step) → slice_get ss i ≡ Some s → s.cluster ≡ c → s.is_unsafe ≡ true → run_is_safe c found (drop i ss) ≡ false
run_fails c i found ss s at same flagged =
    ap (run_is_safe c found) (at_drop ss i s at)
    ∙ ap (λ t. if t then (if s.is_unsafe then false else run_is_safe c true (drop (i + 1) ss)) else found) (same_is s.cluster c same)
    ∙ ap (λ t. if t then false else run_is_safe c true (drop (i + 1) ss)) flagged

pub run_goes_on : (c i : ℕ) (found : Bool) (ss : List Step) (s : Step) → slice_get ss i ≡ Some s → s.cluster ≡ c → s.is_unsafe ≡ false → run_is_safe c found (drop i ss) ≡ run_is_safe c true (drop (i + 1) ss)
run_goes_on c i found ss s at same clear =
    ap (run_is_safe c found) (at_drop ss i s at)
    ∙ ap (λ t. if t then (if s.is_unsafe then false else run_is_safe c true (drop (i + 1) ss)) else found) (same_is s.cluster c same)
    ∙ ap (λ t. if t then false else run_is_safe c true (drop (i + 1) ss)) clear

pub run_over : (c i : ℕ) (found : Bool) (ss : List Step) → length ss ≤ i → run_is_safe c found (drop i ss) ≡ found
run_over c i found ss past = ap (run_is_safe c found) (drop_all i ss past)

none_of : (c : ℕ) (ss : List Step) → ((k : ℕ) (s : Step) → slice_get ss k ≡ Some s → c < s.cluster) → (list_any (is_of c) ss ≡ false) × (list_any (is_unsafe_of c) ss ≡ false)
none_of c [] above = (refl, refl)
none_of c (s ∷ ss) above =
    let rest = none_of c ss (λ k t there. above (suc k) t there) in
    let less = above 0 s refl in
    let other : (s.cluster == c) ≡ false = other_is s.cluster c (λ same. absurd (omega (arith, less, same))) in
    (ap (λ t. t || list_any (is_of c) ss) other ∙ rest.0, ap (λ t. (t && s.is_unsafe) || list_any (is_unsafe_of c) ss) other ∙ rest.1)

tail_rises : (s : Step) (ss : List Step) → Rises (s ∷ ss) → Rises ss
tail_rises s ss rise i j t u le at to = rise (suc i) (suc j) t u (omega (arith, le)) at to

or_false : (t : Bool) → t ≡ ((t || false) && true)
or_false false = refl
or_false true = refl

flag_fails : (t : Bool) → false ≡ ((t || true) && not true)
flag_fails false = refl
flag_fails true = refl

clear_goes_on : (f u t : Bool) → ((true || u) && not t) ≡ ((f || true) && not t)
clear_goes_on false u t = refl
clear_goes_on true u t = refl

-- glyphs of a cluster and above
run_shows : (c : ℕ) (found : Bool) (ss : List Step) → Rises ss → ((k : ℕ) (s : Step) → slice_get ss k ≡ Some s → c ≤ s.cluster) → run_is_safe c found ss ≡ ((found || list_any (is_of c) ss) && not (list_any (is_unsafe_of c) ss))
run_shows c found [] rise above = or_false found
run_shows c found (s ∷ ss) rise above = by_test (s.cluster == c) refl (run_shows c true ss (tail_rises s ss rise) (λ k t there. above (suc k) t there))
  where
    by_flag : (t : Bool) → run_is_safe c true ss ≡ ((true || list_any (is_of c) ss) && not (list_any (is_unsafe_of c) ss))
        → (if t then false else run_is_safe c true ss) ≡ ((found || true) && not (t || list_any (is_unsafe_of c) ss))
    by_flag true rest = flag_fails found
    by_flag false rest = rest ∙ clear_goes_on found (list_any (is_of c) ss) (list_any (is_unsafe_of c) ss)

    by_test : (t : Bool) → (s.cluster == c) ≡ t → run_is_safe c true ss ≡ ((true || list_any (is_of c) ss) && not (list_any (is_unsafe_of c) ss))
        → (if t then (if s.is_unsafe then false else run_is_safe c true ss) else found) ≡ ((found || (t || list_any (is_of c) ss)) && not ((t && s.is_unsafe) || list_any (is_unsafe_of c) ss))
    by_test true e rest = by_flag s.is_unsafe rest
    by_test false e rest =
        let le = above 0 s refl in
        let over : c < s.cluster = grind (arith, nat_tests, common_steps, e, le) in
        let none = none_of c ss (λ k t there. let up = rise 0 (suc k) s t (omega arith) refl there in omega (arith, up, over)) in
        or_false found ∙ ap (λ t. (found || t) && not false) (sym none.0) ∙ ap (λ t. (found || list_any (is_of c) ss) && not t) (sym none.1)

-- glyphs before a byte are not of its cluster
pub run_decides : (c at : ℕ) (ss : List Step) → Rises ss → IsSplit ss c at → run_is_safe c false (drop at ss) ≡ (list_any (is_of c) ss && not (list_any (is_unsafe_of c) ss))
run_decides c zero ss rise is = run_shows c false ss rise (λ k s there. elim (cases_lt s.cluster c) [ inl less ↦ let over = (is k s there).1 less in absurd (omega (arith, over)) | inr le ↦ le ])
run_decides c (suc at) [] rise is = refl
run_decides c (suc at) (s ∷ ss) rise is =
    let less = first_before s ss c at is in
    let other : (s.cluster == c) ≡ false = other_is s.cluster c (λ same. absurd (omega (arith, less, same))) in
    run_decides c at ss (tail_rises s ss rise) (shifted s ss c at is)
    ∙ ap (λ t. (t || list_any (is_of c) ss) && not ((t && s.is_unsafe) || list_any (is_unsafe_of c) ss)) (sym other)

-- neither end of the text
pub not_at_ends : (byte end : ℕ) → byte ≢ 0 → byte ≢ end → (byte == 0 || byte == end) ≡ false
not_at_ends byte end first last = ap (λ t. t || byte == end) (other_is byte 0 first) ∙ other_is byte end last
