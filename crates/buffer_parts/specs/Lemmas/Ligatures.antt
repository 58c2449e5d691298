-- Parts that are deleted from a range that became one.
use Rattle.std.proofs.Common.{ℕ, zero, suc, ◌≡◌, ◌≤◌, ◌<◌, ◌+◌, ◌-◌, ◌||◌, inl, inr, Bool, true, false, min, max, List, [], ◌∷◌, ◌++◌, length, take, drop, arith, refl, ap, sym, subst, ◌∙◌, length-append, length-drop}
use Rattle.std.specs.List.{list_any}
use Rattle.std.proofs.lemmas.Bool.Decides.{nat_tests}
use Rattle.std.proofs.lemmas.Grind.{common_steps}
use Rattle.std.proofs.lemmas.List.{length-map, length-take, drop-drop}
use Rattle.std.proofs.Math.Seq.{take-add, drop-nil}
use Rattle.buffer_glyphs.specs.declared.level.BufferClusterLevel.{BufferClusterLevel}
use Rattle.buffer_glyphs.specs.Levels.{IsUniting, Manner, Unites, Marks, Keeps, manner}
use Rattle.buffer_glyphs.specs.Parts.{JoinParts, ReplaceParts, united_number, joined_numbers, range_of, numbers_without, numbers_replaced, after_part_event}
use Rattle.buffer_glyphs.specs.Order.{IsInOrder, IsGiving, shares_part, has_number}
use Rattle.buffer_glyphs.specs.EventParts.{joins_of, parts_of}
use Rattle.buffer_glyphs.specs.Lemmas.EventParts.{moves_unite}
use Rattle.buffer_glyphs.specs.Lemmas.Numbers.{Has, has_here, has_more, has_cases, has_left, has_right}
use Rattle.buffer_parts.specs.Orderly.{are_one}
use Rattle.buffer_parts.specs.CharacterParts.{part_after_event}
use Rattle.buffer_parts.specs.Counts.{ligature_deletions, AreBetween}
use Rattle.buffer_parts.specs.CountLaws.{LigaturesAreGiving}
use Rattle.buffer_parts.specs.Lemmas.Orderly.{one_number}
use Rattle.buffer_parts.specs.Lemmas.CharacterParts.{events_are_unions}
use Rattle.buffer_parts.specs.Lemmas.Groups.{are_one_from, merged_one}
use Rattle.buffer_glyphs.proofs.Least.{in_order, removal_is}

-- ---- an element that is deleted

without_nil : (at : ℕ) → numbers_without at [] ≡ []
without_nil zero = refl
without_nil (suc at) = drop-nil {A = ℕ} (suc at + 1)

without_next : (at n : ℕ) (ns : List ℕ) → numbers_without (suc at) (n ∷ ns) ≡ n ∷ numbers_without at ns
without_next at n ns = let next : suc at + 1 ≡ suc (at + 1) = omega arith in ap (λ k. n ∷ take at ns ++ drop k (n ∷ ns)) next

drop_without : (at j p : ℕ) (ns : List ℕ) → p ≡ at + j → drop at (numbers_without p ns) ≡ numbers_without j (drop at ns)
drop_without zero j p ns e = let same : p ≡ j = omega (arith, e) in ap (λ k. numbers_without k ns) same
drop_without (suc at) j zero ns e = absurd (omega (arith, e))
drop_without (suc at) j (suc p) [] e = ap (drop (suc at)) (without_nil (suc p)) ∙ sym (without_nil j)
drop_without (suc at) j (suc p) (n ∷ ns) e = ap (drop (suc at)) (without_next p n ns) ∙ drop_without at j p ns (omega (arith, e))

none_taken : (n k : ℕ) → Has (take n []) k → Has [] k
none_taken zero k h = h
none_taken (suc n) k h = h

-- the first elements without one were among one more
has_without : (j n k : ℕ) (ns : List ℕ) → Has (take n (numbers_without j ns)) k → Has (take (suc n) ns) k
has_without zero n k [] h = none_taken n k h
has_without zero n k (m ∷ ns) h = has_more m k (take n ns) h
has_without (suc j) n k [] h = none_taken n k (subst (λ (ms : List ℕ). Has (take n ms) k) (without_nil (suc j)) h)
has_without (suc j) zero k (m ∷ ns) h = cc
has_without (suc j) (suc n) k (m ∷ ns) h = elim (has_cases m k (take n (numbers_without j ns)) (subst (λ (ms : List ℕ). Has (take (suc n) ms) k) (without_next j m ns) h)) [
  | inl e ↦ let P : ℕ → Type 0 = λ l. Has (take (suc (suc n)) (m ∷ ns)) l in subst P e (has_here m (take (suc n) ns))
  | inr later ↦ has_more m k (take (suc n) ns) (has_without j n k ns later)
]

-- an element within the first ones
item_at : (j n : ℕ) (ns : List ℕ) → j < n → j < length ns → (x : ℕ) × (take 1 (drop j ns) ≡ x ∷ []) × Has (take n ns) x
item_at j n [] lt within = absurd (omega (arith, within))
item_at zero zero (m ∷ ns) lt within = absurd (omega (arith, lt))
item_at zero (suc n) (m ∷ ns) lt within = (m, refl, has_here m (take n ns))
item_at (suc j) zero (m ∷ ns) lt within = absurd (omega (arith, lt))
item_at (suc j) (suc n) (m ∷ ns) lt within = let rest = item_at j n ns (omega (arith, lt)) (omega (arith, within)) in (rest.0, rest.1, has_more m rest.0 (take n ns) rest.2)

first_at : (j n : ℕ) (ns : List ℕ) → 0 < j → 0 < n → 0 < length ns → (x : ℕ) × Has (take j ns) x × Has (take n ns) x
first_at j n [] p q r = absurd (omega (arith, r))
first_at zero n (m ∷ ns) p q r = absurd (omega (arith, p))
first_at (suc j) zero (m ∷ ns) p q r = absurd (omega (arith, q))
first_at (suc j) (suc n) (m ∷ ns) p q r = (m, has_here m (take j ns), has_here m (take n ns))

united_self : (x n : ℕ) → united_number (min x x) (max x x) n ≡ n
united_self x n = grind (arith, nat_tests, common_steps)

all_self : (x : ℕ) (ns : List ℕ) → joined_numbers (x ∷ []) ns ≡ ns
all_self x [] = refl
all_self x (n ∷ ns) = ap (λ m. m ∷ joined_numbers (x ∷ []) ns) (united_self x n) ∙ ap (λ ms. n ∷ ms) (all_self x ns)

-- what is known of a range of one number, at an element after its first
record IsPart (at j n p : ℕ) (ns : List ℕ) : Type 0 where
  shares : shares_part p 1 ns ≡ true
  left : after_part_event ns (ReplaceParts p 1 0) ≡ numbers_without p ns

or_false : (s : Bool) → s ≡ true → (s || false) ≡ true
or_false true e = refl
or_false false e = cc

part_at : (at j n p : ℕ) (ns : List ℕ) → p ≡ at + j → 0 < j → j < n → at + n ≤ length ns → are_one (range_of at (at + n) ns) ≡ true → IsPart at j n p ns
part_at at j n p ns e low high total one =
    let rest = drop at ns in
    let many : length rest ≡ length ns - at = length-drop at ns in
    let wide : at + n - at ≡ n = omega arith in
    let known = one_number (range_of at (at + n) ns) one in
    let alike : (k : ℕ) → Has (take n rest) k → k ≡ known.0 = λ k h. known.1 k (subst (λ (w : ℕ). Has (take w rest) k) (sym wide) h) in
    let here = item_at j n rest high (omega (arith, many, high, total)) in
    let first = first_at j n rest low (omega (arith, low, high)) (omega (arith, many, low, high, total)) in
    let gap : p + 1 - p ≡ 1 = omega arith in
    let there : drop j rest ≡ drop p ns = drop-drop j at ns ∙ ap (λ k. drop k ns) (sym e) in
    let cut : range_of p (p + 1) ns ≡ here.0 ∷ [] = ap (λ k. take k (drop p ns)) gap ∙ ap (take 1) (sym there) ∙ here.1 in
    let others = take p ns ++ drop (p + 1) ns in
    let front : Has (take p ns) first.0 = subst (λ (ms : List ℕ). Has ms first.0) (sym (take-add at j ns) ∙ ap (λ k. take k ns) (sym e)) (has_right first.0 (take at ns) (take j rest) first.1) in
    let same : first.0 ≡ here.0 = alike first.0 first.2 ∙ sym (alike here.0 here.2) in
    let kept : Has others here.0 = subst (Has others) same (has_left first.0 (take p ns) (drop (p + 1) ns) front) in
    record {
      shares = ap (list_any (has_number others)) cut ∙ or_false (has_number others here.0) kept;
      left = ap (λ s. numbers_replaced p 1 0 (joined_numbers s ns)) cut ∙ ap (numbers_replaced p 1 0) (all_self here.0 ns) ∙ removal_is p 1 ns;
    }

still_one : (at j n p : ℕ) (ns : List ℕ) → p ≡ at + j → are_one (range_of at (at + suc n) ns) ≡ true → are_one (range_of at (at + n) (numbers_without p ns)) ≡ true
still_one at j n p ns e one =
    let rest = drop at ns in
    let wide : at + suc n - at ≡ suc n = omega arith in
    let less : at + n - at ≡ n = omega arith in
    let known = one_number (range_of at (at + suc n) ns) one in
    are_one_from known.0 (range_of at (at + n) (numbers_without p ns)) (λ k h.
    let there : Has (take n (numbers_without j rest)) k = subst (λ (ms : List ℕ). Has (take n ms) k) (drop_without at j p ns e) (subst (λ (w : ℕ). Has (take w (drop at (numbers_without p ns))) k) less h) in
    known.1 k (subst (λ (w : ℕ). Has (take w rest) k) (sym wide) (has_without j n k rest there)))

without_count : (p : ℕ) (ns : List ℕ) → p < length ns → length (numbers_without p ns) ≡ length ns - 1
without_count p ns lt =
    let t = length-take p ns in
    let d = length-drop (p + 1) ns in
    let a = length-append (take p ns) (drop (p + 1) ns) in
    omega (arith, t, d, a, lt)

-- ---- one after another

all_removed : (level : BufferClusterLevel) (at gone low end : ℕ) (places ns : List ℕ) → gone ≤ low → gone < end → AreBetween low end places → at + (end - gone) ≤ length ns → are_one (range_of at (at + (end - gone)) ns) ≡ true
    → IsGiving (parts_of level (ligature_deletions at gone places)) ns
all_removed level at gone low end [] ns le lt b total one = tt
all_removed level at gone low end (i ∷ places) ns le lt b total one =
    let past : low < i = b.0 in
    let inside : i < end = b.1 in
    let p = at + i - gone in
    let place : p ≡ at + (i - gone) = omega (arith, past, le) in
    let part = part_at at (i - gone) (end - gone) p ns place (omega (arith, past, le)) (omega (arith, inside, past, le)) total one in
    let one_less : end - gone ≡ suc (end - (gone + 1)) = omega (arith, lt) in
    let still = still_one at (i - gone) (end - (gone + 1)) p ns place (ap (λ k. are_one (range_of at (at + k) ns)) (sym one_less) ∙ one) in
    let count = without_count p ns (omega (arith, place, inside, past, le, total)) in
    let rest = all_removed level at (gone + 1) i end places (numbers_without p ns) (omega (arith, past, le)) (omega (arith, past, le, inside)) b.2 (omega (arith, count, total, one_less)) still in
    (inr part.shares, subst (IsGiving (parts_of level (ligature_deletions at (gone + 1) places))) (sym part.left) rest)

joined_count : (from to : ℕ) (ns : List ℕ) → length (after_part_event ns (JoinParts from to)) ≡ length ns
joined_count from to ns = ap length (events_are_unions (JoinParts from to) ns) ∙ length-map ns (part_after_event ns (JoinParts from to))

ligature_gives : (level : BufferClusterLevel) (falls : Bool) (at end : ℕ) (places ns : List ℕ) → IsInOrder falls ns → at + end ≤ length ns → AreBetween 0 end places
    → IsGiving (parts_of level (ligature_deletions at 0 places)) (after_part_event ns (JoinParts at (at + end)))
ligature_gives level falls at end [] ns o total b = tt
ligature_gives level falls at end (i ∷ places) ns o total b =
    let mid = after_part_event ns (JoinParts at (at + end)) in
    let whole : end - 0 ≡ end = omega arith in
    let one : are_one (range_of at (at + (end - 0)) mid) ≡ true = ap (λ k. are_one (range_of at (at + k) mid)) whole ∙ ap (λ ms. are_one (range_of at (at + end) ms)) (events_are_unions (JoinParts at (at + end)) ns) ∙ merged_one at (at + end) ns (in_order falls ns o) in
    let count = joined_count at (at + end) ns in
    let past : 0 < i = b.0 in
    let inside : i < end = b.1 in
    all_removed level at 0 0 end (i ∷ places) mid (omega arith) (omega (arith, past, inside)) b (omega (arith, count, total)) one

pub ligatures_are_giving : LigaturesAreGiving
ligatures_are_giving how level falls at end places ns mono o total b = by_manner (manner how level) (moves_unite how level mono)
  where
    by_manner : (m : Manner) → IsUniting m → IsGiving (joins_of m at (at + end) ++ parts_of level (ligature_deletions at 0 places)) ns
    by_manner Unites u = (tt, ligature_gives level falls at end places ns o total b)
    by_manner Marks u = absurd u
    by_manner Keeps u = absurd u
