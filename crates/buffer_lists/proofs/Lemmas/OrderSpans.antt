-- Each index of an order by keys stays within its span.
use Rattle.std.specs.List.{All, list_all, range_with_len}
use Rattle.std.proofs.Common.{ℕ, suc, zero, ◌≡◌, ◌≤◌, ◌<◌, ◌+◌, ◌-◌, nat_lt, true, false, List, [], ◌∷◌, ◌++◌, Some, slice_get, length, take, drop, arith, refl, ap, sym, subst, ◌∙◌}
use Rattle.std.specs.Prelude.{slice_index_or}
use Rattle.std.proofs.lemmas.Bool.Decides.{nat_tests}
use Rattle.std.proofs.lemmas.List.{length-take-le, take-append-drop}
use Rattle.std.proofs.lemmas.List.Elements.{All-nil, All-cons, All-head, All-tail, All-weaker}
use Rattle.std.proofs.lemmas.List.FromFn.{length-range_with_len}
use Rattle.std.proofs.lemmas.Option.{slice_get_within}
use Rattle.buffer_rows.specs.KeyOrder.{by_key, key_bound}
use Rattle.buffer_glyphs.specs.Origins.{is_seam}
use Rattle.buffer_glyphs.specs.Events.{StaysInSpans}
use Rattle.buffer_lists.specs.Events.{order_of}
use Rattle.buffer_lists.specs.Laws.{EventsArePlain}
use Rattle.buffer_lists.proofs.Lemmas.DeletedEvents.{deletions_are_plain}
use Rattle.buffer_lists.proofs.Lemmas.ReversedEvents.{groups_are_plain}
use Rattle.buffer_lists.specs.Lemmas.KeyOrder.{all_below, all_by_key, all_in_order, all_left, seam_cuts, test_from_all}
use Rattle.buffer_lists.proofs.Lemmas.SortedEvents.{order_length}

indices_below : (a n m : ℕ) → a + n ≤ m → All (λ j. nat_lt j m ≡ true) (range_with_len a n)
indices_below a zero m le = All-nil (λ j. nat_lt j m ≡ true)
indices_below a (suc n) m le = All-cons (λ j. nat_lt j m ≡ true) a (range_with_len (a + 1) n) (grind (arith, nat_tests)) (indices_below (a + 1) n m (omega arith))

indices_from : (a n m : ℕ) → m ≤ a → All (λ j. m ≤ j) (range_with_len a n)
indices_from a zero m le = All-nil (λ j. m ≤ j)
indices_from a (suc n) m le = All-cons (λ j. m ≤ j) a (range_with_len (a + 1) n) le (indices_from (a + 1) n m (omega arith))

indices_cut : (a k n : ℕ) → range_with_len a (k + n) ≡ range_with_len a k ++ range_with_len (a + k) n
indices_cut a zero n = let none : a + 0 ≡ a = omega arith in let same : 0 + n ≡ n = omega arith in rw (none, same) refl
indices_cut a (suc k) n =
    let more : suc k + n ≡ suc (k + n) = omega arith in
    let there : a + 1 + k ≡ a + suc k = omega arith in
    ap (range_with_len a) more ∙ ap (λ is. a ∷ is) (indices_cut (a + 1) k n ∙ ap (λ b. range_with_len (a + 1) k ++ range_with_len b n) there)

got_among : (P : ℕ → Type 0) (is : List ℕ) (i j : ℕ) → All P is → slice_get is i ≡ Some j → P j
got_among P [] i j h e = cc
got_among P (k ∷ is) zero j h e = let same : k ≡ j = cc in subst P same (All-head P k is h)
got_among P (k ∷ is) (suc i) j h e = got_among P is i j (All-tail P k is h) e

got_after : (k : ℕ) (is : List ℕ) (i : ℕ) → slice_get (drop k is) i ≡ slice_get is (k + i)
got_after zero is i = ap (slice_get is) (omega arith)
got_after (suc k) [] i = refl
got_after (suc k) (x ∷ is) i = let there : suc k + i ≡ suc (k + i) = omega arith in got_after k is i ∙ ap (slice_get (x ∷ is)) (sym there)

-- after a seam stand the indices from it on
after_seam : (keys : List ℕ) (k : ℕ) → k ≤ length keys → is_seam (order_of keys) k ≡ true → All (λ j. k ≤ j) (drop k (order_of keys))
after_seam keys k le seam =
    let key : ℕ → ℕ = λ i. slice_index_or keys i 0 in
    let n = length keys - k in
    let order = order_of keys in
    let indices = range_with_len 0 (length keys) in
    let front = range_with_len 0 k in
    let back = range_with_len k n in
    let bound = key_bound key indices in
    let split : k + n ≡ length keys = omega arith in
    let here : 0 + k ≡ k = omega arith in
    let cut : indices ≡ front ++ back = ap (range_with_len 0) (sym split) ∙ indices_cut 0 k n ∙ ap (λ a. front ++ range_with_len a n) here in
    let long : length (take k order) ≡ length front = length-take-le k order (omega (arith, order_length keys, le)) ∙ sym (length-range_with_len 0 k) in
    let below : All (λ i. key i < bound) front = all_left (λ i. key i < bound) front back (subst (All (λ i. key i < bound)) cut (all_below key bound indices (omega arith))) in
    let picked = indices_below 0 k k (omega arith) in
    let other = All-weaker (λ j. k ≤ j) (λ j. nat_lt j k ≡ false) (λ j h. grind (arith, nat_tests)) back (indices_from k n k (omega arith)) in
    let whole : by_key key bound (front ++ back) ≡ take k order ++ drop k order = ap (by_key key bound) (sym cut) ∙ sym (take-append-drop k order) in
    let parts = seam_cuts key bound (λ j. nat_lt j k) front back (take k order) (drop k order) below picked other whole long seam in
    subst (All (λ j. k ≤ j)) (sym parts.1) (all_by_key (λ j. k ≤ j) key bound back (indices_from k n k (omega arith)))

all_inside : (keys : List ℕ) → is_seam (order_of keys) (length (order_of keys)) ≡ true
all_inside keys =
    let order = order_of keys in
    let many = order_length keys in
    let inside : All (λ j. nat_lt j (length keys) ≡ true) order = all_in_order (λ j. nat_lt j (length keys) ≡ true) (λ i. slice_index_or keys i 0) (range_with_len 0 (length keys)) (indices_below 0 (length keys) (length keys) (omega arith)) in
    let all : take (length order) order ≡ order = taken_all order in
    ap (list_all (λ j. nat_lt j (length order))) all ∙ ap (λ n. list_all (λ j. nat_lt j n) order) many ∙ test_from_all (λ j. nat_lt j (length keys)) order inside
  where
    taken_all : (is : List ℕ) → take (length is) is ≡ is
    taken_all [] = refl
    taken_all (i ∷ is) = ap (λ js. i ∷ js) (taken_all is)

pub order_stays : (keys : List ℕ) → StaysInSpans (order_of keys)
order_stays keys = record { whole = all_inside keys; stays = stays }
  where
    stays : (i j k : ℕ) → slice_get (order_of keys) i ≡ Some j → is_seam (order_of keys) k ≡ true → k ≤ i → k ≤ j
    stays i j k at seam le =
        let lt = slice_get_within (order_of keys) i j at in
        let there : k + (i - k) ≡ i = omega arith in
        got_among (λ m. k ≤ m) (drop k (order_of keys)) (i - k) j (after_seam keys k (omega (arith, lt, order_length keys, le)) seam) (got_after k (order_of keys) (i - k) ∙ ap (slice_get (order_of keys)) there ∙ at)

pub events_are_plain : EventsArePlain
events_are_plain q joins xs at keys = (deletions_are_plain q 0 xs, groups_are_plain joins xs, (order_stays keys, tt))
