-- In order, a deletion is the event.
use Rattle.std.proofs.Common.{ℕ, ◌≡◌, ◌≢◌, ◌≤◌, ◌<◌, ◌+◌, ◌-◌, ◌==◌, ◌&&◌, ◌||◌, nat_lt, ◌⊎◌, inl, inr, Bool, true, false, min, max, if◌then◌else◌, List, [], ◌∷◌, ◌++◌, Option, Some, None, map, take, drop, length, arith, refl, ap, subst, sym, ◌∙◌}
use Rattle.std.specs.List.{list_all}
use Rattle.std.proofs.lemmas.Bool.Decides.{nat_tests}
use Rattle.std.proofs.lemmas.Grind.{common_steps}
use Rattle.std.proofs.lemmas.List.{drop-drop, take-map, drop-map, map-append, map-id}
use Rattle.std.proofs.lemmas.Option.{slice_get-get_or}
use Rattle.buffer_glyphs.specs.declared.level.BufferClusterLevel.{BufferClusterLevel}
use Rattle.buffer_glyphs.specs.Parts.{range_of, united_number, united_numbers, last_from, first_of, last_of, is_number, with_neighbour, numbers_united_if_last, numbers_united_without, before_deletion, numbers_without}
use Rattle.buffer_glyphs.specs.Order.{IsChain, IsInOrder, BringsNone}
use Rattle.buffer_glyphs.specs.Deletions.{end_renumbered, numbers_deleted_alone, number_deleted}
use Rattle.buffer_glyphs.specs.Merges.{merged_numbers, numbers_merged_as, numbers_merged_at}
use Rattle.buffer_glyphs.specs.Levels.{InList, IsMonotone, IsUniting, Manner, Unites, Marks, Keeps, manner}
use Rattle.buffer_glyphs.specs.Laws.{DeletionIsEvent}
use Rattle.buffer_glyphs.specs.Lemmas.Drawn.{last_more}
use Rattle.buffer_glyphs.specs.Lemmas.Ends.{from_first, to_last}
use Rattle.buffer_glyphs.specs.Lemmas.Parts.{Stands, stands_self}
use Rattle.buffer_glyphs.specs.Lemmas.Merges.{outside, chain_across, chain_left, chain_right, stands_chain, map_alike, merge_is_join, merged_at_brings}
use Rattle.buffer_glyphs.specs.Lemmas.Numbers.{Has, has_here, has_more, has_cases, has_left, has_right, has_either, has_drop, has_map, has_last_from}
use Rattle.buffer_facts.proofs.Truth.{neither_true as or_none}

pub no_first : (ns : List ℕ) → first_of ns ≡ None → ns ≡ []
no_first [] e = refl
no_first (n ∷ ns) e = cc

pub no_last : (ns : List ℕ) → last_of ns ≡ None → ns ≡ []
no_last [] e = refl
no_last (n ∷ ns) e =
    let within : length (n ∷ ns) - 1 < length (n ∷ ns) = omega arith in
    let there = slice_get-get_or (n ∷ ns) (length (n ∷ ns) - 1) n within in
    cc

pub without_map : (f : ℕ → ℕ) (at : ℕ) (ns : List ℕ) → numbers_without at (map f ns) ≡ map f (numbers_without at ns)
without_map f at ns = rw (take-map f at ns, drop-map f (at + 1) ns) (sym (map-append f (take at ns) (drop (at + 1) ns)))

pub last_is : (x : ℕ) (xs : List ℕ) → last_of (x ∷ xs) ≡ Some (last_from x xs)
last_is x [] = refl
last_is x (y ∷ ys) = last_more x y ys ∙ last_is y ys

take_front : (xs ys : List ℕ) → take (length xs) (xs ++ ys) ≡ xs
take_front [] ys = refl
take_front (x ∷ xs) ys = ap (λ zs. x ∷ zs) (take_front xs ys)

drop_front : (xs ys : List ℕ) → drop (length xs) (xs ++ ys) ≡ ys
drop_front [] ys = refl
drop_front (x ∷ xs) ys = drop_front xs ys

beyond_front : (front : List ℕ) (n : ℕ) (back : List ℕ) → drop (length front + 1) (front ++ n ∷ back) ≡ back
beyond_front front n back = sym (drop-drop 1 (length front) (front ++ n ∷ back)) ∙ ap (drop 1) (drop_front front (n ∷ back))

rest_of : (front : List ℕ) (n : ℕ) (back : List ℕ) → numbers_without (length front) (front ++ n ∷ back) ≡ front ++ back
rest_of front n back = rw (take_front front (n ∷ back), beyond_front front n back) refl

left_is : (front : List ℕ) (n : ℕ) (back : List ℕ) → before_deletion (length front) (front ++ n ∷ back) ≡ numbers_united_if_last (last_of front) (first_of back) n (front ++ n ∷ back)
left_is front n back =
    let ns = front ++ n ∷ back in
    ap (λ ms. numbers_united_without (last_of ms) (first_of (drop (length front) ns)) (first_of (drop (length front + 1) ns)) ns) (take_front front (n ∷ back))
    ∙ ap (λ ms. numbers_united_without (last_of front) (first_of ms) (first_of (drop (length front + 1) ns)) ns) (drop_front front (n ∷ back))
    ∙ ap (λ ms. numbers_united_without (last_of front) (Some n) (first_of ms) ns) (beyond_front front n back)

-- numbers p, and no other
all_same : (p : ℕ) (ns : List ℕ) → ((k : ℕ) → Has ns k → k ≡ p) → list_all (λ k. k == p) ns ≡ true
all_same p [] same = refl
all_same p (n ∷ ns) same =
    let first : (n == p) ≡ true = (let e = same n (has_here n ns) in grind (arith, common_steps, e)) in
    let rest = all_same p ns (λ k h. same k (has_more n k ns h)) in
    rw (first, rest) refl

same_all : (p k : ℕ) (ns : List ℕ) → list_all (λ k. k == p) ns ≡ true → Has ns k → k ≡ p
same_all p k [] e h = cc
same_all p k (n ∷ ns) e h =
    let both = and_cases (n == p) (list_all (λ j. j == p) ns) e in
    let first : n ≡ p = (let t = both.0 in grind (arith, common_steps, t)) in
    elim (has_cases n k ns h) [ inl same ↦ sym same ∙ first | inr later ↦ same_all p k ns both.1 later ]
  where
    and_cases : (s t : Bool) → (s && t) ≡ true → (s ≡ true) × (t ≡ true)
    and_cases true t a = (refl, a)
    and_cases false t a = cc

united_high : (p n : ℕ) → n ≤ p → n ≡ united_number (min p n) (max p n) p
united_high p n le = grind (arith, nat_tests, common_steps)

united_low : (p n k : ℕ) → p ≤ n → k ≤ p → united_number (min p n) (max p n) k ≡ k
united_low p n k le h = grind (arith, nat_tests, common_steps)

-- in a falling list that ends in p, a union with a lesser n changes the p at the end
end_united : (p n : ℕ) (ns : List ℕ) → n ≤ p → IsChain (Stands true) ns → ((k : ℕ) → Has ns k → p ≤ k) → end_renumbered p n ns ≡ map (united_number (min p n) (max p n)) ns
end_united p n [] le o low = refl
end_united p n (m ∷ ms) le o low = by_test (list_all (λ k. k == p) (m ∷ ms)) refl (end_united p n ms le o.1 (λ k h. low k (has_more m k ms h)))
  where
    not_all : list_all (λ k. k == p) (m ∷ ms) ≡ false → m ≢ p
    not_all e same =
        let all : list_all (λ k. k == p) (m ∷ ms) ≡ true = all_same p (m ∷ ms) (λ k h. let under : k ≤ m = from_first (Stands true) (stands_self true) m k ms o.0 h in omega (arith, under, same, low k h)) in
        let bad : true ≡ false = sym all ∙ e in
        cc

    by_test : (t : Bool) → list_all (λ k. k == p) (m ∷ ms) ≡ t → end_renumbered p n ms ≡ map (united_number (min p n) (max p n)) ms
        → (if t then map (λ (k : ℕ). n) (m ∷ ms) else m ∷ end_renumbered p n ms) ≡ map (united_number (min p n) (max p n)) (m ∷ ms)
    by_test true e later = map_alike (λ k. n) (united_number (min p n) (max p n)) (m ∷ ms) (λ k h. united_high p n le ∙ ap (united_number (min p n) (max p n)) (sym (same_all p k (m ∷ ms) e h)))
    by_test false e later =
        let first : m ≡ united_number (min p n) (max p n) m = sym (outside true p n m le (inl (low m (has_here m ms), not_all e))) in
        ap (λ j. j ∷ end_renumbered p n ms) first ∙ ap (λ js. united_number (min p n) (max p n) m ∷ js) later

-- the front, where p is its last number and n comes next
front_united : (falls : Bool) (p n : ℕ) (front : List ℕ) → IsChain (Stands falls) front → ((k : ℕ) → Has front k → Stands falls k p) → Stands falls p n → p ≢ n
    → (if nat_lt n p then end_renumbered p n front else front) ≡ map (united_number (min p n) (max p n)) front
front_united false p n front o low le ne =
    let test : nat_lt n p ≡ false = grind (arith, nat_tests, common_steps) in
    rw test (sym (map_alike (united_number (min p n) (max p n)) (λ k. k) front (λ k h. united_low p n k le (low k h)) ∙ map-id front))
front_united true p n front o low le ne =
    let test : nat_lt n p ≡ true = grind (arith, nat_tests, common_steps) in
    rw test (end_united p n front le o low)

-- what comes after n stays as it is
back_united : (falls : Bool) (p n : ℕ) (back : List ℕ) → Stands falls p n → ((k : ℕ) → Has back k → Stands falls n k × k ≢ n) → back ≡ map (united_number (min p n) (max p n)) back
back_united falls p n back le far = sym (map_alike (united_number (min p n) (max p n)) (λ k. k) back (λ k h. outside falls p n k le (inr (far k h))) ∙ map-id back)

stands_both : (falls : Bool) (m n : ℕ) → Stands falls m n → Stands falls n m → m ≡ n
stands_both false m n h k = omega arith
stands_both true m n h k = omega arith

not_number : (o : Option ℕ) (m n : ℕ) → o ≡ Some m → is_number o n ≡ false → m ≢ n
not_number o m n e off same = let yes : is_number o n ≡ true = rw (e, same) (grind (arith, common_steps)) in let bad : true ≡ false = sym yes ∙ off in cc

-- a number after n is another where the next is
back_differs : (falls : Bool) (n k : ℕ) (back : List ℕ) → IsChain (Stands falls) (n ∷ back) → is_number (first_of back) n ≡ false → Has back k → Stands falls n k × k ≢ n
back_differs falls n k [] o off h = cc
back_differs falls n k (q ∷ qs) o off h =
    let after = from_first (Stands falls) (stands_self falls) n k (q ∷ qs) o.0 (has_more n k (q ∷ qs) h) in
    (after, λ same. not_number (Some q) q n refl off (stands_both falls q n (let later = from_first (Stands falls) (stands_self falls) q k qs o.1.0 h in subst (Stands falls q) same later) o.0.0))

without_united : (front : List ℕ) (f : ℕ → ℕ) (n : ℕ) (back : List ℕ) → numbers_without (length front) (map f (front ++ n ∷ back)) ≡ map f front ++ map f back
without_united front f n back = without_map f (length front) (front ++ n ∷ back) ∙ ap (map f) (rest_of front n back) ∙ map-append f front back

-- the last number of the front, and n
alone_after : (level : BufferClusterLevel) (falls : Bool) (p : ℕ) (front : List ℕ) (n : ℕ) (back : List ℕ) → IsChain (Stands falls) (front ++ n ∷ back) → last_of front ≡ Some p → is_number (Some p) n ≡ false → is_number (first_of back) n ≡ false
    → numbers_deleted_alone level (Some p) front n back ≡ numbers_without (length front) (united_numbers p n (front ++ n ∷ back))
alone_after level falls p [] n back o last off next = cc
alone_after level falls p (x ∷ xs) n back o last off next =
    let R = Stands falls in
    let front = x ∷ xs in
    let f = united_number (min p n) (max p n) in
    let is : last_from x xs ≡ p = some_is (sym (last_is x xs) ∙ last) in
    let near = chain_left R front (n ∷ back) o in
    let low : (k : ℕ) → Has front k → Stands falls k p = λ k h. subst (R k) is (to_last R (stands_self falls) x k xs near h) in
    let le : Stands falls p n = chain_across R p n front (n ∷ back) o (subst (Has front) is (has_last_from x xs)) (has_here n back) in
    let ends = front_united falls p n front near low le (not_number (Some p) p n refl off) in
    let rest = back_united falls p n back le (λ k h. back_differs falls n k back (chain_right R front (n ∷ back) o) next h) in
    ap (λ ms. ms ++ back) ends ∙ ap (λ ms. map f front ++ ms) rest ∙ sym (without_united front f n back)
  where
    some_is : {a b : ℕ} → Some a ≡ Some b → a ≡ b
    some_is e = cc

first_merged : (falls : Bool) (n : ℕ) (back : List ℕ) → IsInOrder falls (n ∷ back) → drop 1 (merged_numbers (range_of 0 2 (n ∷ back)) (n ∷ back)) ≡ numbers_without 0 (with_neighbour None (first_of back) n (n ∷ back))
first_merged falls n [] o = refl
first_merged falls n (q ∷ qs) o = ap (drop 1) (merge_is_join falls [] (n ∷ q ∷ []) qs o)

-- nothing is before n
alone_first : (level : BufferClusterLevel) (falls : Bool) (front : List ℕ) (n : ℕ) (back : List ℕ) → IsMonotone level → IsInOrder falls (front ++ n ∷ back) → last_of front ≡ None
    → numbers_deleted_alone level None front n back ≡ numbers_without (length front) (with_neighbour None (first_of back) n (front ++ n ∷ back))
alone_first level falls [] n back mono o last = by_manner (manner InList level) mono
  where
    by_manner : (m : Manner) → IsUniting m → drop 1 (numbers_merged_as m 0 2 (n ∷ back)) ≡ numbers_without 0 (with_neighbour None (first_of back) n (n ∷ back))
    by_manner Unites u = first_merged falls n back o
    by_manner Marks u = absurd u
    by_manner Keeps u = absurd u
alone_first level falls (x ∷ xs) n back mono o last = let none = no_last (x ∷ xs) last in cc

alone : (level : BufferClusterLevel) (falls : Bool) (before : Option ℕ) (front : List ℕ) (n : ℕ) (back : List ℕ) → IsMonotone level → IsInOrder falls (front ++ n ∷ back) → last_of front ≡ before → is_number before n ≡ false → is_number (first_of back) n ≡ false
    → numbers_deleted_alone level before front n back ≡ numbers_without (length front) (with_neighbour before (first_of back) n (front ++ n ∷ back))
alone level falls None front n back mono o last off next = alone_first level falls front n back mono o last
alone level falls (Some p) front n back mono o last off next = alone_after level falls p front n back (stands_chain falls (front ++ n ∷ back) o) last off next

by_neighbours : (level : BufferClusterLevel) (falls : Bool) (front : List ℕ) (n : ℕ) (back : List ℕ) → IsMonotone level → IsInOrder falls (front ++ n ∷ back) → (t : Bool) → (is_number (last_of front) n || is_number (first_of back) n) ≡ t
    → (if t then front ++ back else numbers_deleted_alone level (last_of front) front n back) ≡ numbers_without (length front) (if t then front ++ n ∷ back else with_neighbour (last_of front) (first_of back) n (front ++ n ∷ back))
by_neighbours level falls front n back mono o true e = sym (rest_of front n back)
by_neighbours level falls front n back mono o false e =
    let off = or_none (is_number (last_of front) n) (is_number (first_of back) n) e in
    alone level falls (last_of front) front n back mono o refl off.0 off.1

pub deletion_is_event : DeletionIsEvent
deletion_is_event level falls front n back mono o =
    by_neighbours level falls front n back mono o (is_number (last_of front) n || is_number (first_of back) n) refl ∙ ap (numbers_without (length front)) (sym (left_is front n back))

end_brings : (p n k : ℕ) (ns : List ℕ) → Has (end_renumbered p n ns) k → (n ≡ k) ⊎ Has ns k
end_brings p n k [] h = inr h
end_brings p n k (m ∷ ms) h = by_test (list_all (λ j. j == p) (m ∷ ms)) (end_brings p n k ms) h
  where
    by_test : (t : Bool) → (Has (end_renumbered p n ms) k → (n ≡ k) ⊎ Has ms k) → Has (if t then map (λ (j : ℕ). n) (m ∷ ms) else m ∷ end_renumbered p n ms) k → (n ≡ k) ⊎ Has (m ∷ ms) k
    by_test true later g = inl (has_map (λ j. n) k (m ∷ ms) g).2
    by_test false later g = elim (has_cases m k (end_renumbered p n ms) g) [
      | inl e ↦ inr (subst (Has (m ∷ ms)) e (has_here m ms))
      | inr there ↦ elim (later there) [ inl e ↦ inl e | inr old ↦ inr (has_more m k ms old) ]
    ]

rest_brings : (front : List ℕ) (n : ℕ) (back : List ℕ) → BringsNone (front ++ n ∷ back) (front ++ back)
rest_brings front n back k h = elim (has_either k front back h) [
  | inl there ↦ has_left k front (n ∷ back) there
  | inr beyond ↦ has_right k front (n ∷ back) (has_more n k back beyond)
]

alone_brings : (level : BufferClusterLevel) (before : Option ℕ) (front : List ℕ) (n : ℕ) (back : List ℕ) → BringsNone (front ++ n ∷ back) (numbers_deleted_alone level before front n back)
alone_brings level None front n back k h = elim (has_either k front (drop 1 (numbers_merged_at level 0 2 (n ∷ back))) h) [
  | inl there ↦ has_left k front (n ∷ back) there
  | inr beyond ↦ has_right k front (n ∷ back) (merged_at_brings level 0 2 (n ∷ back) k (has_drop k 1 (numbers_merged_at level 0 2 (n ∷ back)) beyond))
]
alone_brings level (Some p) front n back k h = by_test (nat_lt n p) h
  where
    by_test : (t : Bool) → Has ((if t then end_renumbered p n front else front) ++ back) k → Has (front ++ n ∷ back) k
    by_test false g = rest_brings front n back k g
    by_test true g = elim (has_either k (end_renumbered p n front) back g) [
      | inl there ↦ elim (end_brings p n k front there) [
        | inl e ↦ subst (Has (front ++ n ∷ back)) e (has_right n front (n ∷ back) (has_here n back))
        | inr old ↦ has_left k front (n ∷ back) old
      ]
      | inr beyond ↦ has_right k front (n ∷ back) (has_more n k back beyond)
    ]

-- a deletion brings no number
pub deletion_brings_none : (level : BufferClusterLevel) (front : List ℕ) (n : ℕ) (back : List ℕ) → BringsNone (front ++ n ∷ back) (number_deleted level front n back)
deletion_brings_none level front n back k h = by_test (is_number (last_of front) n || is_number (first_of back) n) h
  where
    by_test : (t : Bool) → Has (if t then front ++ back else numbers_deleted_alone level (last_of front) front n back) k → Has (front ++ n ∷ back) k
    by_test true g = rest_brings front n back k g
    by_test false g = alone_brings level (last_of front) front n back k g
