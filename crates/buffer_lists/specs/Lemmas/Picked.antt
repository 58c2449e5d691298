-- Elements in an order of their indices.
use Rattle.std.proofs.Common.{ℕ, ◌≡◌, ◌≤◌, ◌+◌, List, [], ◌∷◌, ◌++◌, Some, slice_get, length, take, drop, reverse, arith, refl, ap, sym, subst, ◌∙◌, append_assoc}
use Rattle.std.specs.List.{range_with_len}
use Rattle.std.proofs.lemmas.List.{drop-drop, length-append, length-drop, reverse-append}
use Rattle.buffer_glyphs.specs.Origins.{picked_elements, with_range_arranged}

-- at the indices of an order stand these elements
abbrev pub AreAt : {X : Type 0} → List X → List ℕ → List X → Type 0
AreAt all [] [] = Unit {0}
AreAt all [] (z ∷ zs) = ⊥
AreAt all (i ∷ order) [] = ⊥
AreAt all (i ∷ order) (z ∷ zs) = (slice_get all i ≡ Some z) × AreAt all order zs

picked_are : {X : Type 0} (all : List X) (order : List ℕ) (zs ys : List X) → AreAt all order zs → length order ≤ length ys → picked_elements all order ys ≡ zs ++ drop (length order) ys
picked_are all [] [] ys h le = refl
picked_are all [] (z ∷ zs) ys h le = absurd h
picked_are all (i ∷ order) [] ys h le = absurd h
picked_are all (i ∷ order) (z ∷ zs) [] h le = absurd (omega arith)
picked_are all (i ∷ order) (z ∷ zs) (y ∷ ys) h le = rw h.0 (ap (λ xs. z ∷ xs) (picked_are all order zs ys h.1 (omega (arith, le))))

-- a range of a list that stands in an order
pub arranged_as : {X : Type 0} (from : ℕ) (order : List ℕ) (zs xs : List X) → AreAt (take (length order) (drop from xs)) order zs → from + length order ≤ length xs
    → with_range_arranged from order xs ≡ take from xs ++ zs ++ drop (from + length order) xs
arranged_as from order zs xs h le =
    let few : length order ≤ length (drop from xs) = omega (arith, length-drop from xs) in
    ap (λ ys. take from xs ++ ys) (picked_are (take (length order) (drop from xs)) order zs (drop from xs) h few ∙ ap (λ ys. zs ++ ys) (drop-drop (length order) from xs))
    ∙ sym (append_assoc (take from xs) zs (drop (from + length order) xs))

pub are_both : {X : Type 0} (all : List X) (is : List ℕ) (zs : List X) (js : List ℕ) (ws : List X) → AreAt all is zs → AreAt all js ws → AreAt all (is ++ js) (zs ++ ws)
are_both all [] [] js ws h k = k
are_both all [] (z ∷ zs) js ws h k = absurd h
are_both all (i ∷ is) [] js ws h k = absurd h
are_both all (i ∷ is) (z ∷ zs) js ws h k = (h.0, are_both all is zs js ws h.1 k)

pub reversed_onto : {X : Type 0} (x : X) (xs : List X) → reverse (x ∷ xs) ≡ reverse xs ++ x ∷ []
reversed_onto x xs = reverse-append (x ∷ []) xs

pub are_reversed : {X : Type 0} (all : List X) (is : List ℕ) (zs : List X) → AreAt all is zs → AreAt all (reverse is) (reverse zs)
are_reversed all [] [] h = tt
are_reversed all [] (z ∷ zs) h = absurd h
are_reversed all (i ∷ is) [] h = absurd h
are_reversed all (i ∷ is) (z ∷ zs) h = rw (reversed_onto i is, reversed_onto z zs) (are_both all (reverse is) (reverse zs) (i ∷ []) (z ∷ []) (are_reversed all is zs h.1) (h.0, tt))

pub got_after : {X : Type 0} (front : List X) (x : X) (xs : List X) → slice_get (front ++ x ∷ xs) (length front) ≡ Some x
got_after [] x xs = refl
got_after (y ∷ ys) x xs = got_after ys x xs

-- all elements after some, at their indices
pub are_all : {X : Type 0} (front xs : List X) → AreAt (front ++ xs) (range_with_len (length front) (length xs)) xs
are_all front [] = tt
are_all front (x ∷ xs) =
    let rest = are_all (front ++ x ∷ []) xs in
    let long : length (front ++ x ∷ []) ≡ length front + 1 = length-append front (x ∷ []) in
    let at : AreAt ((front ++ x ∷ []) ++ xs) (range_with_len (length front + 1) (length xs)) xs = subst (λ n. AreAt ((front ++ x ∷ []) ++ xs) (range_with_len n (length xs)) xs) long rest in
    (got_after front x xs, subst (λ ys. AreAt ys (range_with_len (length front + 1) (length xs)) xs) (append_assoc front (x ∷ []) xs) at)
