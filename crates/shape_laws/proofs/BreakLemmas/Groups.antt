-- Groups of two lists, one after the other.
use Rattle.std.proofs.Common.{ℕ, suc, ◌≡◌, ◌<◌, ◌+◌, Bool, true, false, if◌then◌else◌, List, [], ◌∷◌, ◌++◌, length, map, arith, refl, sym, ap, subst, ◌∙◌}
use Rattle.std.proofs.lemmas.List.{map-append, length-map}
use Rattle.buffer_lists.specs.Turning.{groups, in_front}
use Rattle.buffer_lists.specs.Facts.{group_lengths}
use Rattle.shape_parts.proofs.GraphemeClusters.{lengths_mapped as many_mapped, front_mapped, groups_mapped}

-- the sum of lengths
abbrev pub total : List ℕ → ℕ
total [] = 0
total (n ∷ lens) = n + total lens

pub total_both : (ls ns : List ℕ) → total (ls ++ ns) ≡ total ls + total ns
total_both [] ns = omega arith
total_both (l ∷ ls) ns = let rest = total_both ls ns in omega (arith, rest)

-- a list with an element has a first group, which begins with it
record BeginsWith {X : Type 0} (x : X) (gs : List (List X)) : Type 0 where
  more : List X
  rest : List (List X)
  is : gs ≡ (x ∷ more) ∷ rest

front_begins : {X : Type 0} (p : X → X → Bool) (x : X) (gs : List (List X)) → BeginsWith x (in_front p x gs)
front_begins p x [] = record { more = []; rest = []; is = refl }
front_begins p x ([] ∷ gs) = record { more = []; rest = gs; is = refl }
front_begins p x ((y ∷ ys) ∷ gs) = elim (p x y) as (λ t. BeginsWith x (if t then (x ∷ y ∷ ys) ∷ gs else (x ∷ []) ∷ (y ∷ ys) ∷ gs)) [
  | true ↦ record { more = y ∷ ys; rest = gs; is = refl }
  | false ↦ record { more = []; rest = (y ∷ ys) ∷ gs; is = refl }
]

-- no element is joined to the first of a list
abbrev pub IsFree : {X : Type 0} → (X → X → Bool) → List X → Type 0
IsFree p [] = Unit {0}
IsFree {X} p (y ∷ ys) = (x : X) → p x y ≡ false

free_front : {X : Type 0} (p : X → X → Bool) (x y : X) (more : List X) (rest : List (List X)) → p x y ≡ false → in_front p x ((y ∷ more) ∷ rest) ≡ (x ∷ []) ∷ (y ∷ more) ∷ rest
free_front p x y more rest e = rw e refl

front_apart : {X : Type 0} (p : X → X → Bool) (x : X) (ys : List X) → IsFree p ys → in_front p x (groups p ys) ≡ (x ∷ []) ∷ groups p ys
front_apart p x [] free = refl
front_apart p x (y ∷ ys) free =
    let b = front_begins p y (groups p ys) in
    ap (in_front p x) b.is ∙ free_front p x y b.more b.rest (free x) ∙ ap (λ gs. (x ∷ []) ∷ gs) (sym b.is)

front_both : {X : Type 0} (p : X → X → Bool) (x : X) (gs hs : List (List X)) → in_front p x hs ≡ (x ∷ []) ∷ hs → in_front p x (gs ++ hs) ≡ in_front p x gs ++ hs
front_both p x [] hs e = e
front_both p x ([] ∷ gs) hs e = refl
front_both p x ((y ∷ ys) ∷ gs) hs e = elim (p x y) as (λ t. (if t then (x ∷ y ∷ ys) ∷ (gs ++ hs) else (x ∷ []) ∷ (y ∷ ys) ∷ (gs ++ hs)) ≡ (if t then (x ∷ y ∷ ys) ∷ gs else (x ∷ []) ∷ (y ∷ ys) ∷ gs) ++ hs) [ true ↦ refl | false ↦ refl ]

-- a list that is joined to no element before it has its own groups
pub groups_apart : {X : Type 0} (p : X → X → Bool) (xs ys : List X) → IsFree p ys → groups p (xs ++ ys) ≡ groups p xs ++ groups p ys
groups_apart p [] ys free = refl
groups_apart p (x ∷ xs) ys free = ap (in_front p x) (groups_apart p xs ys free) ∙ front_both p x (groups p xs) (groups p ys) (front_apart p x ys free)

pub lengths_apart : {X : Type 0} (p : X → X → Bool) (xs ys : List X) → IsFree p ys → group_lengths p (xs ++ ys) ≡ group_lengths p xs ++ group_lengths p ys
lengths_apart p xs ys free = ap (map (λ zs. length zs)) (groups_apart p xs ys free) ∙ map-append (λ zs. length zs) (groups p xs) (groups p ys)

-- ---- a group with elements of both lists

-- of some lengths, one reaches past an index
pub record ReachesPast (m : ℕ) (lens : List ℕ) : Type 0 where
  pub before : List ℕ
  pub here : ℕ
  pub after : List ℕ
  pub is : lens ≡ before ++ here ∷ after
  pub begins : total before < m
  pub ends : m < total before + here

-- the first length is one more
abbrev first_grown : List ℕ → List ℕ
first_grown [] = []
first_grown (n ∷ lens) = suc n ∷ lens

one_before : (m : ℕ) (lens : List ℕ) → ReachesPast m lens → ReachesPast (suc m) (1 ∷ lens)
one_before m lens g =
    let b = g.begins in
    let e = g.ends in
    record { before = 1 ∷ g.before; here = g.here; after = g.after; is = ap (λ ns. 1 ∷ ns) g.is; begins = omega (arith, b); ends = omega (arith, e) }

grown_past : (m : ℕ) (lens : List ℕ) → ReachesPast m lens → ReachesPast (suc m) (first_grown lens)
grown_past m lens g = by_list g.before refl
  where
    by_list : (before : List ℕ) → g.before ≡ before → ReachesPast (suc m) (first_grown lens)
    by_list [] e =
        let low : 0 < m = subst (λ (ns : List ℕ). total ns < m) e g.begins in
        let high : m < 0 + g.here = subst (λ (ns : List ℕ). m < total ns + g.here) e g.ends in
        record { before = []; here = suc g.here; after = g.after; is = ap first_grown (g.is ∙ ap (λ ns. ns ++ g.here ∷ g.after) e); begins = omega (arith, low); ends = omega (arith, high) }
    by_list (n ∷ before) e =
        let low : n + total before < m = subst (λ (ns : List ℕ). total ns < m) e g.begins in
        let high : m < n + total before + g.here = subst (λ (ns : List ℕ). m < total ns + g.here) e g.ends in
        record { before = suc n ∷ before; here = g.here; after = g.after; is = ap first_grown (g.is ∙ ap (λ ns. ns ++ g.here ∷ g.after) e); begins = omega (arith, low); ends = omega (arith, high) }

front_past : {X : Type 0} (p : X → X → Bool) (x z : X) (more : List X) (rest : List (List X)) (m : ℕ) → ReachesPast m (map (λ zs. length zs) ((z ∷ more) ∷ rest)) → ReachesPast (suc m) (map (λ zs. length zs) (in_front p x ((z ∷ more) ∷ rest)))
front_past p x z more rest m g = elim (p x z) as (λ t. ReachesPast (suc m) (map (λ zs. length zs) (if t then (x ∷ z ∷ more) ∷ rest else (x ∷ []) ∷ (z ∷ more) ∷ rest))) [
  | true ↦ grown_past m (map (λ zs. length zs) ((z ∷ more) ∷ rest)) g
  | false ↦ one_before m (map (λ zs. length zs) ((z ∷ more) ∷ rest)) g
]

joined_front : {X : Type 0} (p : X → X → Bool) (x y : X) (more : List X) (rest : List (List X)) → p x y ≡ true → ReachesPast 1 (map (λ zs. length zs) (in_front p x ((y ∷ more) ∷ rest)))
joined_front p x y more rest e =
    subst (λ (t : Bool). ReachesPast 1 (map (λ zs. length zs) (if t then (x ∷ y ∷ more) ∷ rest else (x ∷ []) ∷ (y ∷ more) ∷ rest))) (sym e)
    (record { before = []; here = suc (suc (length more)); after = map (λ zs. length zs) rest; is = refl; begins = omega arith; ends = omega arith })

-- a list whose first element is joined to each before it shares a group with a list before it
pub groups_reach_past : {X : Type 0} (p : X → X → Bool) (x : X) (xs : List X) (y : X) (ys : List X) → ((z : X) → p z y ≡ true) → ReachesPast (length (x ∷ xs)) (group_lengths p ((x ∷ xs) ++ y ∷ ys))
groups_reach_past p x [] y ys joined =
    let b = front_begins p y (groups p ys) in
    subst (λ gs. ReachesPast 1 (map (λ zs. length zs) (in_front p x gs))) (sym b.is) (joined_front p x y b.more b.rest (joined x))
groups_reach_past p x (z ∷ xs) y ys joined =
    let b = front_begins p z (groups p (xs ++ y ∷ ys)) in
    let rest = groups_reach_past p z xs y ys joined in
    subst (λ gs. ReachesPast (length (x ∷ z ∷ xs)) (map (λ zs. length zs) (in_front p x gs))) (sym b.is)
    (front_past p x z b.more b.rest (length (z ∷ xs)) (subst (λ gs. ReachesPast (length (z ∷ xs)) (map (λ zs. length zs) gs)) b.is rest))

-- ---- all elements are in groups

front_total : {X : Type 0} (p : X → X → Bool) (x : X) (gs : List (List X)) → total (map (λ zs. length zs) (in_front p x gs)) ≡ suc (total (map (λ zs. length zs) gs))
front_total p x [] = omega arith
front_total p x ([] ∷ gs) = omega arith
front_total p x ((y ∷ ys) ∷ gs) = elim (p x y) as (λ t. total (map (λ zs. length zs) (if t then (x ∷ y ∷ ys) ∷ gs else (x ∷ []) ∷ (y ∷ ys) ∷ gs)) ≡ suc (total (map (λ zs. length zs) ((y ∷ ys) ∷ gs)))) [ true ↦ omega arith | false ↦ omega arith ]

pub groups_are_all : {X : Type 0} (p : X → X → Bool) (xs : List X) → total (group_lengths p xs) ≡ length xs
groups_are_all p [] = refl
groups_are_all p (x ∷ xs) = front_total p x (groups p xs) ∙ ap suc (groups_are_all p xs)

-- ---- groups of what is changed

-- a change of elements that joins none and parts none leaves the lengths of groups
pub lengths_mapped : {X : Type 0} (p : X → X → Bool) (g : X → X) → ((a b : X) → p (g a) (g b) ≡ p a b) → (xs : List X) → group_lengths p (map g xs) ≡ group_lengths p xs
lengths_mapped p g same xs = ap (map (λ ys. length ys)) (groups_mapped p g same xs) ∙ many_mapped g (groups p xs)
