-- Lemmas on lists, for loops that walk one or write to it.
use Rattle.std.proofs.Common.{ℕ, suc, zero, ◌≡◌, ◌<◌, ◌+◌, List, [], ◌∷◌, ◌++◌, length, map, take, drop, get_or, set, arith, refl, ap, add-one, Some, slice_get, ◌∙◌}
use Rattle.std.proofs.lemmas.List.{get_or_default, drop_more, drop-drop, map-set, length-map, length-append, take-append-drop}
use Rattle.std.proofs.lemmas.Option.{get_or_from_slice_get, slice_get_within}
use Rattle.std.proofs.lemmas.List.Edits.{map_over_more}

-- the first element of what is left
pub take_one : {X : Type 0} (xs : List X) (i : ℕ) (d : X) → i < length xs → take 1 (drop i xs) ≡ get_or xs i d ∷ []
take_one xs i d lt = rw (drop_more xs i d lt) refl

take_suc : {X : Type 0} (xs : List X) (i : ℕ) → take (suc i) xs ≡ take i xs ++ take 1 (drop i xs)
take_suc [] zero = refl
take_suc [] (suc i) = refl
take_suc (x ∷ xs) zero = refl
take_suc (x ∷ xs) (suc i) = ap (λ ys. x ∷ ys) (take_suc xs i)

-- the first elements, and one more
pub take_next : {X : Type 0} (xs : List X) (i : ℕ) → take (i + 1) xs ≡ take i xs ++ take 1 (drop i xs)
take_next xs i = rw add-one (take_suc xs i)

-- all but the first of what is left
pub drop_next : {X : Type 0} (xs : List X) (i : ℕ) → drop 1 (drop i xs) ≡ drop (i + 1) xs
drop_next xs i = drop-drop 1 i xs

-- a loop that replaces each element by f of it: one step
pub map_step : {X : Type 0} (f : X → X) (xs ys : List X) (i : ℕ) (d z : X) → i < length xs → length ys ≡ length xs
    → ys ≡ map f (take i xs) ++ drop i xs → z ≡ f (get_or ys i d)
    → set ys i z ≡ map f (take (i + 1) xs) ++ drop (i + 1) xs
map_step f xs ys i d z lt len before e =
    let within : i < length ys = omega arith in
    rw e (map_over_more f xs ys i (get_or ys i d) lt before (get_or_default ys i d (get_or ys i d) within))

-- an element of a list that is seen through v
pub get_or_mapped : {X Y : Type 0} (v : X → Y) (xs : List X) (i : ℕ) (d : X) → get_or (map v xs) i (v d) ≡ v (get_or xs i d)
get_or_mapped v [] i d = refl
get_or_mapped v (x ∷ xs) zero d = refl
get_or_mapped v (x ∷ xs) (suc i) d = get_or_mapped v xs i d

-- a loop that changes by f what is seen through v of each element: the length stays
pub seen_length : {X Y : Type 0} (v : X → Y) (f : Y → Y) (ys : List Y) (xs : List X) (i : ℕ) → map v xs ≡ map f (take i ys) ++ drop i ys → length xs ≡ length ys
seen_length v f ys xs i before =
    let sides = ap length before in
    let whole = ap length (take-append-drop i ys) in
    omega (arith, sides, whole, length-map xs v, length-map (take i ys) f, length-append (map f (take i ys)) (drop i ys), length-append (take i ys) (drop i ys))

-- one step of it
pub seen_step : {X Y : Type 0} (v : X → Y) (f : Y → Y) (ys : List Y) (xs : List X) (i : ℕ) (x x' : X)
    → slice_get xs i ≡ Some x → v x' ≡ f (v x) → map v xs ≡ map f (take i ys) ++ drop i ys
    → map v (set xs i x') ≡ map f (take (i + 1) ys) ++ drop (i + 1) ys
seen_step v f ys xs i x x' at e before =
    let len = seen_length v f ys xs i before in
    let within = slice_get_within xs i x at in
    let lt : i < length ys = omega (arith, len, within) in
    let long : length (map v xs) ≡ length ys = length-map xs v ∙ len in
    let there : get_or (map v xs) i (v x) ≡ v x = get_or_mapped v xs i x ∙ ap v (get_or_from_slice_get xs i x x at) in
    rw map-set (map_step f ys (map v xs) i (v x) (v x') lt long before (rw there e))
