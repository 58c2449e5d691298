-- Lists.
use Rattle.std.proofs.Common.{◌≡◌, List, [], ◌∷◌, zero, suc, map, arith, refl, ap, ℕ, ◌+◌, ◌++◌, take, drop, sym, ◌∙◌, length, ◌<◌, get_or, add-one, append_assoc}
use Rattle.std.proofs.Math.Seq.{drop-cons}
use Rattle.std.proofs.lemmas.List.{take-map, drop-map, map-append}
use Rattle.std.specs.Prelude.{All, slice_set}

pub all_equal : {X Y : Type 0} (f g : X → Y) (xs : List X) → map f xs ≡ map g xs → All (λ x. f x ≡ g x) xs
all_equal f g [] e k d h = absurd (omega arith)
all_equal f g (x ∷ xs) e zero d h = cc
all_equal f g (x ∷ xs) e (suc k) d h = let rest : map f xs ≡ map g xs = cc in all_equal f g xs rest k d (omega arith)

pub map_kept : {X Y : Type 0} (v : X → Y) (f : X → X) (xs : List X) → ((x : X) → v (f x) ≡ v x) → map v (map f xs) ≡ map v xs
map_kept v f [] same = refl
map_kept v f (x ∷ xs) same = rw (same x, map_kept v f xs same) refl

pub others_map : (f : ℕ → ℕ) (at taken : ℕ) (ns : List ℕ) → take at (map f ns) ++ drop (at + taken) (map f ns) ≡ map f (take at ns ++ drop (at + taken) ns)
others_map f at taken ns = ap (λ xs. xs ++ drop (at + taken) (map f ns)) (take-map f at ns) ∙ ap (λ xs. map f (take at ns) ++ xs) (drop-map f (at + taken) ns) ∙ sym (map-append f (take at ns) (drop (at + taken) ns))

pub empty_by_length : {X : Type 0} (xs : List X) → length xs ≡ 0 → xs ≡ []
empty_by_length [] e = refl
empty_by_length (x ∷ xs) e = absurd (omega arith)

pub map_same : {X : Type 0} (f : X → X) (xs : List X) → ((x : X) → f x ≡ x) → map f xs ≡ xs
map_same f [] same = refl
map_same f (x ∷ xs) same = rw (same x, map_same f xs same) refl

pub drop_at : {X : Type 0} (xs : List X) (i : ℕ) (d : X) → i < length xs → drop i xs ≡ get_or xs i d ∷ drop (i + 1) xs
drop_at xs i d lt = drop-cons xs i d lt ∙ ap (λ k. get_or xs i d ∷ drop k xs) (sym (add-one i))

pub length_set : {X : Type 0} (xs : List X) (i : ℕ) (x : X) → length (slice_set xs i x) ≡ length xs
length_set [] i x = refl
length_set (y ∷ xs) zero x = refl
length_set (y ∷ xs) (suc i) x = ap suc (length_set xs i x)

pub first_equal : (m n : ℕ) (ms ns : List ℕ) → m ∷ ms ≡ n ∷ ns → m ≡ n
first_equal m n ms ns e = cc

pub rest_equal : (m n : ℕ) (ms ns : List ℕ) → m ∷ ms ≡ n ∷ ns → ms ≡ ns
rest_equal m n ms ns e = cc

pub one_done : {X : Type 0} (done rest all : List X) (x : X) → done ++ x ∷ rest ≡ all → (done ++ x ∷ []) ++ rest ≡ all
one_done done rest all x h = rw append_assoc h
