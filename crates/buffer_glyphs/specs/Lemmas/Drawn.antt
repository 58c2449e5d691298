-- Lists that are drawn from another: some of its elements are left out, and others repeated.
use Rattle.std.proofs.Common.{ℕ, zero, suc, ◌≡◌, ◌+◌, ◌-◌, List, [], ◌∷◌, ◌++◌, take, drop, replicate, length, refl, arith, ap, sym, ◌∙◌, append_assoc}
use Rattle.std.proofs.lemmas.List.{append-nil, drop-drop, take-append-drop}
use Rattle.std.proofs.Math.Seq.{drop-nil}
use Rattle.buffer_glyphs.specs.Parts.{first_of, last_of, or, copies, numbers_replaced, numbers_without}
use Rattle.buffer_glyphs.specs.Order.{AllFrom, IsChain}

pub data IsDrawn : (xs ys : List ℕ) → Type 0 where
  nothing : (xs : List ℕ) → IsDrawn xs []
  past : (x : ℕ) (xs ys : List ℕ) → IsDrawn xs ys → IsDrawn (x ∷ xs) ys
  kept : (x : ℕ) (xs ys : List ℕ) → IsDrawn (x ∷ xs) ys → IsDrawn (x ∷ xs) (x ∷ ys)

all_drawn : (R : ℕ → ℕ → Type 0) (m : ℕ) {xs ys : List ℕ} → IsDrawn xs ys → AllFrom R m xs → AllFrom R m ys
all_drawn R m (nothing xs) h = tt
all_drawn R m (past x xs ys d) h = all_drawn R m d h.1
all_drawn R m (kept x xs ys d) h = (h.0, all_drawn R m d h)

-- a list that is drawn from a chain is a chain
pub chain_drawn : (R : ℕ → ℕ → Type 0) → ((x : ℕ) → R x x) → {xs ys : List ℕ} → IsDrawn xs ys → IsChain R xs → IsChain R ys
chain_drawn R same (nothing xs) h = tt
chain_drawn R same (past x xs ys d) h = chain_drawn R same d h.1
chain_drawn R same (kept x xs ys d) h = (all_drawn R x d (same x, h.0), chain_drawn R same d h)

drawn_self : (xs : List ℕ) → IsDrawn xs xs
drawn_self [] = nothing []
drawn_self (x ∷ xs) = kept x xs xs (past x xs xs (drawn_self xs))

pub drawn_drop : (n : ℕ) (xs : List ℕ) → IsDrawn xs (drop n xs)
drawn_drop zero xs = drawn_self xs
drawn_drop (suc n) [] = nothing []
drawn_drop (suc n) (x ∷ xs) = past x xs (drop n xs) (drawn_drop n xs)

-- after the first elements comes what is drawn from the rest
drawn_after : (at : ℕ) (xs ys : List ℕ) → IsDrawn (drop at xs) ys → IsDrawn xs (take at xs ++ ys)
drawn_after zero xs ys d = d
drawn_after (suc at) [] ys d = d
drawn_after (suc at) (x ∷ xs) ys d = kept x xs (take at xs ++ ys) (past x xs (take at xs ++ ys) (drawn_after at xs ys d))

-- what is drawn from the second of two lists
pub drawn_second : (xs : List ℕ) {ys zs : List ℕ} → IsDrawn ys zs → IsDrawn (xs ++ ys) (xs ++ zs)
drawn_second [] d = d
drawn_second (x ∷ xs) d = kept x _ _ (past x _ _ (drawn_second xs d))

pub drawn_take : (n : ℕ) (xs : List ℕ) → IsDrawn xs (take n xs)
drawn_take n xs = let front = drawn_after n xs [] (nothing (drop n xs)) in rw append-nil at front

drawn_copies : (n x : ℕ) (xs ys : List ℕ) → IsDrawn (x ∷ xs) ys → IsDrawn (x ∷ xs) (replicate n x ++ ys)
drawn_copies zero x xs ys d = d
drawn_copies (suc n) x xs ys d = kept x xs (replicate n x ++ ys) (drawn_copies n x xs ys d)

-- copies of the first element, and the rest from some element on
drawn_copied : (given gone : ℕ) (xs : List ℕ) → IsDrawn xs (copies given (first_of xs) ++ drop gone xs)
drawn_copied given gone [] = drawn_drop gone []
drawn_copied given gone (x ∷ xs) = drawn_copies given x xs (drop gone (x ∷ xs)) (drawn_drop gone (x ∷ xs))

pub last_more : (x y : ℕ) (ys : List ℕ) → last_of (x ∷ y ∷ ys) ≡ last_of (y ∷ ys)
last_more x y ys =
    let here : suc (suc (length ys)) - 1 ≡ suc (length ys) = omega arith in
    let there : suc (length ys) - 1 ≡ length ys = omega arith in
    rw (here, there) refl

-- a list, and copies of its last element
drawn_last : (n : ℕ) (xs : List ℕ) → IsDrawn xs (xs ++ copies n (last_of xs))
drawn_last n [] = nothing []
drawn_last n (x ∷ []) = kept x [] (replicate n x) (let copied = drawn_copies n x [] [] (nothing (x ∷ [])) in rw append-nil at copied)
drawn_last n (x ∷ y ∷ ys) = rw last_more (kept x (y ∷ ys) _ (past x (y ∷ ys) _ (drawn_last n (y ∷ ys))))

replaced_at : (at given gone : ℕ) (xs rest : List ℕ) → drop at xs ≡ rest → IsDrawn xs (take at xs ++ copies given (or (first_of rest) (last_of (take at xs))) ++ drop gone rest)
replaced_at at given gone xs [] e =
    let whole : take at xs ≡ xs = sym (append-nil (take at xs)) ∙ ap (λ ys. take at xs ++ ys) (sym e) ∙ take-append-drop at xs in
    rw (drop-nil, append-nil, whole) (drawn_last given xs)
replaced_at at given gone xs (x ∷ rest) e = rw append_assoc (drawn_after at xs (replicate given x ++ drop gone (x ∷ rest)) (rw e (drawn_copied given gone (x ∷ rest))))

-- so is a list in which items are replaced by others
pub drawn_replaced : (at gone given : ℕ) (xs : List ℕ) → IsDrawn xs (numbers_replaced at gone given xs)
drawn_replaced at gone given xs = rw (← drop-drop gone at xs) (replaced_at at given gone xs (drop at xs) refl)

-- a list without the number at an index is drawn from the list
pub drawn_without : (at : ℕ) (xs : List ℕ) → IsDrawn xs (numbers_without at xs)
drawn_without at xs = drawn_after at xs (drop (at + 1) xs) (rw (← drop-drop 1 at xs) (drawn_drop 1 (drop at xs)))

-- or one is doubled
pub drawn_doubled : (at : ℕ) (xs : List ℕ) → IsDrawn xs (take at xs ++ copies 2 (first_of (drop at xs)) ++ drop (at + 1) xs)
drawn_doubled at xs = rw (append_assoc, ← drop-drop 1 at xs) (drawn_after at xs (copies 2 (first_of (drop at xs)) ++ drop 1 (drop at xs)) (drawn_copied 2 1 (drop at xs)))
