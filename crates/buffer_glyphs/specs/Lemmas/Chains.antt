-- Lists in which each number is related to all after it, whatever the relation.
use Rattle.std.proofs.Common.{ℕ, ◌≡◌, List, [], ◌∷◌, ◌++◌, map, reverse}
use Rattle.std.proofs.lemmas.Grind.{reverse_onto}
use Rattle.buffer_glyphs.specs.Order.{AllFrom, IsChain}

all_map : (R : ℕ → ℕ → Type 0) (f : ℕ → ℕ) → ((x y : ℕ) → R x y → R (f x) (f y)) → (m : ℕ) (ns : List ℕ) → AllFrom R m ns → AllFrom R (f m) (map f ns)
all_map R f keeps m [] h = tt
all_map R f keeps m (n ∷ ns) h = (keeps m n h.0, all_map R f keeps m ns h.1)

-- what is related stays so where each number changes alike
pub chain_map : (R : ℕ → ℕ → Type 0) (f : ℕ → ℕ) → ((x y : ℕ) → R x y → R (f x) (f y)) → (ns : List ℕ) → IsChain R ns → IsChain R (map f ns)
chain_map R f keeps [] h = tt
chain_map R f keeps (n ∷ ns) h = (all_map R f keeps n ns h.0, chain_map R f keeps ns h.1)

all_push : (R : ℕ → ℕ → Type 0) (m n : ℕ) (ns : List ℕ) → AllFrom R m ns → R m n → AllFrom R m (ns ++ n ∷ [])
all_push R m n [] h r = (r, tt)
all_push R m n (k ∷ ks) h r = (h.0, all_push R m n ks h.1 r)

chain_push : (R : ℕ → ℕ → Type 0) (n : ℕ) (ns : List ℕ) → IsChain R ns → AllFrom (λ x y. R y x) n ns → IsChain R (ns ++ n ∷ [])
chain_push R n [] h to = (tt, tt)
chain_push R n (k ∷ ks) h to = (all_push R k n ks h.0 to.0, chain_push R n ks h.1 to.1)

falls_after_step : (n : ℕ) (ns : List ℕ) → reverse (n ∷ ns) ≡ reverse ns ++ n ∷ []
falls_after_step n ns = reverse_onto ns n []

all_reverse : (R : ℕ → ℕ → Type 0) (m : ℕ) (ns : List ℕ) → AllFrom R m ns → AllFrom R m (reverse ns)
all_reverse R m [] h = tt
all_reverse R m (n ∷ ns) h = rw (falls_after_step n ns) (all_push R m n (reverse ns) (all_reverse R m ns h.1) h.0)

-- reversed, each number is related to all before it
pub chain_reverse : (R : ℕ → ℕ → Type 0) (ns : List ℕ) → IsChain R ns → IsChain (λ x y. R y x) (reverse ns)
chain_reverse R [] h = tt
chain_reverse R (n ∷ ns) h = rw (falls_after_step n ns) (chain_push (λ x y. R y x) n (reverse ns) (chain_reverse R ns h.1) (all_reverse R n ns h.0))
