-- What is known of the order of parts, and of a number between them.
use Rattle.std.proofs.Common.{ℕ, ◌≤◌, Bool, true, false, List, [], ◌∷◌, ◌++◌}
use Rattle.buffer_glyphs.specs.Order.{AllFrom, IsChain, IsInOrder}
use Rattle.buffer_lists.specs.declared.order.KnownOrder.{KnownOrder}
use Rattle.buffer_lists.specs.declared.order.KnownOrder.TheVariants.{Unknown, Rising, Falling}
use Rattle.buffer_lists.specs.Known.{HasOrder}
use Rattle.buffer_glyphs.specs.Lemmas.Merges.{chain_left, chain_right}

-- what keeps rising clusters rising, and falling ones falling
pub order_if_kept : (o : KnownOrder) (old new : List ℕ) → ((falls : Bool) → IsInOrder falls old → IsInOrder falls new) → HasOrder o old → HasOrder o new
order_if_kept Unknown old new keeps h = tt
order_if_kept Rising old new keeps h = keeps false h
order_if_kept Falling old new keeps h = keeps true h

all_between : (R : ℕ → ℕ → Type 0) (m n : ℕ) (xs ys : List ℕ) → AllFrom R m (xs ++ n ∷ []) → AllFrom R m (xs ++ ys) → AllFrom R m (xs ++ n ∷ ys)
all_between R m n [] ys h k = (h.0, k)
all_between R m n (x ∷ xs) ys h k = (h.0, all_between R m n xs ys h.1 k.1)

-- a number between two lists that is in order behind the one and before the other
chain_between : (R : ℕ → ℕ → Type 0) (n : ℕ) (xs ys : List ℕ) → IsChain R (xs ++ ys) → IsChain R (xs ++ n ∷ []) → IsChain R (n ∷ ys) → IsChain R (xs ++ n ∷ ys)
chain_between R n [] ys h before after = after
chain_between R n (x ∷ xs) ys h before after = (all_between R x n xs ys before.0 h.0, chain_between R n xs ys h.1 before.1 after)

pub known_first : (o : KnownOrder) (xs ys : List ℕ) → HasOrder o (xs ++ ys) → HasOrder o xs
known_first Unknown xs ys h = tt
known_first Rising xs ys h = chain_left (λ m n. m ≤ n) xs ys h
known_first Falling xs ys h = chain_left (λ m n. n ≤ m) xs ys h

pub known_second : (o : KnownOrder) (xs ys : List ℕ) → HasOrder o (xs ++ ys) → HasOrder o ys
known_second Unknown xs ys h = tt
known_second Rising xs ys h = chain_right (λ m n. m ≤ n) xs ys h
known_second Falling xs ys h = chain_right (λ m n. n ≤ m) xs ys h

pub known_between : (o : KnownOrder) (n : ℕ) (xs ys : List ℕ) → HasOrder o (xs ++ ys) → HasOrder o (xs ++ n ∷ []) → HasOrder o (n ∷ ys) → HasOrder o (xs ++ n ∷ ys)
known_between Unknown n xs ys h before after = tt
known_between Rising n xs ys h before after = chain_between (λ m n. m ≤ n) n xs ys h before after
known_between Falling n xs ys h before after = chain_between (λ m n. n ≤ m) n xs ys h before after
