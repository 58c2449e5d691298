-- A join, and a deletion before its item is deleted, unite the parts of two items or leave all as they are.
use Rattle.std.proofs.Common.{ℕ, ◌+◌, ◌-◌, ◌||◌, true, false, if◌then◌else◌, List, [], ◌∷◌, Option, Some, None, take, drop}
use Rattle.buffer_glyphs.specs.Parts.{united_numbers, last_from, joined_numbers, range_of, first_of, last_of, is_number, with_neighbour, numbers_united_if_last, numbers_united_without, before_deletion}
use Rattle.buffer_glyphs.specs.Lemmas.Numbers.{Has, MayHave, has_here, has_last_from, has_take, has_drop, has_last_before, has_first_from}

-- what holds of a list, and after each union of two of its numbers
pub record Unites (P : List ℕ → Type 0) (ns : List ℕ) : Type 0 where
  pub same : P ns
  pub union : (m n : ℕ) → Has ns m → Has ns n → P (united_numbers m n ns)

joined_by : (P : List ℕ → Type 0) (xs ns : List ℕ) → Unites P ns → ((n : ℕ) → Has xs n → Has ns n) → P (joined_numbers xs ns)
joined_by P [] ns u among = u.same
joined_by P (x ∷ xs) ns u among = u.union x (last_from x xs) (among x (has_here x xs)) (among (last_from x xs) (has_last_from x xs))

-- it holds after a range is joined
pub joined_unites : (P : List ℕ → Type 0) (from to : ℕ) (ns : List ℕ) → Unites P ns → P (joined_numbers (range_of from to ns) ns)
joined_unites P from to ns u = joined_by P (range_of from to ns) ns u (λ n h. has_drop n from ns (has_take n (to - from) (drop from ns) h))

with_unites : (P : List ℕ → Type 0) (before after : Option ℕ) (n : ℕ) (ns : List ℕ) → Unites P ns → MayHave ns before → MayHave ns after → Has ns n → P (with_neighbour before after n ns)
with_unites P (Some p) after n ns u b a h = u.union p n b h
with_unites P None (Some q) n ns u b a h = u.union n q h a
with_unites P None None n ns u b a h = u.same

if_last_unites : (P : List ℕ → Type 0) (before after : Option ℕ) (n : ℕ) (ns : List ℕ) → Unites P ns → MayHave ns before → MayHave ns after → Has ns n → P (numbers_united_if_last before after n ns)
if_last_unites P before after n ns u b a h =
    elim (is_number before n || is_number after n) as (λ t. P (if t then ns else with_neighbour before after n ns)) [ true ↦ u.same | false ↦ with_unites P before after n ns u b a h ]

without_unites : (P : List ℕ → Type 0) (before at after : Option ℕ) (ns : List ℕ) → Unites P ns → MayHave ns before → MayHave ns at → MayHave ns after → P (numbers_united_without before at after ns)
without_unites P before None after ns u b h a = u.same
without_unites P before (Some n) after ns u b h a = if_last_unites P before after n ns u b a h

-- it holds as an item is about to go
pub left_unites : (P : List ℕ → Type 0) (at : ℕ) (ns : List ℕ) → Unites P ns → P (before_deletion at ns)
left_unites P at ns u = without_unites P (last_of (take at ns)) (first_of (drop at ns)) (first_of (drop (at + 1) ns)) ns u (has_last_before at ns) (has_first_from at ns) (has_first_from (at + 1) ns)
