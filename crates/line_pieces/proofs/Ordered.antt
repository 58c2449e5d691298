-- The test of clusters decides their order.
use Rattle.std.proofs.Common.{ℕ, ◌≡◌, ◌↔◌, Bool, true, false, if◌then◌else◌, IsTrue, List, [], ◌∷◌, arith, refl, ap, ◌∙◌}
use Rattle.std.proofs.lemmas.Bool.Decides.{nat_tests}
use Rattle.std.proofs.lemmas.Grind.{common_steps}
use Rattle.kuspveli.specs.buffer_glyphs.Order.{AllFrom, IsChain, IsInOrder}
use Rattle.kuspveli.specs.buffer_glyphs.Lemmas.Merges.{stands_chain}
use Rattle.kuspveli.specs.buffer_glyphs.Lemmas.Parts.{Stands, stands_self}
use Rattle.kuspveli.specs.buffer_parts.Slices.{first_or}
use Rattle.line_pieces.specs.Steps.{keep_order, steps_back}

stands_from : (b : Bool) (m n : ℕ) → steps_back b m n ≡ false → Stands b m n
stands_from false m n e = grind (arith, nat_tests, e)
stands_from true m n e = grind (arith, nat_tests, e)

from_stands : (b : Bool) (m n : ℕ) → Stands b m n → steps_back b m n ≡ false
from_stands false m n h = grind (arith, nat_tests, common_steps, h)
from_stands true m n h = grind (arith, nat_tests, common_steps, h)

stands_along : (b : Bool) (l m n : ℕ) → Stands b l m → Stands b m n → Stands b l n
stands_along false l m n h g = omega (arith, h, g)
stands_along true l m n h g = omega (arith, h, g)

all_along : (b : Bool) (l m : ℕ) (ns : List ℕ) → Stands b l m → AllFrom (Stands b) m ns → AllFrom (Stands b) l ns
all_along b l m [] h all = tt
all_along b l m (n ∷ ns) h all = (stands_along b l m n h all.0, all_along b l m ns h all.1)

chain_from : (b : Bool) (last : ℕ) (ns : List ℕ) → keep_order b last ns ≡ true → IsChain (Stands b) (last ∷ ns)
chain_from b last [] e = (tt, tt)
chain_from b last (n ∷ ns) e = by_test (steps_back b last n) refl e (chain_from b n ns)
  where
    by_test : (t : Bool) → steps_back b last n ≡ t → (if t then false else keep_order b n ns) ≡ true → (keep_order b n ns ≡ true → IsChain (Stands b) (n ∷ ns)) → IsChain (Stands b) (last ∷ n ∷ ns)
    by_test true back bad more = cc
    by_test false back keeps more =
        let first = stands_from b last n back in
        let rest = more keeps in
        ((first, all_along b last n ns first rest.0), rest)

from_chain : (b : Bool) (last : ℕ) (ns : List ℕ) → IsChain (Stands b) (last ∷ ns) → keep_order b last ns ≡ true
from_chain b last [] h = refl
from_chain b last (n ∷ ns) h = ap (λ t. if t then false else keep_order b n ns) (from_stands b last n h.0.0) ∙ from_chain b n ns h.1

with_first : (b : Bool) (ns : List ℕ) → IsChain (Stands b) ns → IsChain (Stands b) (first_or 0 ns ∷ ns)
with_first b [] h = (tt, tt)
with_first b (n ∷ ns) h = ((stands_self b n, h.0), h)

in_order : (b : Bool) (ns : List ℕ) → IsChain (Stands b) ns → IsInOrder b ns
in_order false ns h = h
in_order true ns h = h

pub order_decided : (b : Bool) (ns : List ℕ) → IsTrue (keep_order b (first_or 0 ns) ns) ↔ IsInOrder b ns
order_decided b ns = (λ e. let h = chain_from b (first_or 0 ns) ns e in in_order b ns h.1, λ h. from_chain b (first_or 0 ns) ns (with_first b ns (stands_chain b ns h)))
