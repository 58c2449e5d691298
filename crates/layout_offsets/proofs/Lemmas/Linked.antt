-- Where a link leads.
use Rattle.std.proofs.Common.{ℕ, ℤ, pos, negsuc, ◌+ℤ◌, ◌≡◌, ◌<◌, ◌==◌, ◌&&◌, Bool, true, false, if◌then◌else◌, Some, None, arith, refl, ap, sym}
use Rattle.std.specs.Prelude.{nat_abs, int_le, int_lt}
use Rattle.std.proofs.lemmas.Bool.Decides.{nat_tests}
use Rattle.layout_offsets.specs.Links.{link_target}

pub both_tests : (a b : Bool) (m j : ℕ) → (if a && b then Some m else None) ≡ Some j → (b ≡ true) × (m ≡ j)
both_tests true true m j e = (refl, cc)
both_tests true false m j e = cc
both_tests false b m j e = cc

pub inside_is : (n : ℕ) (t : ℤ) (j : ℕ) → (if int_le (pos 0) t && int_lt t (pos n) then Some (nat_abs t) else None) ≡ Some j → (j < n) × (pos j ≡ t)
inside_is n (pos m) j e =
    let both = both_tests (int_le (pos 0) (pos m)) (int_lt (pos m) (pos n)) m j e in
    let less : m < n = grind (arith, nat_tests, both.0) in
    (omega (arith, less, both.1), ap pos (sym both.1))
inside_is n (negsuc m) j e = cc

linked_by : (none : Bool) (n : ℕ) (t : ℤ) (j : ℕ) → (if none then None else if int_le (pos 0) t && int_lt t (pos n) then Some (nat_abs t) else None) ≡ Some j → (j < n) × (pos j ≡ t)
linked_by true n t j e = cc
linked_by false n t j e = inside_is n t j e

pub linked_there : (n i : ℕ) (d : ℤ) (j : ℕ) → link_target n i d ≡ Some j → (j < n) × (pos j ≡ pos i +ℤ d)
linked_there n i d j e = linked_by (nat_abs d == 0) n (pos i +ℤ d) j e
