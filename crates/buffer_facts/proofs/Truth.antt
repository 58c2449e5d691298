-- Truth values.
use Rattle.std.proofs.Common.{◌≡◌, Bool, true, false, ◌&&◌, refl, ◌||◌, ◌⊎◌, inl, inr, if◌then◌else◌}
use Rattle.std.specs.Prelude.{not}
use mathlib.Core.Bool.{false≢true}

pub both_true : (a b : Bool) → (a && b) ≡ true → (a ≡ true) × (b ≡ true)
both_true true b h = (refl, h)
both_true false b h = absurd (false≢true h)

pub neither_true : (s t : Bool) → (s || t) ≡ false → (s ≡ false) × (t ≡ false)
neither_true true t e = cc
neither_true false t e = (refl, e)

pub or_first : (a b : Bool) → a ≡ true → (a || b) ≡ true
or_first a b e = rw e refl

pub or_second : (s t : Bool) → t ≡ true → (s || t) ≡ true
or_second true t e = refl
or_second false t e = e

pub either_true : (s t : Bool) → (s || t) ≡ true → (s ≡ true) ⊎ (t ≡ true)
either_true true t e = inl refl
either_true false t e = inr e

pub first_true : (s t : Bool) → (s && t) ≡ true → s ≡ true
first_true true t e = refl
first_true false t e = cc

pub second_true : (s t : Bool) → (s && t) ≡ true → t ≡ true
second_true true t e = e
second_true false t e = cc

pub or_true : (s : Bool) → (s || true) ≡ true
or_true true = refl
or_true false = refl

pub lacks_second : (a b : Bool) → b ≡ false → (a && b) ≡ false
lacks_second false b e = refl
lacks_second true b e = e

pub and_true : (a b : Bool) → a ≡ true → b ≡ true → (a && b) ≡ true
and_true true b e f = f
and_true false b e f = cc

pub or_false : (b : Bool) → (b || false) ≡ b
or_false true = refl
or_false false = refl

pub not_both : (b : Bool) → b ≡ true → b ≡ false → ⊥
not_both b t f = cc

pub lacks_first : (p q : Bool) → p ≡ false → (p && q) ≡ false
lacks_first p q e = rw e refl

pub first_false : (a b : Bool) → (a || b) ≡ false → a ≡ false
first_false false b e = refl
first_false true b e = cc

pub false_by_not : (b : Bool) → not b ≡ true → b ≡ false
false_by_not true e = cc
false_by_not false e = refl

pub chosen_second : {X : Type 0} (b : Bool) (x y : X) → b ≡ false → (if b then y else x) ≡ x
chosen_second true x y e = cc
chosen_second false x y e = refl

pub true_or_false : (b : Bool) → (b ≡ true) ⊎ (b ≡ false)
true_or_false true = inl refl
true_or_false false = inr refl
