-- An element of a list that passes a test.
use Rattle.std.proofs.Common.{ℕ, zero, suc, ◌≡◌, ◌≤◌, ◌<◌, ◌&&◌, ◌||◌, ◌⊎◌, inl, inr, Bool, true, false, max, List, [], ◌∷◌, ◌++◌, Some, length, map, take, drop, reverse, slice_get, arith, refl, ap, sym, ◌∙◌}
use Rattle.std.specs.Prelude.{slice_range, unwrap_or}
use Rattle.std.specs.List.{list_any}
use Rattle.std.proofs.lemmas.List.{take-append-drop, length-drop, length-take}
use Rattle.std.proofs.lemmas.List.Folds.{list_any-append}
use Rattle.std.proofs.lemmas.List.Sorted.{list_any-IsPermutation, IsPermutation-reverse}
use Rattle.buffer_glyphs.specs.Origins.{with_range_changed, picked_elements, with_range_arranged}
use Rattle.buffer_glyphs.specs.Lemmas.Numbers.{Has, has_cases}
use Rattle.buffer_glyphs.specs.Lemmas.Origins.{cut_in_three}
use Rattle.buffer_parts.specs.Breaks.Lossless.{IsPermuting}
use Rattle.buffer_facts.proofs.Truth.{or_first as or_left, or_second as or_right, either_true as or_cases}

pub any_here : {X : Type 0} (p : X → Bool) (x : X) (xs : List X) → p x ≡ true → list_any p (x ∷ xs) ≡ true
any_here p x xs h = or_left (p x) (list_any p xs) h

pub any_more : {X : Type 0} (p : X → Bool) (x : X) (xs : List X) → list_any p xs ≡ true → list_any p (x ∷ xs) ≡ true
any_more p x xs h = or_right (p x) (list_any p xs) h

pub any_cases : {X : Type 0} (p : X → Bool) (x : X) (xs : List X) → list_any p (x ∷ xs) ≡ true → (p x ≡ true) ⊎ (list_any p xs ≡ true)
any_cases p x xs h = or_cases (p x) (list_any p xs) h

pub any_left : {X : Type 0} (p : X → Bool) (xs ys : List X) → list_any p xs ≡ true → list_any p (xs ++ ys) ≡ true
any_left p xs ys h = list_any-append p xs ys ∙ or_left (list_any p xs) (list_any p ys) h

pub any_right : {X : Type 0} (p : X → Bool) (xs ys : List X) → list_any p ys ≡ true → list_any p (xs ++ ys) ≡ true
any_right p xs ys h = list_any-append p xs ys ∙ or_right (list_any p xs) (list_any p ys) h

pub any_either : {X : Type 0} (p : X → Bool) (xs ys : List X) → list_any p (xs ++ ys) ≡ true → (list_any p xs ≡ true) ⊎ (list_any p ys ≡ true)
any_either p xs ys h = or_cases (list_any p xs) (list_any p ys) (sym (list_any-append p xs ys) ∙ h)

pub any_halves : {X : Type 0} (p : X → Bool) (n : ℕ) (xs : List X) → list_any p xs ≡ true → (list_any p (take n xs) ≡ true) ⊎ (list_any p (drop n xs) ≡ true)
any_halves p n xs h = any_either p (take n xs) (drop n xs) (ap (list_any p) (take-append-drop n xs) ∙ h)

pub any_reverse : {X : Type 0} (p : X → Bool) (xs : List X) → list_any p xs ≡ true → list_any p (reverse xs) ≡ true
any_reverse p xs h = sym (list_any-IsPermutation p xs (reverse xs) (IsPermutation-reverse xs)) ∙ h

-- a change that keeps what passes the test
pub any_mapped : {X : Type 0} (p : X → Bool) (f : X → X) (xs : List X) → ((x : X) → p x ≡ true → p (f x) ≡ true) → list_any p xs ≡ true → list_any p (map f xs) ≡ true
any_mapped p f [] keeps h = h
any_mapped p f (x ∷ xs) keeps h = elim (any_cases p x xs h) [
  | inl here ↦ any_here p (f x) (map f xs) (keeps x here)
  | inr later ↦ any_more p (f x) (map f xs) (any_mapped p f xs keeps later)
]

-- such a change of a range
pub any_changed : {X : Type 0} (p : X → Bool) (f : X → X) (from to : ℕ) (xs : List X) → ((x : X) → p x ≡ true → p (f x) ≡ true) → list_any p xs ≡ true → list_any p (with_range_changed f from to xs) ≡ true
any_changed p f from to xs keeps h =
    let range = slice_range xs from to in
    let rest = drop (max from to) xs in
    elim (any_either p (take from xs ++ range) rest (ap (list_any p) (cut_in_three from to xs) ∙ h)) [
      | inl near ↦ any_left p (take from xs ++ map f range) rest (elim (any_either p (take from xs) range near) [
        | inl before ↦ any_left p (take from xs) (map f range) before
        | inr among ↦ any_right p (take from xs) (map f range) (any_mapped p f range keeps among)
      ])
      | inr beyond ↦ any_right p (take from xs ++ map f range) rest beyond
    ]

-- ---- orders

record Passing {X : Type 0} (p : X → Bool) (xs : List X) : Type 0 where
  pub index : ℕ
  pub element : X
  pub there : slice_get xs index ≡ Some element
  pub passes : p element ≡ true
  pub inside : index < length xs

found : {X : Type 0} (p : X → Bool) (xs : List X) → list_any p xs ≡ true → Passing p xs
found p [] h = cc
found p (x ∷ xs) h = elim (any_cases p x xs h) [
  | inl here ↦ record { index = zero; element = x; there = refl; passes = here; inside = omega arith }
  | inr later ↦ let f = found p xs later in record { index = suc f.index; element = f.element; there = f.there; passes = f.passes; inside = omega (arith, f.inside) }
]

picked_has : {X : Type 0} (p : X → Bool) (all : List X) (order : List ℕ) (xs : List X) (j : ℕ) (x : X) → Has order j → length order ≤ length xs → slice_get all j ≡ Some x → p x ≡ true → list_any p (picked_elements all order xs) ≡ true
picked_has p all [] xs j x h le there passes = cc
picked_has p all (i ∷ order) [] j x h le there passes = absurd (omega (arith, le))
picked_has {X = X} p all (i ∷ order) (y ∷ ys) j x h le there passes = elim (has_cases i j order h) [
  | inl e ↦ any_here p (unwrap_or (slice_get all i) y) (picked_elements all order ys) (rw (e, there) passes)
  | inr later ↦ any_more p (unwrap_or (slice_get all i) y) (picked_elements all order ys) (picked_has p all order ys j x later (omega (arith, le)) there passes)
]

picked_rest : {X : Type 0} (p : X → Bool) (all : List X) (order : List ℕ) (xs : List X) → list_any p (drop (length order) xs) ≡ true → list_any p (picked_elements all order xs) ≡ true
picked_rest p all [] xs h = h
picked_rest p all (i ∷ order) [] h = cc
picked_rest p all (i ∷ order) (x ∷ xs) h = any_more p (unwrap_or (slice_get all i) x) (picked_elements all order xs) (picked_rest p all order xs h)

pub any_arranged : {X : Type 0} (p : X → Bool) (from : ℕ) (order : List ℕ) (xs : List X) → IsPermuting from order (length xs) → list_any p xs ≡ true → list_any p (with_range_arranged from order xs) ≡ true
any_arranged p from order xs r h =
    let ys = drop from xs in
    let n = length order in
    elim (any_halves p from xs h) [
      | inl before ↦ any_left p (take from xs) (picked_elements (take n ys) order ys) before
      | inr behind ↦ any_right p (take from xs) (picked_elements (take n ys) order ys) (elim (any_halves p n ys behind) [
        | inl among ↦
            let f = found p (take n ys) among in
            let long : length order ≤ length ys = omega (arith, r.within, length-drop from xs) in
            let inside : f.index < length order = omega (arith, f.inside, length-take n ys) in
            picked_has p (take n ys) order ys f.index f.element (r.each f.index inside) long f.there f.passes
        | inr beyond ↦ picked_rest p (take n ys) order ys beyond
      ])
    ]
