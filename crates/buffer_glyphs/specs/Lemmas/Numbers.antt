-- The numbers of a list.
use Rattle.std.proofs.Common.{ℕ, zero, suc, ◌≡◌, ◌-◌, ◌==◌, ◌||◌, ◌⊎◌, inl, inr, Bool, true, false, List, [], ◌∷◌, ◌++◌, Option, Some, None, take, drop, map, reverse, length, slice_get, refl, arith, subst, sym, ◌∙◌}
use Rattle.std.specs.Prelude.{IsTrue}
use Rattle.std.proofs.lemmas.Grind.{common_steps}
use Rattle.std.proofs.lemmas.List.{take-append-drop}
use Rattle.std.proofs.lemmas.List.Folds.{list_any-append}
use Rattle.std.proofs.lemmas.List.Sorted.{list_any-IsPermutation, IsPermutation-reverse}
use Rattle.buffer_glyphs.specs.Parts.{first_of, last_of, last_from}
use Rattle.buffer_glyphs.specs.Order.{has_number, BringsNone}
use Rattle.buffer_glyphs.specs.Lemmas.Drawn.{IsDrawn, nothing, past, kept}
use Rattle.buffer_facts.proofs.Truth.{or_first as or_left, or_second as or_right, either_true as or_cases}

-- a number occurs in a list
abbrev pub Has : List ℕ → ℕ → Type 0
Has ns n = IsTrue (has_number ns n)

pub has_here : (n : ℕ) (ns : List ℕ) → Has (n ∷ ns) n
has_here n ns = or_left (n == n) (has_number ns n) (grind (arith, common_steps))

pub has_more : (m n : ℕ) (ns : List ℕ) → Has ns n → Has (m ∷ ns) n
has_more m n ns h = or_right (m == n) (has_number ns n) h

pub has_cases : (m n : ℕ) (ns : List ℕ) → Has (m ∷ ns) n → (m ≡ n) ⊎ Has ns n
has_cases m n ns h = elim (or_cases (m == n) (has_number ns n) h) [ inl e ↦ inl (grind (arith, common_steps, e)) | inr e ↦ inr e ]

pub has_left : (n : ℕ) (xs ys : List ℕ) → Has xs n → Has (xs ++ ys) n
has_left n xs ys h = list_any-append (λ m. m == n) xs ys ∙ or_left (has_number xs n) (has_number ys n) h

pub has_right : (n : ℕ) (xs ys : List ℕ) → Has ys n → Has (xs ++ ys) n
has_right n xs ys h = list_any-append (λ m. m == n) xs ys ∙ or_right (has_number xs n) (has_number ys n) h

pub has_either : (n : ℕ) (xs ys : List ℕ) → Has (xs ++ ys) n → Has xs n ⊎ Has ys n
has_either n xs ys h = or_cases (has_number xs n) (has_number ys n) (sym (list_any-append (λ m. m == n) xs ys) ∙ h)

pub has_take : (n at : ℕ) (xs : List ℕ) → Has (take at xs) n → Has xs n
has_take n at xs h = let whole = has_left n (take at xs) (drop at xs) h in rw (take-append-drop at xs) at whole

pub has_drop : (n at : ℕ) (xs : List ℕ) → Has (drop at xs) n → Has xs n
has_drop n at xs h = let whole = has_right n (take at xs) (drop at xs) h in rw (take-append-drop at xs) at whole

pub has_reverse : (n : ℕ) (xs : List ℕ) → has_number (reverse xs) n ≡ has_number xs n
has_reverse n xs = sym (list_any-IsPermutation (λ m. m == n) xs (reverse xs) (IsPermutation-reverse xs))

-- a number of a changed list comes from one of the list
pub has_map : (f : ℕ → ℕ) (n : ℕ) (ns : List ℕ) → Has (map f ns) n → (k : ℕ) × Has ns k × (f k ≡ n)
has_map f n [] h = cc
has_map f n (m ∷ ms) h = elim (has_cases (f m) n (map f ms) h) [
  | inl e ↦ (m, has_here m ms, e)
  | inr later ↦ let found = has_map f n ms later in (found.0, has_more m found.0 ms found.1, found.2)
]

pub map_has : (f : ℕ → ℕ) (n : ℕ) (ns : List ℕ) → Has ns n → Has (map f ns) (f n)
map_has f n [] h = cc
map_has f n (m ∷ ms) h = elim (has_cases m n ms h) [
  | inl e ↦ let P : ℕ → Type 0 = λ k. Has (map f (m ∷ ms)) (f k) in subst P e (has_here (f m) (map f ms))
  | inr later ↦ has_more (f m) (f n) (map f ms) (map_has f n ms later)
]

-- a number that may be, and is in the list if it is
abbrev pub MayHave : List ℕ → Option ℕ → Type 0
MayHave ns None = Unit {0}
MayHave ns (Some n) = Has ns n

may_more : (m : ℕ) (o : Option ℕ) (ns : List ℕ) → MayHave ns o → MayHave (m ∷ ns) o
may_more m None ns h = tt
may_more m (Some n) ns h = has_more m n ns h

may_take : (o : Option ℕ) (at : ℕ) (ns : List ℕ) → MayHave (take at ns) o → MayHave ns o
may_take None at ns h = tt
may_take (Some n) at ns h = has_take n at ns h

may_drop : (o : Option ℕ) (at : ℕ) (ns : List ℕ) → MayHave (drop at ns) o → MayHave ns o
may_drop None at ns h = tt
may_drop (Some n) at ns h = has_drop n at ns h

has_got : (ns : List ℕ) (i : ℕ) → MayHave ns (slice_get ns i)
has_got [] i = tt
has_got (n ∷ ns) zero = has_here n ns
has_got (n ∷ ns) (suc i) = may_more n (slice_get ns i) ns (has_got ns i)

pub has_first : (ns : List ℕ) → MayHave ns (first_of ns)
has_first [] = tt
has_first (n ∷ ns) = has_here n ns

pub has_last : (ns : List ℕ) → MayHave ns (last_of ns)
has_last ns = has_got ns (length ns - 1)

-- the last of the first elements, and the first of the others
pub has_last_before : (at : ℕ) (ns : List ℕ) → MayHave ns (last_of (take at ns))
has_last_before at ns = may_take (last_of (take at ns)) at ns (has_last (take at ns))

pub has_first_from : (at : ℕ) (ns : List ℕ) → MayHave ns (first_of (drop at ns))
has_first_from at ns = may_drop (first_of (drop at ns)) at ns (has_first (drop at ns))

pub has_last_from : (n : ℕ) (ns : List ℕ) → Has (n ∷ ns) (last_from n ns)
has_last_from n [] = has_here n []
has_last_from n (m ∷ ms) = has_more n (last_from m ms) (m ∷ ms) (has_last_from m ms)

-- a list that is drawn from another has no other numbers
pub drawn_brings : {xs ys : List ℕ} → IsDrawn xs ys → BringsNone xs ys
drawn_brings (nothing xs) n h = cc
drawn_brings (past x xs ys d) n h = has_more x n xs (drawn_brings d n h)
drawn_brings (kept x xs ys d) n h = elim (has_cases x n ys h) [
  | inl e ↦ let P : ℕ → Type 0 = λ k. Has (x ∷ xs) k in subst P e (has_here x xs)
  | inr later ↦ drawn_brings d n later
]
