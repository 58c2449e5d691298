-- Rules that permute the numbers of their items.
use Rattle.std.proofs.Common.{ℕ, ◌≡◌, ◌≤◌, ◌+◌, ◌-◌, ◌==◌, true, false, if◌then◌else◌, List, [], ◌∷◌, ◌++◌, map, take, drop, refl, sym, ap, subst, ◌∙◌, arith}
use Rattle.std.specs.Prelude.{slice_range}
use Rattle.std.specs.List.Sorted.{IsPermutation}
use Rattle.std.proofs.lemmas.List.Sorted.{IsPermutation-refl, IsPermutation-trans, IsPermutation-append, IsPermutation-append_left, IsPermutation-append_right, IsPermutation-append_comm}
use Rattle.std.proofs.Math.Seq.{take-add}
use Rattle.std.proofs.lemmas.List.{map-append, take-append-drop}
use Rattle.buffer_glyphs.specs.Items.{Item}
use Rattle.buffer_glyphs.specs.Rewriting.{Arrangement, eventless_arrangement, and_arranged}
use Rattle.buffer_stages.specs.Rewriting.{within, each_rewritten, in_syllables, by_syllable, runs_with_first, runs_of}
use Rattle.buffer_stages.specs.Parts.{item_with_features, items_with_features, first_to_back}
use Rattle.buffer_stages.specs.SyllableLaws.{numbers_of, IsPermuted}

pub same_numbers : (xs : List Item) (r : Arrangement) → numbers_of r.items ≡ numbers_of xs → IsPermuted xs r
same_numbers xs r e = subst (IsPermutation (numbers_of xs)) (sym e) (IsPermutation-refl (numbers_of xs))

pub mapped_permutes : (f : Item → Item) (xs : List Item) → ((x : Item) → (f x).number ≡ x.number) → IsPermuted xs (eventless_arrangement (map f xs))
mapped_permutes f xs h = same_numbers xs (eventless_arrangement (map f xs)) (same xs)
  where
    same : (ys : List Item) → numbers_of (map f ys) ≡ numbers_of ys
    same [] = refl
    same (y ∷ ys) = rw (h y, same ys) refl

pub masked_permutes : (bits : ℕ) (xs : List Item) → IsPermuted xs (items_with_features bits xs)
masked_permutes bits xs = mapped_permutes (item_with_features bits) xs (λ x. refl)

pub moved_permutes : (n : ℕ) (xs : List Item) → IsPermuted xs (first_to_back n xs)
moved_permutes n xs =
    let f = take n xs in
    let b = drop n xs in
    let old : numbers_of f ++ numbers_of b ≡ numbers_of xs = sym (map-append (λ (x : Item). x.number) f b) ∙ ap numbers_of (take-append-drop n xs) in
    let new : numbers_of b ++ numbers_of f ≡ numbers_of (b ++ f) = sym (map-append (λ (x : Item). x.number) b f) in
    subst (λ ns. IsPermutation ns (numbers_of (b ++ f))) old (subst (IsPermutation (numbers_of f ++ numbers_of b)) new (IsPermutation-append_comm (numbers_of f) (numbers_of b)))

pub within_permutes : (rule : List Item → Arrangement) (from to : ℕ) (xs : List Item) → ((ys : List Item) → IsPermuted ys (rule ys)) → from ≤ to → IsPermuted xs (within from to rule xs)
within_permutes rule from to xs p le =
    let a = take from xs in
    let b = slice_range xs from to in
    let c = drop to xs in
    let at : to ≡ from + (to - from) = omega (arith, le) in
    let whole : a ++ b ++ c ≡ xs = ap (λ ys. ys ++ c) (sym (ap (λ k. take k xs) at ∙ take-add from (to - from) xs)) ∙ take-append-drop to xs in
    let old : numbers_of a ++ numbers_of b ++ numbers_of c ≡ numbers_of xs = sym (seen a b c) ∙ ap numbers_of whole in
    let new : numbers_of a ++ numbers_of (rule b).items ++ numbers_of c ≡ numbers_of (a ++ (rule b).items ++ c) = sym (seen a (rule b).items c) in
    let q = IsPermutation-append_left (numbers_of c) (numbers_of a ++ numbers_of b) (numbers_of a ++ numbers_of (rule b).items) (IsPermutation-append_right (numbers_of a) (numbers_of b) (numbers_of (rule b).items) (p b)) in
    subst (λ ns. IsPermutation ns (numbers_of (a ++ (rule b).items ++ c))) old (subst (IsPermutation (numbers_of a ++ numbers_of b ++ numbers_of c)) new q)
  where
    seen : (a b c : List Item) → numbers_of (a ++ b ++ c) ≡ numbers_of a ++ numbers_of b ++ numbers_of c
    seen a b c = map-append (λ (x : Item). x.number) (a ++ b) c ∙ ap (λ ns. ns ++ numbers_of c) (map-append (λ (x : Item). x.number) a b)

pub then_permutes : (xs : List Item) (r : Arrangement) (rule : List Item → Arrangement) → IsPermuted xs r → IsPermuted r.items (rule r.items) → IsPermuted xs (and_arranged r rule)
then_permutes xs r rule p q = IsPermutation-trans (numbers_of xs) (numbers_of r.items) (numbers_of (rule r.items).items) p q

-- ---- all syllables together

abbrev pub concatenation : {X : Type 0} → List (List X) → List X
concatenation [] = []
concatenation (xs ∷ xss) = xs ++ concatenation xss

pair_joins : {X : Type 0} (key : X → ℕ) (x : X) (runs : List (List X)) → concatenation (runs_with_first key x runs) ≡ x ∷ concatenation runs
pair_joins key x [] = refl
pair_joins key x ([] ∷ runs) = refl
pair_joins key x ((y ∷ ys) ∷ runs) = elim (key y == key x) as (λ t. concatenation (if t then (x ∷ y ∷ ys) ∷ runs else (x ∷ []) ∷ (y ∷ ys) ∷ runs) ≡ x ∷ (y ∷ ys) ++ concatenation runs) [ true ↦ refl | false ↦ refl ]

pub runs_join : {X : Type 0} (key : X → ℕ) (xs : List X) → concatenation (runs_of key xs) ≡ xs
runs_join key [] = refl
runs_join key (x ∷ xs) = pair_joins key x (runs_of key xs) ∙ ap (λ ys. x ∷ ys) (runs_join key xs)

each_permutes : (rule : List Item → Arrangement) → ((ys : List Item) → IsPermuted ys (rule ys)) → (xss : List (List Item)) → IsPermutation (numbers_of (concatenation xss)) (numbers_of (each_rewritten rule xss).items)
each_permutes rule p [] = IsPermutation-refl []
each_permutes rule p (xs ∷ xss) =
    let later = (each_rewritten rule xss).items in
    let old : numbers_of (xs ++ concatenation xss) ≡ numbers_of xs ++ numbers_of (concatenation xss) = map-append (λ (x : Item). x.number) xs (concatenation xss) in
    let new : numbers_of ((rule xs).items ++ later) ≡ numbers_of (rule xs).items ++ numbers_of later = map-append (λ (x : Item). x.number) (rule xs).items later in
    let q = IsPermutation-append (numbers_of xs) (numbers_of (rule xs).items) (numbers_of (concatenation xss)) (numbers_of later) (p xs) (each_permutes rule p xss) in
    subst (λ ns. IsPermutation ns (numbers_of ((rule xs).items ++ later))) (sym old) (subst (IsPermutation (numbers_of xs ++ numbers_of (concatenation xss))) (sym new) q)

-- a rule that permutes each syllable permutes the text
pub syllables_permute : (rule : List Item → Arrangement) → ((ys : List Item) → IsPermuted ys (rule ys)) → (xs : List Item) → IsPermuted xs (by_syllable rule xs)
syllables_permute rule p xs =
    let whole : concatenation (in_syllables xs) ≡ xs = runs_join (λ (x : Item). x.syllable) xs in
    subst (λ ys. IsPermutation (numbers_of ys) (numbers_of (by_syllable rule xs).items)) whole (each_permutes rule p (in_syllables xs))
