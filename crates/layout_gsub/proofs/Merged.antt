-- A merge of one.
use Rattle.std.proofs.Common.{ℕ, ◌≡◌, ◌≤◌, ◌+◌, ◌-◌, Bool, true, false, List, [], ◌∷◌, ◌++◌, length, map, take, drop, refl, sym, ap, ◌∙◌, arith, append_assoc}
use Rattle.std.specs.Prelude.{◌==◌, ◌||◌, max, if◌then◌else◌, slice_range}
use Rattle.std.proofs.lemmas.Bool.Decides.{nat_tests}
use Rattle.std.proofs.lemmas.List.{take-map, drop-map, take-append-drop}
use Rattle.std.proofs.lemmas.List.Folds.{drop_split}
use Rattle.buffer_glyphs.specs.Parts.{range_of}
use Rattle.buffer_glyphs.specs.Merges.{least_number, merged_number}
use Rattle.buffer_glyphs.specs.Levels.{Manner, Unites, Marks, Keeps}
use Rattle.buffer_glyphs.specs.Origins.{Origin, numbers, cast, origins_merged, added_outside, origins_marked, origins_merged_as}
use Rattle.buffer_facts.proofs.Numbers.{test_of_itself as same_is}

cast_same : (o : Origin) → cast o.cluster 0 o ≡ o
cast_same o = rw (same_is o.cluster) refl

merged_by : (b : Bool) (n c : ℕ) → (n == c) ≡ b → (if (b || false) then n else c) ≡ c
merged_by true n c e = grind (arith, nat_tests, e)
merged_by false n c e = refl

merged_one : (n c : ℕ) → merged_number (n ∷ []) c ≡ c
merged_one n c = rw (refl {a = n == c}) (merged_by (n == c) n c refl)

pub all_cast : (range : List ℕ) (os : List Origin) → length range ≤ 1 → origins_merged range os ≡ os
all_cast range [] le = refl
all_cast [] (o ∷ os) le = ap (λ q. q ∷ origins_merged [] os) (cast_same o) ∙ ap (λ qs. o ∷ qs) (all_cast [] os le)
all_cast (n ∷ []) (o ∷ os) le = ap (λ c. cast c 0 o ∷ origins_merged (n ∷ []) os) (merged_one n o.cluster) ∙ ap (λ q. q ∷ origins_merged (n ∷ []) os) (cast_same o) ∙ ap (λ qs. o ∷ qs) (all_cast (n ∷ []) os le)
all_cast (n ∷ m ∷ range) (o ∷ os) le = absurd (omega (arith, le))

-- a list of one at most has no flag set outside its least cluster
least_same : (os : List Origin) → length os ≤ 1 → map (added_outside 3 (least_number (numbers os))) os ≡ os
least_same [] le = refl
least_same (o ∷ []) le = rw (same_is o.cluster) refl
least_same (o ∷ p ∷ os) le = absurd (omega (arith, le))

at_most_one : {X : Type 0} (xs : List X) → length (take 1 xs) ≤ 1
at_most_one [] = omega arith
at_most_one (x ∷ xs) = omega arith

stretch_one : (at : ℕ) (ns : List ℕ) → range_of at (at + 1) ns ≡ take 1 (drop at ns)
stretch_one at ns = let one : at + 1 - at ≡ 1 = omega arith in ap (λ n. take n (drop at ns)) one

range_one : (at : ℕ) (os : List Origin) → slice_range os at (at + 1) ≡ take 1 (drop at os)
range_one at os = let one : at + 1 - at ≡ 1 = omega arith in ap (λ n. take n (drop at os)) one

marked_one : (at : ℕ) (os : List Origin) → origins_marked 3 at (at + 1) os ≡ os
marked_one at os =
    let range = take 1 (drop at os) in
    let ns : range_of at (at + 1) (numbers os) ≡ numbers range = stretch_one at (numbers os) ∙ ap (take 1) (drop-map (λ (o : Origin). o.cluster) at os) ∙ take-map (λ (o : Origin). o.cluster) 1 (drop at os) in
    let end : max at (at + 1) ≡ at + 1 = omega arith in
    let le : at ≤ at + 1 = omega arith in
    let rest : drop at os ≡ range ++ drop (at + 1) os = drop_split os at (at + 1) le ∙ ap (λ r. r ++ drop (at + 1) os) (range_one at os) in
    let whole : take at os ++ range ++ drop (at + 1) os ≡ os = append_assoc (take at os) range (drop (at + 1) os) ∙ ap (λ r. take at os ++ r) (sym rest) ∙ take-append-drop at os in
    rw (ns, range_one at os, least_same range (at_most_one (drop at os)), end) whole

-- the merge of one leaves all as it is
pub one_merged : (m : Manner) (at : ℕ) (os : List Origin) → origins_merged_as m at (at + 1) os ≡ os
one_merged Unites at os = all_cast (range_of at (at + 1) (numbers os)) os (rw (stretch_one at (numbers os)) (at_most_one (drop at (numbers os))))
one_merged Marks at os = marked_one at os
one_merged Keeps at os = refl
