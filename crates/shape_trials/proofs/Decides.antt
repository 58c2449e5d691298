-- The tests of one answer decide what they test.
use Rattle.std.proofs.Common.{ℕ, ◌≡◌, ◌≤◌, ◌<◌, ◌==◌, ◌↔◌, ◌&&◌, ◌||◌, not, nat_lt, Bool, true, false, List, [], ◌∷◌, length, map, reverse, arith, refl, sym, ap, subst, ◌∙◌, if◌then◌else◌}
use Rattle.std.specs.Prelude.{IsTrue}
use Rattle.std.proofs.lemmas.Bool.{and_from, and_parts}
use Rattle.std.proofs.lemmas.Bool.Decides.{nat_tests}
use Rattle.std.proofs.lemmas.Grind.{common_steps}
use Rattle.buffer_glyphs.specs.EventParts.{AreEvenRuns, IsEven}
use Rattle.buffer_glyphs.specs.Items.{clusters}
use Rattle.buffer_glyphs.specs.Lemmas.EventParts.{map-reverse}
use Rattle.buffer_glyphs.specs.Origins.{Origin}
use Rattle.buffer_parts.specs.Slices.{AreJoined}
use Rattle.buffer_core.specs.Sides.{Sides, all_glyphs}
use Rattle.shape_slices.specs.declared.slices.SourceSlice.{SourceSlice}
use Rattle.shape_slices.specs.Fitting.{SlicesFit}
use Rattle.shape_slices.specs.Runs.{AreSourceSlices, along_glyphs, byte_range}
use Rattle.shape_trials.specs.Answers.{SlicesJoin, are_joined_from, in_text_order, are_even_runs, is_even_from}

-- the test of one neighbour
pair_even : (o p : Origin) → (not (o.cluster == p.cluster) || (o.flags == p.flags)) ≡ true → o.cluster ≡ p.cluster → o.flags ≡ p.flags
pair_even o p h e = grind (arith, nat_tests, common_steps, h, e)

pair_tested : (o p : Origin) → (o.cluster ≡ p.cluster → o.flags ≡ p.flags) → (not (o.cluster == p.cluster) || (o.flags == p.flags)) ≡ true
pair_tested o p h = by_test (o.cluster == p.cluster) refl
  where
    by_test : (b : Bool) → (o.cluster == p.cluster) ≡ b → (not b || (o.flags == p.flags)) ≡ true
    by_test true e = let same : o.flags ≡ p.flags = h (grind (arith, nat_tests, e)) in grind (arith, nat_tests, common_steps, same)
    by_test false e = refl

is_even : (o : Origin) (os : List Origin) → is_even_from o os ≡ true → IsEven o os
is_even o [] h = tt
is_even o (p ∷ ps) h = let both = and_parts _ _ h in (pair_even o p both.0, is_even p ps both.1)

is_tested : (o : Origin) (os : List Origin) → IsEven o os → is_even_from o os ≡ true
is_tested o [] h = refl
is_tested o (p ∷ ps) h = and_from _ _ (pair_tested o p h.0) (is_tested p ps h.1)

pub even_decides : (os : List Origin) → IsTrue (are_even_runs os) ↔ AreEvenRuns os
even_decides [] = (λ _. tt, λ _. refl)
even_decides (o ∷ os) = (is_even o os, is_tested o os)

joined_decides : (at end : ℕ) (ss : List (ℕ × ℕ)) → are_joined_from at end ss ≡ true → AreJoined at end ss
joined_decides at end [] h = grind (arith, nat_tests, h)
joined_decides at end (s ∷ ss) h =
    let both = and_parts ((s.0 == at) && nat_lt s.0 s.1) (are_joined_from s.1 end ss) h in
    let first = and_parts (s.0 == at) (nat_lt s.0 s.1) both.0 in
    (begins s.0 at first.0, not_empty s.0 s.1 first.1, joined_decides s.1 end ss both.1)
  where
    begins : (m n : ℕ) → (m == n) ≡ true → m ≡ n
    begins m n e = grind (arith, nat_tests, e)

    not_empty : (m n : ℕ) → nat_lt m n ≡ true → m < n
    not_empty m n e = grind (arith, nat_tests, e)

along : (b : Bool) (ss : List SourceSlice) → map byte_range (in_text_order b ss) ≡ along_glyphs b (map byte_range ss)
along true ss = map-reverse byte_range ss
along false ss = refl

pub joined_slices : (b : Bool) (result : Sides) (text : List ℕ) (ss : List SourceSlice) → SlicesFit result text → AreSourceSlices (clusters (all_glyphs result)) (length text) ss
    → IsTrue (are_joined_from 0 (length text) (map byte_range (in_text_order b ss))) → SlicesJoin b result text
joined_slices b result text ss fit sources h = record { fit = fit; slices = ss; sources = sources; joined = subst (AreJoined 0 (length text)) (along b ss) (joined_decides 0 (length text) _ h) }
