-- Each run has one set of flags.
use Rattle.std.proofs.Common.{ℕ, zero, suc, ◌≡◌, ◌≤◌, ◌<◌, ◌+◌, ◌-◌, ◌==◌, ◌&&◌, Bool, true, false, List, [], ◌∷◌, ◌++◌, length, map, take, drop, arith, refl, sym, ap, subst, ◌∙◌, append_assoc}
use Rattle.std.specs.Prelude.{replicate, slice_range, bit_and}
use Rattle.std.specs.List.{All, flat_map, list_all}
use Rattle.std.proofs.lemmas.Grind.{common_steps}
use Rattle.std.proofs.lemmas.List.{length-map}
use Rattle.std.proofs.lemmas.List.Elements.{All-cons, All-nil}
use Rattle.buffer_glyphs.specs.declared.info.hb_glyph_info_t.{hb_glyph_info_t}
use Rattle.buffer_glyphs.specs.EventParts.{AreEvenRuns, IsEven}
use Rattle.buffer_glyphs.specs.Items.{clusters, flags_of, glyph_flags}
use Rattle.buffer_glyphs.specs.Origins.{Origin, origin_of, origins}
use Rattle.buffer_parts.specs.Orderly.{are_one}
use Rattle.buffer_parts.specs.Slices.{AreJoined}
use Rattle.shape_slices.specs.declared.slices.SourceSlice.{SourceSlice}
use Rattle.shape_slices.specs.Runs.{AreSourceSlices, glyph_range, run_clusters}
use Rattle.shape_slices.specs.Laws.{HasOneFlagSet, RunsHaveOneFlagSet}
use Rattle.buffer_facts.proofs.Lists.{first_equal, rest_equal}

-- glyphs of one cluster at the front of a list have the flags of the first of them
same_flags : (k c : ℕ) (f : hb_glyph_info_t) (gs : List hb_glyph_info_t) (rest : List ℕ) → f.cluster ≡ c → clusters gs ≡ replicate k c ++ rest → IsEven (origin_of f) (origins gs) → list_all (λ m. m == glyph_flags f) (flags_of (take k gs)) ≡ true
same_flags zero c f gs rest e h even = refl
same_flags (suc k) c f [] rest e h even = refl
same_flags (suc k) c f (g ∷ gs) rest e h even =
    let here : g.cluster ≡ c = first_equal g.cluster c (clusters gs) (replicate k c ++ rest) h in
    let flags : glyph_flags f ≡ glyph_flags g = even.0 (e ∙ sym here) in
    let more = same_flags k c g gs rest here (rest_equal g.cluster c (clusters gs) (replicate k c ++ rest) h) even.1 in
    let test : (glyph_flags g == glyph_flags f) ≡ true = grind (arith, common_steps, flags) in
    rw test (ap (λ n. list_all (λ m. m == n) (flags_of (take k gs))) flags ∙ more)

first_run_even : (k c : ℕ) (gs : List hb_glyph_info_t) (rest : List ℕ) → clusters gs ≡ replicate k c ++ rest → AreEvenRuns (origins gs) → are_one (flags_of (take k gs)) ≡ true
first_run_even zero c gs rest h even = refl
first_run_even (suc k) c [] rest h even = refl
first_run_even (suc k) c (g ∷ gs) rest h even = same_flags k c g gs rest (first_equal g.cluster c (clusters gs) (replicate k c ++ rest) h) (rest_equal g.cluster c (clusters gs) (replicate k c ++ rest) h) even

even_tail : (o : Origin) (os : List Origin) → IsEven o os → AreEvenRuns os
even_tail o [] h = tt
even_tail o (p ∷ os) h = h.1

even_after : (k : ℕ) (gs : List hb_glyph_info_t) → AreEvenRuns (origins gs) → AreEvenRuns (origins (drop k gs))
even_after zero gs even = even
even_after (suc k) [] even = tt
even_after (suc k) (g ∷ gs) even = even_after k gs (even_tail (origin_of g) (origins gs) even)

clusters_after : (k c : ℕ) (gs : List hb_glyph_info_t) (rest : List ℕ) → clusters gs ≡ replicate k c ++ rest → clusters (drop k gs) ≡ rest
clusters_after zero c gs rest h = h
clusters_after (suc k) c [] rest h = cc
clusters_after (suc k) c (g ∷ gs) rest h = clusters_after k c gs rest (rest_equal g.cluster c (clusters gs) (replicate k c ++ rest) h)

dropped_twice : (m n : ℕ) (gs : List hb_glyph_info_t) → drop n (drop m gs) ≡ drop (m + n) gs
dropped_twice zero n gs = ap (λ k. drop k gs) (omega arith)
dropped_twice (suc m) n [] = none n (suc m + n)
  where
    none : (i j : ℕ) → drop i [] ≡ drop {A = hb_glyph_info_t} j []
    none zero zero = refl
    none zero (suc j) = refl
    none (suc i) zero = refl
    none (suc i) (suc j) = refl
dropped_twice (suc m) n (g ∷ gs) = dropped_twice m n gs ∙ ap (λ k. drop k (g ∷ gs)) (next m n)
  where
    next : (i j : ℕ) → suc (i + j) ≡ suc i + j
    next i j = omega arith

runs_from : (gs : List hb_glyph_info_t) (from : ℕ) (ss : List SourceSlice) → AreEvenRuns (origins (drop from gs)) → AreJoined from (length gs) (map glyph_range ss) → flat_map run_clusters ss ≡ clusters (drop from gs) → All (HasOneFlagSet gs) ss
runs_from gs from [] even j h = All-nil (HasOneFlagSet gs)
runs_from gs from (s ∷ ss) even (at, some, rest) h =
    let k = s.end_glyph - s.first_glyph in
    let here : clusters (drop from gs) ≡ replicate k s.start ++ flat_map run_clusters ss = sym h in
    let to : from + k ≡ s.end_glyph = omega (arith, at, some) in
    let left : drop k (drop from gs) ≡ drop s.end_glyph gs = dropped_twice from k gs ∙ ap (λ n. drop n gs) to in
    All-cons (HasOneFlagSet gs) s ss
    (subst (λ (n : ℕ). are_one (flags_of (take k (drop n gs))) ≡ true) (sym at) (first_run_even k s.start (drop from gs) (flat_map run_clusters ss) here even))
    (runs_from gs s.end_glyph ss (subst (λ (hs : List hb_glyph_info_t). AreEvenRuns (origins hs)) left (even_after k (drop from gs) even)) rest
    (sym (clusters_after k s.start (drop from gs) (flat_map run_clusters ss) here) ∙ ap clusters left))

pub runs_have_one_flag_set : RunsHaveOneFlagSet
runs_have_one_flag_set gs end ss even are =
    runs_from gs 0 ss even (subst (λ (n : ℕ). AreJoined 0 n (map glyph_range ss)) (length-map gs (λ (g : hb_glyph_info_t). g.cluster)) are.glyphs) are.clusters
