-- Lists of origins that have no cluster in common.
use Rattle.std.proofs.Common.{ℕ, suc, ◌≡◌, ◌≤◌, ◌+◌, ◌-◌, ◌==◌, ◌&&◌, Bool, true, false, if◌then◌else◌, List, [], ◌∷◌, ◌++◌, Option, Some, None, length, map, take, drop, arith, refl, ap, sym, subst, ◌∙◌, append_assoc}
use Rattle.std.specs.Prelude.{slice_range}
use Rattle.std.specs.Int.RustNames.{bit_or}
use Rattle.std.specs.Int.Bits.{or_zero_r}
use Rattle.std.proofs.lemmas.List.{append-nil, map-append, length-append, length-map, length-drop, take-append-le, drop-append-le, take-map, drop-map}
use Rattle.std.proofs.Math.Seq.{take-append-add, drop-append-add}
use Rattle.buffer_glyphs.specs.Parts.{range_of, last_of, last_from, is_number}
use Rattle.buffer_glyphs.specs.Order.{has_number}
use Rattle.buffer_glyphs.specs.Merges.{least_number, merged_number}
use Rattle.buffer_glyphs.specs.Origins.{Origin, numbers, cast, origins_merged, flags_added, with_last_changed, is_unsafe, unsafe_flags, flags_for, other_cluster, origins_handed_before, origins_handed_after, origins_handed_if}
use Rattle.buffer_glyphs.specs.Lemmas.Numbers.{Has, MayHave, has_here, has_more, has_left, has_last, has_take, has_drop}
use Rattle.buffer_glyphs.specs.Lemmas.Drawn.{last_more}
use Rattle.buffer_glyphs.specs.Lemmas.Handed.{last_fixed}
use Rattle.buffer_glyphs.specs.Lemmas.Deletions.{last_is}
use Rattle.buffer_stages.specs.Lemmas.Nested.{numbers_both}
use Rattle.buffer_parts.specs.Lemmas.Counts.{counted_numbers as count_numbers}
use Rattle.buffer_facts.proofs.Numbers.{same_by_test as equal_test, test_of_same as test_equal}

-- no origin has the cluster
abbrev pub Lacks : ℕ → List Origin → Type 0
Lacks n os = Has (numbers os) n → ⊥

abbrev pub AreApart : List Origin → List Origin → Type 0
AreApart os qs = (n : ℕ) → Has (numbers os) n → Has (numbers qs) n → ⊥

-- ---- merges of clusters that a list lacks

cast_same : (o : Origin) → cast o.cluster 0 o ≡ o
cast_same o = rw (test_equal o.cluster o.cluster refl) refl

unmerged_one : (range : List ℕ) (o : Origin) → (Has range o.cluster → ⊥) → cast (merged_number range o.cluster) 0 o ≡ o
unmerged_one range o none = by_test (has_number range o.cluster) refl
  where
    by_test : (t : Bool) → has_number range o.cluster ≡ t → cast (merged_number range o.cluster) 0 o ≡ o
    by_test true e = absurd (none e)
    by_test false e = ap (λ (b : Bool). cast (if b then least_number range else o.cluster) 0 o) e ∙ cast_same o

pub unmerged : (range : List ℕ) (os : List Origin) → ((n : ℕ) → Has range n → Lacks n os) → origins_merged range os ≡ os
unmerged range [] none = refl
unmerged range (o ∷ os) none = rw (unmerged_one range o (λ h. none o.cluster h (has_here o.cluster (numbers os))), unmerged range os (λ n h k. none n h (has_more o.cluster n (numbers os) k))) refl

-- ---- flags of a cluster that a list lacks

pub differs : (m n : ℕ) → (m ≡ n → ⊥) → (m == n) ≡ false
differs m n ne = by_test (m == n) refl
  where
    by_test : (t : Bool) → (m == n) ≡ t → (m == n) ≡ false
    by_test true e = absurd (ne (equal_test m n e))
    by_test false e = e

lacks_first : (n : ℕ) (o : Origin) (os : List Origin) → Lacks n (o ∷ os) → o.cluster ≡ n → ⊥
lacks_first n o os none e = none (subst (λ k. Has (o.cluster ∷ numbers os) k) e (has_here o.cluster (numbers os)))

lacks_rest : (n : ℕ) (o : Origin) (os : List Origin) → Lacks n (o ∷ os) → Lacks n os
lacks_rest n o os none h = none (has_more o.cluster n (numbers os) h)

-- ---- lists

pub slice_first : {X : Type 0} (from to : ℕ) (xs ys : List X) → from ≤ length xs → to ≤ length xs → slice_range (xs ++ ys) from to ≡ slice_range xs from to
slice_first from to xs ys l m =
    ap (take (to - from)) (drop-append-le from xs ys l) ∙ take-append-le (to - from) (drop from xs) ys (let rest = length-drop from xs in omega (arith, rest, m))

pub range_first : (from to : ℕ) (os qs : List Origin) → from ≤ length os → to ≤ length os → range_of from to (numbers (os ++ qs)) ≡ range_of from to (numbers os)
range_first from to os qs l m =
    let count = count_numbers os in
    ap (range_of from to) (numbers_both os qs) ∙ slice_first from to (numbers os) (numbers qs) (omega (arith, count, l)) (omega (arith, count, m))

pub lasting : (xs : List ℕ) (y : ℕ) (ys : List ℕ) → last_of (xs ++ y ∷ ys) ≡ last_of (y ∷ ys)
lasting [] y ys = refl
lasting (x ∷ []) y ys = last_more x y ys
lasting (x ∷ (z ∷ xs)) y ys = last_more x z (xs ++ y ∷ ys) ∙ lasting (z ∷ xs) y ys

-- there is a last number
pub last_there : (n : ℕ) (ns : List ℕ) → last_of (n ∷ ns) ≡ None → ⊥
last_there n ns e = let last = last_is n ns in let no : Some (last_from n ns) ≡ None = sym last ∙ e in cc

pub taken_apart : (n m : ℕ) (os qs : List Origin) → AreApart os qs → AreApart (take n (drop m os)) qs
taken_apart n m os qs apart = λ k h. apart k (part_has k h)
  where
    seen : numbers (take n (drop m os)) ≡ take n (drop m (numbers os))
    seen = sym (take-map (λ (o : Origin). o.cluster) n (drop m os)) ∙ ap (take n) (sym (drop-map (λ (o : Origin). o.cluster) m os))

    part_has : (k : ℕ) → Has (numbers (take n (drop m os))) k → Has (numbers os) k
    part_has k h = has_drop k m (numbers os) (has_take k n (drop m (numbers os)) (subst (λ (ns : List ℕ). Has ns k) seen h))

-- the last number of a list that another lacks
abbrev pub MayLack : Option ℕ → List Origin → Type 0
MayLack None os = Unit {0}
MayLack (Some p) os = Lacks p os

pub may_lack : (os qs rest : List Origin) → AreApart os (qs ++ rest) → MayLack (last_of (numbers qs)) os
may_lack os qs rest apart = by_last (last_of (numbers qs)) (has_last (numbers qs))
  where
    by_last : (p : Option ℕ) → MayHave (numbers qs) p → MayLack p os
    by_last None h = tt
    by_last (Some p) h = λ k. apart p k (subst (λ (ns : List ℕ). Has ns p) (sym (numbers_both qs rest)) (has_left p (numbers qs) (numbers rest) h))

-- ---- flags handed on to a cluster that those that leave lack

none_flags : (c : ℕ) (gone : List Origin) → Lacks c gone → unsafe_flags c gone ≡ 0
none_flags c [] none = refl
none_flags c (o ∷ gone) none =
    ap (λ (t : Bool). if t && is_unsafe o.flags then bit_or o.flags (unsafe_flags c gone) else unsafe_flags c gone) (differs o.cluster c (lacks_first c o gone none))
    ∙ none_flags c gone (lacks_rest c o gone none)

none_added : (bits : ℕ) (o : Origin) → bits ≡ 0 → flags_added bits o ≡ o
none_added bits o e = ap (λ f. record o { flags = f }) (ap (bit_or o.flags) e ∙ or_zero_r o.flags)

none_after : (before : Option ℕ) (c : ℕ) (gone : List Origin) → Lacks c gone → flags_for (other_cluster before (Some c)) gone ≡ 0
none_after before c gone none = elim (is_number before c) as (λ (t : Bool). flags_for (if t then None else Some c) gone ≡ 0) [ true ↦ refl | false ↦ none_flags c gone none ]

-- nothing is handed on to a list after that lacks their clusters
after_first : (gone : List Origin) (before : Option ℕ) (back qs : List Origin) → AreApart gone qs → origins_handed_after gone before (back ++ qs) ≡ origins_handed_after gone before back ++ qs
after_first gone before (b ∷ back) qs apart = refl
after_first gone before [] [] apart = refl
after_first gone before [] (q ∷ qs) apart =
    ap (λ (x : Origin). x ∷ qs) (none_added (flags_for (other_cluster before (Some q.cluster)) gone) q (none_after before q.cluster gone (λ h. apart q.cluster h (has_here q.cluster (numbers qs)))))

pub handing_first : (asked : Bool) (gone : List Origin) (seam : ℕ) (os qs : List Origin) → AreApart gone qs → seam ≤ length os → origins_handed_if asked gone seam (os ++ qs) ≡ origins_handed_if asked gone seam os ++ qs
handing_first false gone seam os qs apart l = refl
handing_first true gone seam os qs apart l =
    let front = take seam os in
    let back = drop seam os in
    let before = last_of (numbers front) in
    ap (λ (xs : List Origin). origins_handed_before gone xs ++ origins_handed_after gone (last_of (numbers xs)) (drop seam (os ++ qs))) (take-append-le seam os qs l)
    ∙ ap (λ (xs : List Origin). origins_handed_before gone front ++ origins_handed_after gone before xs) (drop-append-le seam os qs l)
    ∙ ap (λ (xs : List Origin). origins_handed_before gone front ++ xs) (after_first gone before back qs apart)
    ∙ sym (append_assoc (origins_handed_before gone front) (origins_handed_after gone before back) qs)

last_lacks : (gone os : List Origin) → AreApart gone os → MayLack (last_of (numbers os)) gone
last_lacks gone os apart = by_last (last_of (numbers os)) (has_last (numbers os))
  where
    by_last : (p : Option ℕ) → MayHave (numbers os) p → MayLack p gone
    by_last None h = tt
    by_last (Some p) h = λ k. apart p k h

-- nothing is handed on to a list before that lacks their clusters
none_before : (gone os : List Origin) → AreApart gone os → origins_handed_before gone os ≡ os
none_before gone os apart = last_fixed (flags_added (flags_for (last_of (numbers os)) gone)) os (λ o e. none_added (flags_for (last_of (numbers os)) gone) o (by_last (last_of (numbers os)) (last_lacks gone os apart)))
  where
    by_last : (p : Option ℕ) → MayLack p gone → flags_for p gone ≡ 0
    by_last None h = refl
    by_last (Some p) h = none_flags p gone h

-- a neighbour before whose cluster those that leave lack takes nothing from the one after
after_other : (gone : List Origin) (p : Option ℕ) (back : List Origin) → MayLack p gone → origins_handed_after gone p back ≡ origins_handed_after gone None back
after_other gone p [] none = refl
after_other gone None (b ∷ back) none = refl
after_other gone (Some p) (b ∷ back) none = ap (λ (bits : ℕ). flags_added bits b ∷ back) (by_test (p == b.cluster) refl)
  where
    by_test : (t : Bool) → (p == b.cluster) ≡ t → flags_for (if t then None else Some b.cluster) gone ≡ unsafe_flags b.cluster gone
    by_test true e = sym (none_flags b.cluster gone (subst (λ n. Lacks n gone) (equal_test p b.cluster e) none))
    by_test false e = refl

changed_beyond : (f : Origin → Origin) (os : List Origin) (x : Origin) (xs : List Origin) → with_last_changed f (os ++ x ∷ xs) ≡ os ++ with_last_changed f (x ∷ xs)
changed_beyond f [] x xs = refl
changed_beyond f (o ∷ os) x xs =
    let rest = os ++ x ∷ xs in
    let count = length-append os (x ∷ xs) in
    let more : length (o ∷ rest) - 1 ≡ suc (length rest - 1) = omega (arith, count) in
    ap (λ n. take n (o ∷ rest) ++ map f (drop n (o ∷ rest))) more ∙ ap (λ (zs : List Origin). o ∷ zs) (changed_beyond f os x xs)

pub same_last : (os : List Origin) (f : Origin) (front : List Origin) → last_of (numbers (os ++ f ∷ front)) ≡ last_of (numbers (f ∷ front))
same_last os f front = ap last_of (numbers_both os (f ∷ front)) ∙ lasting (numbers os) f.cluster (numbers front)

seam_last : (gone os front back : List Origin) → AreApart gone os → origins_handed_before gone (os ++ front) ++ origins_handed_after gone (last_of (numbers (os ++ front))) back ≡ os ++ (origins_handed_before gone front ++ origins_handed_after gone (last_of (numbers front)) back)
seam_last gone os [] back apart =
    ap (λ (xs : List Origin). origins_handed_before gone xs ++ origins_handed_after gone (last_of (numbers xs)) back) (append-nil os)
    ∙ ap (λ (xs : List Origin). xs ++ origins_handed_after gone (last_of (numbers os)) back) (none_before gone os apart)
    ∙ ap (λ (xs : List Origin). os ++ xs) (after_other gone (last_of (numbers os)) back (last_lacks gone os apart))
seam_last gone os (f ∷ front) back apart =
    let p = last_of (numbers (f ∷ front)) in
    ap (λ (q : Option ℕ). with_last_changed (flags_added (flags_for q gone)) (os ++ f ∷ front) ++ origins_handed_after gone q back) (same_last os f front)
    ∙ ap (λ (xs : List Origin). xs ++ origins_handed_after gone p back) (changed_beyond (flags_added (flags_for p gone)) os f front)
    ∙ append_assoc os (origins_handed_before gone (f ∷ front)) (origins_handed_after gone p back)

pub handing_last : (asked : Bool) (gone : List Origin) (seam : ℕ) (os qs : List Origin) → AreApart gone os → origins_handed_if asked gone (length os + seam) (os ++ qs) ≡ os ++ origins_handed_if asked gone seam qs
handing_last false gone seam os qs apart = refl
handing_last true gone seam os qs apart =
    let front = take seam qs in
    ap (λ (xs : List Origin). origins_handed_before gone xs ++ origins_handed_after gone (last_of (numbers xs)) (drop (length os + seam) (os ++ qs))) (take-append-add os qs seam)
    ∙ ap (λ (xs : List Origin). origins_handed_before gone (os ++ front) ++ origins_handed_after gone (last_of (numbers (os ++ front))) xs) (drop-append-add os qs seam)
    ∙ seam_last gone os front (drop seam qs) apart
