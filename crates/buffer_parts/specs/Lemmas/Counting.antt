-- Stages that only count their budget down.
use Rattle.std.proofs.Common.{ℕ, zero, suc, ℤ, pos, negsuc, ◌≡◌, ◌+◌, ◌-◌, ◌≤◌, ◌+ℤ◌, ◌-ℤ◌, Bool, true, false, nat_le, nat_lt, [], ◌∷◌, Ok, Err, arith, refl, ap, sym, subst, ◌∙◌}
use Rattle.std.proofs.lemmas.Int.{ints}
use Rattle.std.proofs.lemmas.Bool.Decides.{nat_tests}
use Rattle.std.proofs.lemmas.Grind.{common_steps}
use Rattle.buffer_core.specs.Readings.{View, Read, Reading, Stage, then_reading, and_then, as_it_is}
use Rattle.buffer_parts.specs.Chains.{in_order}
use Rattle.buffer_parts.specs.Counting.{is_left, IsFair, with_budget_changed, rebudgeted_read, ReadingCounts, StageCounts, CountsBudget, at_budget, with_more_budget, eased_read, ReadingSpares, SparesBudget}
use Rattle.buffer_parts.specs.BudgetLaws.{TwoCountBudget, ChainsCountBudget, WantedCountBudget, CountingSparesBudget, SparingReadsTheSame, CountingHasUses}

-- ---- numbers

pub some_left : (n : ℕ) → is_left (pos (suc n)) ≡ true
some_left n = lemma_of n
  where
    lemma_of : (n : ℕ) → nat_lt 0 (suc n) ≡ true
    lemma_of n = grind (arith, nat_tests, common_steps)

pub more_left : (k : ℤ) (d : ℕ) → is_left k ≡ true → is_left (k +ℤ pos d) ≡ true
more_left (pos zero) d e = cc
more_left (pos (suc n)) d e = subst (λ (m : ℕ). is_left (pos m) ≡ true) (sum_suc n d) (some_left (n + d))
  where
    sum_suc : (n d : ℕ) → suc (n + d) ≡ suc n + d
    sum_suc n d = omega arith
more_left (negsuc n) d e = cc

pub less_left : (k : ℤ) → is_left (k -ℤ pos 1) ≡ true → is_left k ≡ true
less_left (pos zero) e = cc
less_left (pos (suc n)) e = some_left n
less_left (negsuc n) e = cc

pub less_more : (k : ℤ) (d : ℕ) → (k -ℤ pos 1) +ℤ pos d ≡ (k +ℤ pos d) -ℤ pos 1
less_more k d = omega (arith, ints)

-- ---- stages

pub same_counts : (ample : ℤ → Bool) (change : ℤ → ℤ) → StageCounts ample change as_it_is
same_counts ample change v l = (l, refl)

pub and_then_counts : (ample : ℤ → Bool) (change : ℤ → ℤ) (k : ℤ) (a b : Reading) (t : Stage) → ReadingCounts ample change k a b → StageCounts ample change t → ReadingCounts ample change k (and_then a t) (and_then b t)
and_then_counts ample change k (Err x) b t p q = tt
and_then_counts ample change k (Ok r) b t p q = by_second (t r.view) (q r.view)
  where
    by_second : (x : Reading) → ReadingCounts ample change r.view.max_ops x (t (with_budget_changed change r.view)) → ReadingCounts ample change k (then_reading r x) (and_then b t)
    by_second (Err x) g = tt
    by_second (Ok s) g = λ l. ((p (g l).0).0, ap (λ (x : Reading). and_then x t) (p (g l).0).1 ∙ ap (λ (x : Reading). then_reading (rebudgeted_read change r) x) (g l).1)

pub two_count_budget : TwoCountBudget
two_count_budget s t p q ample change fair v = and_then_counts ample change v.max_ops (s v) (s (with_budget_changed change v)) t (p ample change fair v) (q ample change fair)

pub chains_count_budget : ChainsCountBudget
chains_count_budget [] all = λ ample change fair. same_counts ample change
chains_count_budget (stage ∷ stages) all = two_count_budget stage (in_order stages) all.0 (chains_count_budget stages all.1)

pub wanted_count_budget : WantedCountBudget
wanted_count_budget true stage k = k
wanted_count_budget false stage k = λ ample change fair. same_counts ample change

-- ---- more budget

pub spared : (stage : Stage) (v : View) (d : ℕ) (r : Read) → SparesBudget stage → stage v ≡ Ok r → is_left r.view.max_ops ≡ true → stage (with_more_budget d v) ≡ Ok (eased_read d r)
spared stage v d r p e l = (subst (λ (x : Reading). ReadingSpares d v.max_ops x (stage (with_more_budget d v))) e (p v d) l).1

pub sparing_reads_the_same : SparingReadsTheSame
sparing_reads_the_same stage v m k d r p e left =
    spared stage (at_budget (pos m) v) d r p e (ap (λ (z : ℤ). is_left z) left ∙ some_left k) ∙ ap (λ (z : ℤ). Ok (record r { view = at_budget (z +ℤ pos d) r.view })) left

-- ---- changes that are not felt

more_is_fair : (d : ℕ) → IsFair is_left (λ k. k +ℤ pos d)
more_is_fair d = record {
  before = less_left;
  stays = λ k e l. more_left k d e;
  ends = λ k e l. cc;
  less = λ k. less_more k d;
}

pub counting_spares_budget : CountingSparesBudget
counting_spares_budget stage p v d = by_reading (stage v) (p is_left (λ k. k +ℤ pos d) (more_is_fair d) v)
  where
    by_reading : (a : Reading) → ReadingCounts is_left (λ k. k +ℤ pos d) v.max_ops a (stage (with_more_budget d v)) → ReadingSpares d v.max_ops a (stage (with_more_budget d v))
    by_reading (Ok r) k = k
    by_reading (Err e) k = tt

-- at least so much is there
abbrev holds_at_least : ℕ → ℤ → Bool
holds_at_least d (pos n) = nat_le d n
holds_at_least d (negsuc n) = false

less_is_fair : (d : ℕ) → IsFair (holds_at_least d) (λ k. k -ℤ pos d)
less_is_fair d = record {
  before = before;
  stays = stays;
  ends = ends;
  less = λ k. omega (arith, ints);
}
  where
    le_next : (n : ℕ) → nat_le d n ≡ true → nat_le d (suc n) ≡ true
    le_next n e = grind (arith, nat_tests, common_steps)

    le_is : (n : ℕ) → nat_le d n ≡ true → suc n ≡ suc (n - d) + d
    le_is n e = grind (arith, nat_tests, common_steps)

    le_zero : nat_le d 0 ≡ true → 0 ≡ 0 + d
    le_zero e = grind (arith, nat_tests, common_steps)

    taken : (n m : ℕ) → n ≡ m + d → pos n -ℤ pos d ≡ pos m
    taken n m e = omega (arith, ints, e)

    one_less : (n : ℕ) → pos (suc n) -ℤ pos 1 ≡ pos n
    one_less n = omega (arith, ints)

    before : (k : ℤ) → holds_at_least d (k -ℤ pos 1) ≡ true → holds_at_least d k ≡ true
    before (pos zero) e = cc
    before (pos (suc n)) e = le_next n (subst (λ (z : ℤ). holds_at_least d z ≡ true) (one_less n) e)
    before (negsuc n) e = cc

    stays : (k : ℤ) → is_left k ≡ true → holds_at_least d (k -ℤ pos 1) ≡ true → is_left (k -ℤ pos d) ≡ true
    stays (pos zero) e l = cc
    stays (pos (suc n)) e l = subst (λ (z : ℤ). is_left z ≡ true) (sym (taken (suc n) (suc (n - d)) (le_is n (subst (λ (z : ℤ). holds_at_least d z ≡ true) (one_less n) l)))) (some_left (n - d))
    stays (negsuc n) e l = cc

    ends : (k : ℤ) → is_left k ≡ false → holds_at_least d k ≡ true → is_left (k -ℤ pos d) ≡ false
    ends (pos zero) e l = subst (λ (z : ℤ). is_left z ≡ false) (sym (taken 0 0 (le_zero l))) refl
    ends (pos (suc n)) e l = let h = some_left n in cc
    ends (negsuc n) e l = cc

-- a stage with less budget
lowered : (stage : Stage) (v : View) (m j d : ℕ) (r : Read) → CountsBudget stage → stage (at_budget (pos (m + d)) v) ≡ Ok r → r.view.max_ops ≡ pos (j + d) → stage (at_budget (pos m) v) ≡ Ok (record r { view = at_budget (pos j) r.view })
lowered stage v m j d r p e left =
    ap (λ (z : ℤ). stage (at_budget z v)) (sym (taken m)) ∙ (counted ample).1 ∙ ap (λ (z : ℤ). Ok (record r { view = at_budget z r.view })) (ap (λ (z : ℤ). z -ℤ pos d) left ∙ taken j)
  where
    taken : (n : ℕ) → pos (n + d) -ℤ pos d ≡ pos n
    taken n = omega (arith, ints)

    there : nat_le d (j + d) ≡ true
    there = grind (arith, nat_tests, common_steps)

    ample : holds_at_least d r.view.max_ops ≡ true
    ample = subst (λ (z : ℤ). holds_at_least d z ≡ true) (sym left) there

    counted : ReadingCounts (holds_at_least d) (λ k. k -ℤ pos d) (pos (m + d)) (Ok r) (stage (at_budget (pos (m + d) -ℤ pos d) v))
    counted = subst (λ (x : Reading). ReadingCounts (holds_at_least d) (λ k. k -ℤ pos d) (pos (m + d)) x (stage (at_budget (pos (m + d) -ℤ pos d) v))) e (p (holds_at_least d) (λ k. k -ℤ pos d) (less_is_fair d) (at_budget (pos (m + d)) v))

pub counting_has_uses : CountingHasUses
counting_has_uses stage v n k r p e left = record {
  read = r;
  same = λ m le. at_each m le;
}
  where
    -- with much more than enough, and then with less
    much : (m : ℕ) → stage (at_budget (pos (n + suc k + m)) v) ≡ Ok (record r { view = at_budget (pos (suc k + m)) r.view })
    much m = sparing_reads_the_same stage v (n + suc k) k m r (counting_spares_budget stage p) e left

    sum_is : (m : ℕ) → n ≤ m → n + suc k + m ≡ m + (n + suc k)
    sum_is m le = omega (arith, le)

    rest_is : (m : ℕ) → n ≤ m → suc k + m ≡ (0 + (m - n)) + (n + suc k)
    rest_is m le = omega (arith, le)

    at_each : (m : ℕ) → n ≤ m → stage (at_budget (pos m) v) ≡ Ok (record r { view = at_budget (pos (0 + (m - n))) r.view })
    at_each m le = lowered stage v m (0 + (m - n)) (n + suc k) (record r { view = at_budget (pos (suc k + m)) r.view }) p (subst (λ (x : ℕ). stage (at_budget (pos x) v) ≡ Ok (record r { view = at_budget (pos (suc k + m)) r.view })) (sum_is m le) (much m)) (ap (λ (x : ℕ). pos x) (rest_is m le))
