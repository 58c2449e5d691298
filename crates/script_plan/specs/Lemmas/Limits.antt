-- Stages of which the limits decide no more than whether they refuse.
use Rattle.std.proofs.Common.{ℕ, ℤ, ◌≡◌, Bool, true, false, if◌then◌else◌, Ok, Err, refl, sym, subst}
use Rattle.buffer_glyphs.specs.declared.cause.ShapeCause.{ShapeCause}
use Rattle.buffer_glyphs.specs.declared.cause.ShapeCause.TheVariants.{TooLong}
use Rattle.buffer_core.specs.Readings.{View, Read, Reading, Stage, always, and_then, as_it_is}
use Rattle.buffer_parts.specs.Alike.{DependsOnNoLength, ReadAlike, ReadingsAlike, attachment_bit, with_limit_and_flags}
use Rattle.buffer_parts.specs.Counting.{CountsBudget, ReadingCounts, with_budget_changed, rebudgeted_read}
use Rattle.buffer_parts.specs.Lemmas.Alike.{at_alike, limited_readings, same_depends, two_depend_on_no_length, views_alike}
use Rattle.buffer_parts.specs.Lemmas.Counting.{same_counts, two_count_budget}
use Rattle.script_plan.specs.Rules.{DependsOnNoLimit}

-- what was read, with another limit of length and other scratch flags
abbrev pub seen_read : ℕ → ℕ → Read → Read
seen_read limit scratch_flags r = record r { view = with_limit_and_flags limit scratch_flags r.view }

-- ---- limits of length

read_alike : (v : View) (r : Read) (limit scratch_flags : ℕ) → r.view.scratch_flags ≡ v.scratch_flags → attachment_bit v.scratch_flags ≡ attachment_bit scratch_flags → ReadAlike r (seen_read limit scratch_flags r)
read_alike v r limit scratch_flags is e = record { view = views_alike r.view limit scratch_flags (subst (λ (n : ℕ). attachment_bit n ≡ attachment_bit scratch_flags) (sym is) e); events = λ level. refl }

length_by : (test : View → Bool) (f : View → Read) (cause : ShapeCause) → ((v : View) (limit scratch_flags : ℕ) → f (with_limit_and_flags limit scratch_flags v) ≡ seen_read limit scratch_flags (f v)) → ((v : View) → (f v).view.scratch_flags ≡ v.scratch_flags)
    → DependsOnNoLength (λ v. if test v then Ok (f v) else Err cause)
length_by test f cause moves keeps a b k = at_alike a b (λ w. ReadingsAlike (if test a then Ok (f a) else Err cause) (if test w then Ok (f w) else Err cause)) k (λ limit scratch_flags e.
    limited_readings (test a) (test (with_limit_and_flags limit scratch_flags a)) (Ok (f a)) (Ok (f (with_limit_and_flags limit scratch_flags a))) cause cause
    (subst (λ (r : Read). ReadAlike (f a) r) (sym (moves a limit scratch_flags)) (read_alike a (f a) limit scratch_flags (keeps a) e)))

-- ---- the budget

reading_counts : (ample : ℤ → Bool) (change : ℤ → ℤ) (k : ℤ) (t : Bool) (r : Read) (cause : ShapeCause) → r.view.max_ops ≡ k → ReadingCounts ample change k (if t then Ok r else Err cause) (if t then Ok (rebudgeted_read change r) else Err cause)
reading_counts ample change k true r cause is = λ l. (subst (λ (n : ℤ). ample n ≡ true) is l, refl)
reading_counts ample change k false r cause is = tt

budget_by : (test : View → Bool) (f : View → Read) (cause : ShapeCause) → ((change : ℤ → ℤ) (v : View) → test (with_budget_changed change v) ≡ test v) → ((change : ℤ → ℤ) (v : View) → f (with_budget_changed change v) ≡ rebudgeted_read change (f v))
    → ((v : View) → (f v).view.max_ops ≡ v.max_ops) → CountsBudget (λ v. if test v then Ok (f v) else Err cause)
budget_by test f cause same moves keeps ample change fair v =
    subst (λ (t : Bool). ReadingCounts ample change v.max_ops (if test v then Ok (f v) else Err cause) (if t then Ok (f (with_budget_changed change v)) else Err cause)) (sym (same change v))
    (subst (λ (r : Read). ReadingCounts ample change v.max_ops (if test v then Ok (f v) else Err cause) (if test v then Ok r else Err cause)) (sym (moves change v)) (reading_counts ample change v.max_ops (test v) (f v) cause (keeps v)))

-- ---- both

-- a function leaves the limit of length, the budget and the scratch flags as they are, and a test reads no budget
pub record KeepsLimits (test : View → Bool) (f : View → Read) : Type 0 where
  pub seen : (v : View) (limit scratch_flags : ℕ) → f (with_limit_and_flags limit scratch_flags v) ≡ seen_read limit scratch_flags (f v)
  pub scratch_flags : (v : View) → (f v).view.scratch_flags ≡ v.scratch_flags
  pub tested : (change : ℤ → ℤ) (v : View) → test (with_budget_changed change v) ≡ test v
  pub budgeted : (change : ℤ → ℤ) (v : View) → f (with_budget_changed change v) ≡ rebudgeted_read change (f v)
  pub budget : (v : View) → (f v).view.max_ops ≡ v.max_ops

pub limited_by : (test : View → Bool) (f : View → Read) (cause : ShapeCause) → KeepsLimits test f → DependsOnNoLimit (λ v. if test v then Ok (f v) else Err cause)
limited_by test f cause k = record { limit = length_by test f cause k.seen k.scratch_flags; budget = budget_by test f cause k.tested k.budgeted k.budget }

pub always_by : (f : View → Read) → KeepsLimits (λ v. true) f → DependsOnNoLimit (always f)
always_by f k = record { limit = length_by (λ v. true) f TooLong k.seen k.scratch_flags; budget = budget_by (λ v. true) f TooLong k.tested k.budgeted k.budget }

pub same_by : DependsOnNoLimit as_it_is
same_by = record { limit = same_depends; budget = λ ample change fair. same_counts ample change }

pub then_by : (s t : Stage) → DependsOnNoLimit s → DependsOnNoLimit t → DependsOnNoLimit (λ v. and_then (s v) t)
then_by s t p q = record { limit = two_depend_on_no_length s t p.limit q.limit; budget = two_count_budget s t p.budget q.budget }

-- a stage that refuses everything
pub refused_by : (cause : ShapeCause) → DependsOnNoLimit (λ v. Err cause)
refused_by cause = record { limit = λ a b k. tt; budget = λ ample change fair v. tt }

-- one of two stages
pub either_by : (s t : Stage) → DependsOnNoLimit s → DependsOnNoLimit t → (b : Bool) → DependsOnNoLimit (λ v. if b then s v else t v)
either_by s t p q true = p
either_by s t p q false = q

either_alike : (t : Bool) (a b c d : Reading) → ReadingsAlike a c → ReadingsAlike b d → ReadingsAlike (if t then a else b) (if t then c else d)
either_alike true a b c d p q = p
either_alike false a b c d p q = q

either_counts : (ample : ℤ → Bool) (change : ℤ → ℤ) (k : ℤ) (t : Bool) (a b c d : Reading) → ReadingCounts ample change k a c → ReadingCounts ample change k b d → ReadingCounts ample change k (if t then a else b) (if t then c else d)
either_counts ample change k true a b c d p q = p
either_counts ample change k false a b c d p q = q

-- one of two stages, by a test that reads no limit
pub chosen_by : (test : View → Bool) (s t : Stage) → ((v : View) (limit scratch_flags : ℕ) → test (with_limit_and_flags limit scratch_flags v) ≡ test v) → ((change : ℤ → ℤ) (v : View) → test (with_budget_changed change v) ≡ test v) → DependsOnNoLimit s → DependsOnNoLimit t
    → DependsOnNoLimit (λ v. if test v then s v else t v)
chosen_by test s t seen counted p q = record {
  limit = λ a b k. at_alike a b (λ w. ReadingsAlike (if test a then s a else t a) (if test w then s w else t w)) k (λ limit scratch_flags e.
      let w = with_limit_and_flags limit scratch_flags a in
      let alike = views_alike a limit scratch_flags e in
      subst (λ (x : Bool). ReadingsAlike (if test a then s a else t a) (if x then s w else t w)) (sym (seen a limit scratch_flags)) (either_alike (test a) (s a) (t a) (s w) (t w) (p.limit a w alike) (q.limit a w alike)));
  budget = λ ample change fair v.
      let w = with_budget_changed change v in
      subst (λ (x : Bool). ReadingCounts ample change v.max_ops (if test v then s v else t v) (if x then s w else t w)) (sym (counted change v)) (either_counts ample change v.max_ops (test v) (s v) (t v) (s w) (t w) (p.budget ample change fair v) (q.budget ample change fair v));
}
