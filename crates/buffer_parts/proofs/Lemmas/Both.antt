-- Two views that differ in both limits.
use Rattle.std.proofs.Common.{ℕ, ℤ, pos, negsuc, ◌≡◌, ◌+◌, ◌-◌, ◌≤◌, ◌+ℤ◌, Bool, true, false, nat_le, Ok, arith, refl, ap, sym, subst, ◌∙◌}
use Rattle.std.proofs.lemmas.Bool.Decides.{nat_tests}
use Rattle.std.proofs.lemmas.Grind.{common_steps}
use Rattle.buffer_glyphs.specs.declared.level.BufferClusterLevel.{BufferClusterLevel}
use Rattle.buffer_core.specs.Readings.{View, Read, Reading, Stage}
use Rattle.buffer_parts.specs.Alike.{with_limit_and_flags, SeenAlike, ReadAlike, ReadingsAlike, DependsOnNoLength}
use Rattle.buffer_parts.specs.Counting.{is_left, with_more_budget, eased_read, at_budget, ReadingSpares, SparesBudget, SeenAlikeInAll}
use Rattle.buffer_parts.specs.BudgetLaws.{SparingAlikeAreRead, UsedAlikeAreRead}
use Rattle.buffer_parts.specs.Lemmas.Counting.{spared}

le_part : (m n : ℕ) → nat_le m n ≡ true → n ≡ m + (n - m)
le_part m n e = grind (arith, nat_tests, common_steps)

ge_part : (m n : ℕ) → nat_le m n ≡ false → m ≡ n + (m - n)
ge_part m n e = grind (arith, nat_tests, common_steps)

-- of two budgets of which something is left one is the other and some more
either_more : (P : Type 0) (j k : ℤ) → is_left j ≡ true → is_left k ≡ true → ((d : ℕ) → k ≡ j +ℤ pos d → P) → ((d : ℕ) → j ≡ k +ℤ pos d → P) → P
either_more P (negsuc m) k l g up down = cc
either_more P (pos m) (negsuc n) l g up down = cc
either_more P (pos m) (pos n) l g up down = by_test (nat_le m n) refl
  where
    by_test : (t : Bool) → nat_le m n ≡ t → P
    by_test true e = up (n - m) (ap (λ (x : ℕ). pos x) (le_part m n e))
    by_test false e = down (m - n) (ap (λ (x : ℕ). pos x) (ge_part m n e))

left_before : (stage : Stage) (v : View) (r : Read) → SparesBudget stage → stage v ≡ Ok r → is_left r.view.max_ops ≡ true → is_left v.max_ops ≡ true
left_before stage v r p e l = (subst (λ (x : Reading). ReadingSpares 0 v.max_ops x (stage (with_more_budget 0 v))) e (p v 0) l).0

pub read_alike : (stage : Stage) (a b : View) (r s : Read) → DependsOnNoLength stage → SeenAlike a b → stage a ≡ Ok r → stage b ≡ Ok s → ReadAlike r s
read_alike stage a b r s h k e f = subst (λ (q : Reading). ReadingsAlike (Ok r) q) f (subst (λ (q : Reading). ReadingsAlike q (stage b)) e (h a b k))

abbrev AllTheSame : Read → Read → Type 0
AllTheSame r s = SeenAlikeInAll r.view s.view × (r.view.items ≡ s.view.items) × (r.view.positions ≡ s.view.positions) × ((level : BufferClusterLevel) → r.events level ≡ s.events level)

all_the_same : (r s : Read) → SeenAlikeInAll r.view s.view → ((level : BufferClusterLevel) → r.events level ≡ s.events level) → AllTheSame r s
all_the_same r s k e = (k, sym (ap (λ (v : View). v.items) k.same), sym (ap (λ (v : View). v.positions) k.same), e)

pub sparing_alike_are_read : SparingAlikeAreRead
sparing_alike_are_read stage a b r s h p k e f lr ls = either_more (AllTheSame r s) a.max_ops b.max_ops (left_before stage a r p e lr) (left_before stage b s p f ls) up down
  where
    up : (d : ℕ) → b.max_ops ≡ a.max_ops +ℤ pos d → AllTheSame r s
    up d o =
        let alike : SeenAlike (with_more_budget d a) b = record { scratch_flags = k.scratch_flags; same = ap (λ (w : View). at_budget b.max_ops w) k.same ∙ ap (λ (z : ℤ). at_budget z (with_limit_and_flags b.max_len b.scratch_flags a)) o } in
        let both = read_alike stage (with_more_budget d a) b (eased_read d r) s h alike (spared stage a d r p e lr) f in
        all_the_same r s (record { scratch_flags = both.view.scratch_flags; same = ap (λ (w : View). at_budget r.view.max_ops w) both.view.same }) both.events

    down : (d : ℕ) → a.max_ops ≡ b.max_ops +ℤ pos d → AllTheSame r s
    down d o =
        let alike : SeenAlike a (with_more_budget d b) = subst (λ (z : ℤ). SeenAlike a (at_budget z b)) o k in
        let both = read_alike stage a (with_more_budget d b) r (eased_read d s) h alike e (spared stage b d s p f ls) in
        all_the_same r s (record { scratch_flags = both.view.scratch_flags; same = ap (λ (w : View). at_budget r.view.max_ops w) both.view.same }) both.events

-- ---- uses

pub used_alike_are_read : UsedAlikeAreRead
used_alike_are_read stage a b m n j k h s u w =
    let x : m ≤ m + n = omega arith in
    let y : n ≤ m + n = omega arith in
    let alike : SeenAlike (at_budget (pos (m + n)) a) (at_budget (pos (m + n)) b) = record { scratch_flags = s.scratch_flags; same = ap (λ (q : View). at_budget (pos (m + n)) q) s.same } in
    let both = read_alike stage (at_budget (pos (m + n)) a) (at_budget (pos (m + n)) b) _ _ h alike (u.same (m + n) x) (w.same (m + n) y) in
    all_the_same u.read w.read (record { scratch_flags = both.view.scratch_flags; same = ap (λ (q : View). at_budget u.read.view.max_ops q) both.view.same }) both.events
