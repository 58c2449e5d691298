-- Stages that never refuse, on a text that is divided, with something known of its fragments.
use Rattle.std.proofs.Common.{ℕ, ◌≡◌, ◌⊎◌, inl, inr, Bool, true, false, refl}
use Rattle.buffer_core.specs.Readings.{BufferState, Read, View, always}
use Rattle.buffer_parts.specs.Breaks.Divisible.{IsBreakable, IsFreelyDivisible, StaysDivided}
use Rattle.buffer_parts.specs.Breaks.Fragments.{AreFragments}
use Rattle.buffer_parts.specs.Breaks.Unsafe.{IsUnsafeAt}
use Rattle.shape_laws.proofs.BreakLemmas.PlainDivision.{state_by}
use Rattle.shape_laws.proofs.BreakLemmas.Route.{state_if}

-- a text is breakable; and it is unsafe to break at c, or two states are its fragments there, and something holds of them
pub record Carries (falls : Bool) (c : ℕ) (whole earlier later : BufferState) (P : Type 0) : Type 0 where
  pub ready : IsBreakable whole
  pub divided : IsUnsafeAt c whole.origins ⊎ (AreFragments falls c whole earlier later × P)

pub carried : (falls turned : Bool) (f g h : View → Read) (c : ℕ) (whole earlier later : BufferState) (P : Type 0) → IsFreelyDivisible falls turned (always f) (always g) (always h) → Carries falls c whole earlier later P
    → Carries turned c (state_by f whole) (state_by g earlier) (state_by h later) P
carried falls turned f g h c whole earlier later P p q = record {
  ready = p.breakable whole (f whole.view) refl q.ready;
  divided = elim q.divided [
    | inl unsafe ↦ inl (p.unsafe whole (f whole.view) c refl q.ready unsafe)
    | inr both ↦ elim (p.divides c whole earlier later (f whole.view) (g earlier.view) (h later.view) q.ready both.0 refl refl refl) [ inl unsafe ↦ inl unsafe | inr again ↦ inr (again, both.1) ]
  ];
}

pub carried_if : (b falls : Bool) (f g h : View → Read) (c : ℕ) (whole earlier later : BufferState) (P : Type 0) → (b ≡ true → IsFreelyDivisible falls falls (always f) (always g) (always h)) → Carries falls c whole earlier later P
    → Carries falls c (state_if b f whole) (state_if b g earlier) (state_if b h later) P
carried_if true falls f g h c whole earlier later P p q = carried falls falls f g h c whole earlier later P (p refl) q
carried_if false falls f g h c whole earlier later P p q = q

-- what is known of fragments leads to something else that is
pub carried_as : (falls : Bool) (c : ℕ) (whole earlier later : BufferState) (P Q : Type 0) → (AreFragments falls c whole earlier later → P → Q) → Carries falls c whole earlier later P → Carries falls c whole earlier later Q
carried_as falls c whole earlier later P Q next q = record {
  ready = q.ready;
  divided = elim q.divided [ inl unsafe ↦ inl unsafe | inr both ↦ inr (both.0, next both.0 both.1) ];
}

-- a text whose fragments lose what was known of them
pub carried_plain : (falls : Bool) (c : ℕ) (whole earlier later : BufferState) (P : Type 0) → Carries falls c whole earlier later P → StaysDivided falls c whole earlier later
carried_plain falls c whole earlier later P q = elim q.divided [ inl unsafe ↦ inl unsafe | inr both ↦ inr both.0 ]
