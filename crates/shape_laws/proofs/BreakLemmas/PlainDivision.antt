-- Stages that never refuse, and whose events permute nothing without a merge.
use Rattle.std.proofs.Common.{ℕ, ◌≡◌, ◌⊎◌, inl, inr, Bool, Ok, length, sym, ap, subst, ◌∙◌}
use Rattle.buffer_glyphs.specs.declared.level.BufferClusterLevel.{BufferClusterLevel}
use Rattle.buffer_glyphs.specs.Events.{IsPlain}
use Rattle.buffer_parts.specs.Counts.{count_after}
use Rattle.buffer_parts.specs.Lemmas.Counts.{counts_follow}
use Rattle.buffer_parts.specs.Lemmas.Orderly.{plain_is_orderly}
use Rattle.buffer_parts.specs.Lemmas.Stages.{same_read}
use Rattle.buffer_core.specs.Readings.{View, Read, BufferState, always, state_after}
use Rattle.buffer_parts.specs.Breaks.Beside.{IsReadBeside}
use Rattle.buffer_parts.specs.Breaks.Divisible.{IsBreakable, IsFreelyDivisible, KeepsUnsafe, StaysBreakable, StaysDivided}
use Rattle.buffer_parts.specs.Breaks.Fragments.{AreFragments}
use Rattle.buffer_parts.specs.Breaks.Lossless.{AreLossless}
use Rattle.buffer_parts.specs.Breaks.Unsafe.{IsUnsafeAt}
use Rattle.buffer_parts.proofs.BreakLemmas.Beside.{beside_stays_divided}
use Rattle.buffer_parts.proofs.BreakLemmas.Events.{safe_breaks_stay, unsafe_stays}

-- what is read of each view: plain events that lose no flag, as many items as they leave, and a position for each
pub record IsPlainStage (f : View → Read) : Type 0 where
  pub plain : (v : View) (level : BufferClusterLevel) → IsPlain ((f v).events level)
  pub lossless : (v : View) (level : BufferClusterLevel) → AreLossless ((f v).events level) (length v.items)
  pub counted : (v : View) (level : BufferClusterLevel) → count_after ((f v).events level) (length v.items) ≡ length (f v).view.items
  pub positions : (v : View) → length v.positions ≡ length v.items → length (f v).view.positions ≡ length (f v).view.items

-- the state after a stage that never refuses
abbrev pub state_by : (View → Read) → BufferState → BufferState
state_by f s = state_after (f s.view) s

pub state_by_is : (f : View → Read) (s : BufferState) (r : Read) → always f s.view ≡ Ok r → state_by f s ≡ state_after r s
state_by_is f s r is = ap (λ (x : Read). state_after x s) (same_read (f s.view) r is)

pub state_by_breakable : (f : View → Read) → IsPlainStage f → (s : BufferState) → IsBreakable s → IsBreakable (state_by f s)
state_by_breakable f p s b =
    let es = (f s.view).events s.level in
    record {
      breaks = safe_breaks_stay s.asks s.level es s.origins b.breaks (plain_is_orderly s.asks s.level es s.origins (p.plain s.view s.level));
      whole = record { positions = p.positions s.view b.whole.positions; origins = counts_follow s.asks s.level es s.origins ∙ ap (λ n. count_after es n) b.whole.origins ∙ p.counted s.view s.level };
    }

pub state_by_lossless : (f : View → Read) → IsPlainStage f → (s : BufferState) → IsBreakable s → AreLossless ((f s.view).events s.level) (length s.origins)
state_by_lossless f p s b = subst (AreLossless ((f s.view).events s.level)) (sym b.whole.origins) (p.lossless s.view s.level)

pub state_by_unsafe : (f : View → Read) → IsPlainStage f → (s : BufferState) (c : ℕ) → IsBreakable s → IsUnsafeAt c s.origins → IsUnsafeAt c (state_by f s).origins
state_by_unsafe f p s c b u =
    let es = (f s.view).events s.level in
    unsafe_stays s.asks s.level es s.origins c b.breaks (plain_is_orderly s.asks s.level es s.origins (p.plain s.view s.level)) (state_by_lossless f p s b) u

pub plain_breakable : (f : View → Read) → IsPlainStage f → StaysBreakable (always f)
plain_breakable f p = λ s r is b. subst IsBreakable (state_by_is f s r is) (state_by_breakable f p s b)

pub plain_unsafe : (f : View → Read) → IsPlainStage f → KeepsUnsafe (always f)
plain_unsafe f p = λ s r c is b u. subst (λ (x : BufferState). IsUnsafeAt c x.origins) (state_by_is f s r is) (state_by_unsafe f p s c b u)

-- what such a stage does to a text, others do to its fragments, if it is so for what they leave
pub plain_is_divisible : (falls turned : Bool) (f g h : View → Read) → IsPlainStage f
    → ((c : ℕ) (whole earlier later : BufferState) → IsBreakable whole → AreFragments falls c whole earlier later → StaysDivided turned c (state_by f whole) (state_by g earlier) (state_by h later))
    → IsFreelyDivisible falls turned (always f) (always g) (always h)
plain_is_divisible falls turned f g h p divides = record {
  divides = λ c whole earlier later r e l ready j is_r is_e is_l.
      subst (λ (x : BufferState). StaysDivided turned c x (state_after e earlier) (state_after l later)) (state_by_is f whole r is_r)
      (subst (λ (x : BufferState). StaysDivided turned c (state_by f whole) x (state_after l later)) (state_by_is g earlier e is_e)
      (subst (λ (x : BufferState). StaysDivided turned c (state_by f whole) (state_by g earlier) x) (state_by_is h later l is_l) (divides c whole earlier later ready j)));
  breakable = plain_breakable f p;
  unsafe = plain_unsafe f p;
}

-- so it is where each text is read beside its fragments, or made unsafe to break
pub beside_divides : (backward falls : Bool) (f g h : View → Read) → IsPlainStage f → (c : ℕ) (whole earlier later : BufferState) → IsBreakable whole → AreFragments falls c whole earlier later
    → IsUnsafeAt c (state_by f whole).origins ⊎ IsReadBeside backward falls whole.level (length earlier.origins) (length later.origins) (f whole.view) (g earlier.view) (h later.view)
    → StaysDivided falls c (state_by f whole) (state_by g earlier) (state_by h later)
beside_divides backward falls f g h p c whole earlier later b j (inl unsafe) = inl unsafe
beside_divides backward falls f g h p c whole earlier later b j (inr read) =
    let es = (f whole.view).events whole.level in
    beside_stays_divided backward falls c whole earlier later (f whole.view) (g earlier.view) (h later.view) b j (plain_is_orderly whole.asks whole.level es whole.origins (p.plain whole.view whole.level)) (state_by_lossless f p whole b) read
