-- Stages that depend on no limit of length.
use Rattle.std.proofs.Common.{ℕ, ◌≡◌, Bool, true, false, if◌then◌else◌, List, [], ◌∷◌, ◌++◌, Ok, Err, refl, ap, sym, subst, ◌∙◌}
use Rattle.buffer_glyphs.specs.declared.level.BufferClusterLevel.{BufferClusterLevel}
use Rattle.buffer_glyphs.specs.declared.cause.ShapeCause.{ShapeCause}
use Rattle.buffer_glyphs.specs.Events.{Event}
use Rattle.buffer_core.specs.Readings.{View, Read, Reading, Stage, then_reading, and_then, as_it_is}
use Rattle.buffer_parts.specs.Chains.{in_order}
use Rattle.buffer_parts.specs.Alike.{attachment_bit, with_limit_and_flags, SeenAlike, ReadAlike, ReadingsAlike, DependsOnNoLength}
use Rattle.buffer_parts.specs.AlikeLaws.{AlikeAreRead, TwoDependOnNoLength, ChainsDependOnNoLength, WantedDependOnNoLength}

-- ---- what holds of each view with another limit and other flags holds of one seen alike

pub at_alike : (a b : View) (P : View → Type 0) → SeenAlike a b → ((limit scratch_flags : ℕ) → attachment_bit a.scratch_flags ≡ attachment_bit scratch_flags → P (with_limit_and_flags limit scratch_flags a)) → P b
at_alike a b P s k = subst P (sym s.same) (k b.max_len b.scratch_flags s.scratch_flags)

pub views_alike : (a : View) (limit scratch_flags : ℕ) → attachment_bit a.scratch_flags ≡ attachment_bit scratch_flags → SeenAlike a (with_limit_and_flags limit scratch_flags a)
views_alike a limit scratch_flags e = record { scratch_flags = e; same = refl }

-- ---- readings

pub refused_readings : (a : Reading) (e : ShapeCause) → ReadingsAlike a (Err e)
refused_readings (Ok r) e = tt
refused_readings (Err d) e = tt

pub limited_readings : (p q : Bool) (a b : Reading) (x y : ShapeCause) → ReadingsAlike a b → ReadingsAlike (if p then a else Err x) (if q then b else Err y)
limited_readings true true a b x y k = k
limited_readings true false a b x y k = refused_readings a y
limited_readings false q a b x y k = tt

pub then_reading_alike : (r s : Read) (a b : Reading) → ((level : BufferClusterLevel) → r.events level ≡ s.events level) → ReadingsAlike a b → ReadingsAlike (then_reading r a) (then_reading s b)
then_reading_alike r s (Ok a) (Ok b) e k = record { view = k.view; events = λ level. ap (λ (es : List Event). es ++ a.events level) (e level) ∙ ap (λ (es : List Event). s.events level ++ es) (k.events level) }
then_reading_alike r s (Ok a) (Err y) e k = tt
then_reading_alike r s (Err x) b e k = tt

pub and_then_alike : (a b : Reading) (t : Stage) → ReadingsAlike a b → DependsOnNoLength t → ReadingsAlike (and_then a t) (and_then b t)
and_then_alike (Ok r) (Ok s) t k h = then_reading_alike r s (t r.view) (t s.view) k.events (h r.view s.view k.view)
and_then_alike (Ok r) (Err y) t k h = refused_readings (and_then (Ok r) t) y
and_then_alike (Err x) b t k h = tt

pub two_depend_on_no_length : TwoDependOnNoLength
two_depend_on_no_length s t p q a b k = and_then_alike (s a) (s b) t (p a b k) q

pub same_depends : DependsOnNoLength as_it_is
same_depends a b k = record { view = k; events = λ level. refl }

pub chains_depend_on_no_length : ChainsDependOnNoLength
chains_depend_on_no_length [] all = same_depends
chains_depend_on_no_length (stage ∷ stages) all = two_depend_on_no_length stage (in_order stages) all.0 (chains_depend_on_no_length stages all.1)

pub wanted_depend_on_no_length : WantedDependOnNoLength
wanted_depend_on_no_length true stage k = k
wanted_depend_on_no_length false stage k = same_depends

abbrev ReadTheSame : Read → Read → Type 0
ReadTheSame r s = SeenAlike r.view s.view × (r.view.items ≡ s.view.items) × (r.view.positions ≡ s.view.positions) × ((level : BufferClusterLevel) → r.events level ≡ s.events level)

read_the_same : (r s : Read) → ReadAlike r s → ReadTheSame r s
read_the_same r s k = (k.view, sym (ap (λ (v : View). v.items) k.view.same), sym (ap (λ (v : View). v.positions) k.view.same), k.events)

pub alike_are_read : AlikeAreRead
alike_are_read stage a b r s h k e f = read_the_same r s (subst (λ (q : Reading). ReadingsAlike (Ok r) q) f (subst (λ (q : Reading). ReadingsAlike q (stage b)) e (h a b k)))
