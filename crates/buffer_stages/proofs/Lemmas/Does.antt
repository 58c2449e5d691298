-- What a call does after a rule that passed.
use Rattle.std.proofs.Common.{◌≡◌, false, Bool, List, [], ◌++◌, refl, sym, ap, subst, ◌∙◌, arith}
use Rattle.buffer_glyphs.specs.Events.{Event}
use Rattle.buffer_core.specs.Sides.{Sides}
use Rattle.buffer_stages.specs.Actions.{Cut, Outcome, Passes, Acts, Refuses, later}
use Rattle.buffer_stages.specs.Buffers.{are_glyphs, IsActed, IsPassed, Does}
use Rattle.buffer_stages.proofs.Lemmas.Frames.{still_settings, then_happened, same_lengths, same_numbers}

-- no rule was tried
pub passed_same : (s : Sides) → IsPassed [] s s
passed_same s = record { cut_is = refl; happened = refl; still = refl; read = refl }

pub does_nothing : (s : Sides) (o : Outcome) → o ≡ Passes [] → Does o false s s
does_nothing s o e = let P : Outcome → Type 0 = λ p. Does p false s s in subst P (sym e) (refl, passed_same s)

pub then_passed : (es fs : List Event) (a b c : Sides) → IsPassed es a b → IsPassed fs b c → IsPassed (es ++ fs) a c
then_passed es fs a b c f g = record { cut_is = g.cut_is ∙ f.cut_is; happened = then_happened es fs a b c (still_settings a b f.still) f.happened g.happened; still = g.still ∙ f.still; read = g.read ∙ f.read }

pub then_acted : (es fs : List Event) (cut : Cut) (a b c : Sides) → IsPassed es a b → IsActed cut fs b c → IsActed cut (es ++ fs) a c
then_acted es fs cut a b c f g =
    let long = same_lengths a b f.cut_is in
    let read = f.read in
    let counts = g.counts in
    record {
      cut_is = g.cut_is;
      happened = then_happened es fs a b c (still_settings a b f.still) f.happened g.happened;
      still = g.still ∙ f.still;
      counts = record { forth = omega (arith, read, counts.forth); total = omega (arith, read, long.1, counts.total); front = omega (arith, read, long.0, counts.front); kept = omega (arith, long.0, counts.kept) };
      numbers = λ h. g.numbers (ap are_glyphs (same_numbers a b f.cut_is) ∙ h);
    }

-- what is done after a rule passed
pub does_later : (es : List Event) (o : Outcome) (acted : Bool) (a b c : Sides) → IsPassed es a b → Does o acted b c → Does (later es o) acted a c
does_later es (Passes fs) acted a b c f d = (d.0, then_passed es fs a b c f d.1)
does_later es (Acts cut fs) acted a b c f d = (d.0, then_acted es fs cut a b c f d.1)
does_later es (Refuses cause) acted a b c f d = absurd d
