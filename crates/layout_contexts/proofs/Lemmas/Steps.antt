-- What is left by one call after another.
use Rattle.std.proofs.Common.{ℕ, ◌≡◌, Bool, List, [], ◌++◌, Result, Ok, Err, refl, ap, subst, ◌∙◌}
use Rattle.buffer_glyphs.specs.declared.cause.ShapeCause.{ShapeCause}
use Rattle.buffer_glyphs.specs.Events.{Event}
use Rattle.buffer_core.specs.Sides.{Sides}
use Rattle.buffer_stages.specs.Actions.{Cut, Outcome, Passes, Acts, Refuses, later}
use Rattle.buffer_stages.specs.Buffers.{are_glyphs, IsPassed}
use Rattle.buffer_stages.specs.Performing.{cut_with, IsMade, Performs}
use Rattle.buffer_stages.proofs.Lemmas.Frames.{still_settings, then_happened, same_numbers}
use Rattle.buffer_stages.proofs.Lemmas.Does.{then_passed}
use Rattle.buffer_stages.proofs.Lemmas.Performed.{same_with}
use Rattle.layout_contexts.specs.Nested.{RecordsOutcome, Walks, Stops, walked_later}
use Rattle.layout_contexts.specs.Nesting.{IsLeft, Nests, Walking}

-- nothing was done
pub here : (random : ℕ) (s : Sides) → IsLeft (cut_with random s) [] random s s
here random s = record { cut_is = refl; happened = refl; still = refl; numbers = λ h. h }

pub passed_left : (es : List Event) (random : ℕ) (a b : Sides) → IsPassed es a b → IsLeft (cut_with random a) es random a b
passed_left es random a b f = record { cut_is = same_with random a b f.cut_is; happened = f.happened; still = f.still; numbers = λ h. ap are_glyphs (same_numbers a b f.cut_is) ∙ h }

pub made_left : (cut : Cut) (es : List Event) (random : ℕ) (a b : Sides) → IsMade cut es random a b → IsLeft cut es random a b
made_left cut es random a b f = record { cut_is = f.cut_is; happened = f.happened; still = f.still; numbers = f.numbers }

-- what performs a rule nests
pub performs_nests : (o : Outcome) (result : Result Bool ShapeCause) (before after : ℕ) (a b : Sides) → Performs o result before after a b → Nests o result before after a b
performs_nests (Passes es) (Ok acted) before after a b d = d
performs_nests (Acts cut es) (Ok acted) before after a b d = (d.0, made_left cut es after a b d.1)
performs_nests (Refuses cause) (Ok acted) before after a b d = absurd d
performs_nests (Passes es) (Err e) before after a b d = d
performs_nests (Acts cut es) (Err e) before after a b d = d
performs_nests (Refuses cause) (Err e) before after a b d = d

pub then_left : (c d : Cut) (es fs : List Event) (r q : ℕ) (a b e : Sides) → IsLeft c es r a b → IsLeft d fs q b e → IsLeft d (es ++ fs) q a e
then_left c d es fs r q a b e f g = record {
  cut_is = g.cut_is;
  happened = then_happened es fs a b e (still_settings a b f.still) f.happened g.happened;
  still = g.still ∙ f.still;
  numbers = λ h. g.numbers (f.numbers h);
}

-- what is done after some marks
pub nests_later : (es : List Event) (o : Outcome) (result : Result Bool ShapeCause) (before after : ℕ) (a b final : Sides) → IsPassed es a b → Nests o result before after b final → Nests (later es o) result before after a final
nests_later es (Passes fs) (Ok acted) before after a b final f d = (d.0, d.1, then_passed es fs a b final f d.2)
nests_later es (Acts cut fs) (Ok acted) before after a b final f d = (d.0, then_left (cut_with before a) cut es fs before after a b final (passed_left es before a b f) d.1)
nests_later es (Refuses cause) (Ok acted) before after a b final f d = absurd d
nests_later es (Passes fs) (Err e) before after a b final f d = λ h. ap (later es) (d h)
nests_later es (Acts cut fs) (Err e) before after a b final f d = λ h. ap (later es) (d h)
nests_later es (Refuses cause) (Err e) before after a b final f d = λ h. ap (later es) (d h)

-- a walk that begins where something was left
pub walk_behind : (c : Cut) (es : List Event) (r after : ℕ) (w : RecordsOutcome) (result : Result ℕ ShapeCause) (qs : List ℕ) (a b final : Sides) → IsLeft c es r a b → Walking w result qs after b final → Walking (walked_later es w) result qs after a final
walk_behind c es r after (Walks cut ps end fs) (Ok at) qs a b final f h = (h.0, h.1, then_left c cut es fs r after a b final f h.2)
walk_behind c es r after (Stops cause) (Ok at) qs a b final f h = absurd h
walk_behind c es r after (Walks cut ps end fs) (Err e) qs a b final f h = λ n. ap (walked_later es) (h n)
walk_behind c es r after (Stops cause) (Err e) qs a b final f h = λ n. ap (walked_later es) (h n)

later_none : (w : RecordsOutcome) → walked_later [] w ≡ w
later_none (Walks cut ps end es) = refl
later_none (Stops cause) = refl

pub walk_there : (c : Cut) (r after : ℕ) (w : RecordsOutcome) (result : Result ℕ ShapeCause) (qs : List ℕ) (a b final : Sides) → IsLeft c [] r a b → Walking w result qs after b final → Walking w result qs after a final
walk_there c r after w result qs a b final f h = let P : RecordsOutcome → Type 0 = λ v. Walking v result qs after a final in subst P (later_none w) (walk_behind c [] r after w result qs a b final f h)
