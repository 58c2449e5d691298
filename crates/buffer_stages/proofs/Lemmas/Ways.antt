-- Stages one after another, each done from one random state to another.
use Rattle.std.proofs.Common.{ℕ, ◌≡◌, true, Ok, Err, Option, Some, [], refl, subst, ◌∙◌}
use Rattle.buffer_glyphs.specs.declared.cause.ShapeCause.{ShapeCause}
use Rattle.buffer_core.specs.Readings.{View, BufferState, Reading, Stage, Follows, reading_of, always, with_events, and_then, as_it_is}
use Rattle.buffer_core.specs.Steps.{follows_then, follows_same, refused_first, refused_then}
use Rattle.buffer_core.specs.Sides.{Sides, Settings, settings_of, items_of, state_of}
use Rattle.buffer_stages.specs.Buffers.{are_glyphs}
use Rattle.buffer_stages.specs.Ready.{IsReady, IsDone, IsDoneFrom, state_with}
use Rattle.buffer_stages.specs.Pauses.{Pauses, pause_stage}
use Rattle.buffer_stages.specs.Settings.{TextSettings, text_settings, text_settings_of}

-- nothing is done by a stage that leaves all as it is
pub nothing_done : (r : ℕ) (s : Sides) → IsReady s → IsDoneFrom r r as_it_is s s
nothing_done r s ready = record { follows = follows_same (state_with r s); settings = refl; ready = ready; numbers = λ h. h }

-- two stages
pub both_done : (first second : Stage) (before r after : ℕ) (old now next : Sides) → IsDoneFrom before r first old now → IsDoneFrom r after second now next → IsDoneFrom before after (λ v. and_then (first v) second) old next
both_done first second before r after old now next d e = record {
  follows = follows_then (reading_of first (state_with before old)) second (state_with before old) (state_with r now) (state_with after next) d.follows e.follows;
  settings = e.settings ∙ d.settings;
  ready = e.ready;
  numbers = λ h. e.numbers (d.numbers h);
}

pub second_refused : (first second : Stage) (before r : ℕ) (old now : Sides) (cause : ShapeCause) → IsDoneFrom before r first old now → reading_of second (state_with r now) ≡ Err cause → reading_of (λ v. and_then (first v) second) (state_with before old) ≡ Err cause
second_refused first second before r old now cause d e = refused_then (reading_of first (state_with before old)) second (state_with before old) (state_with r now) cause d.follows e

pub first_refused : (first second : Stage) (before : ℕ) (old : Sides) (cause : ShapeCause) → reading_of first (state_with before old) ≡ Err cause → reading_of (λ v. and_then (first v) second) (state_with before old) ≡ Err cause
first_refused first second before old cause e = refused_first (reading_of first (state_with before old)) second cause e

-- ---- pauses

-- a run's random state is read by the reading alone
from_state : (q : Reading) (r : ℕ) (old : Sides) (new : BufferState) → Follows q (state_of old) new → Follows q (state_with r old) new
from_state (Ok read) r old new f = f
from_state (Err cause) r old new f = f

pub paused : (pauses : Pauses) (n : ℕ) (r : ℕ) (old new : Sides) → IsDone (pauses n) old new → IsDoneFrom r r (pause_stage pauses (Some n)) old new
paused pauses n r old new d = record {
  follows = follows_then (reading_of (pauses n) (state_of old)) (always (λ (w : View). with_events [] (record w { random = r }))) (state_with r old) (state_of new) (state_with r new) (from_state (reading_of (pauses n) (state_of old)) r old (state_of new) d.follows) refl;
  settings = d.settings;
  ready = d.ready;
  numbers = d.numbers;
}

pub pause_refused : (pauses : Pauses) (n : ℕ) (r : ℕ) (old : Sides) (cause : ShapeCause) → reading_of (pauses n) (state_of old) ≡ Err cause → reading_of (pause_stage pauses (Some n)) (state_with r old) ≡ Err cause
pause_refused pauses n r old cause e = refused_first (reading_of (pauses n) (state_of old)) (always (λ (w : View). with_events [] (record w { random = r }))) cause e

-- a pause knows the settings of the text as they were before the stages
pub paused_as_set : (stage : TextSettings → Pauses) (p : Option ℕ) (r : ℕ) (was old new : Sides) → settings_of old ≡ settings_of was → IsDoneFrom r r (pause_stage (stage (text_settings old)) p) old new
    → IsDoneFrom r r (pause_stage (stage (text_settings was)) p) old new
paused_as_set stage p r was old new same d = let P : Settings → Type 0 = λ st. IsDoneFrom r r (pause_stage (stage (text_settings_of st)) p) old new in subst P same d

pub refused_as_set : (stage : TextSettings → Pauses) (p : Option ℕ) (r : ℕ) (was old : Sides) (cause : ShapeCause) → settings_of old ≡ settings_of was → reading_of (pause_stage (stage (text_settings old)) p) (state_with r old) ≡ Err cause
    → reading_of (pause_stage (stage (text_settings was)) p) (state_with r old) ≡ Err cause
refused_as_set stage p r was old cause same e = let P : Settings → Type 0 = λ st. reading_of (pause_stage (stage (text_settings_of st)) p) (state_with r old) ≡ Err cause in subst P same e

-- some stages were done; whatever follows, or is refused, by those that are left is so by all
pub record AreStagesDone (all left : Stage) (before r : ℕ) (old now : Sides) : Type 0 where
  pub ready : IsReady now
  pub settings : settings_of now ≡ settings_of old
  pub numbers : are_glyphs (items_of old) ≡ true → are_glyphs (items_of now) ≡ true
  pub follows : (final : BufferState) → Follows (reading_of left (state_with r now)) (state_with r now) final → Follows (reading_of all (state_with before old)) (state_with before old) final
  pub refuses : (cause : ShapeCause) → reading_of left (state_with r now) ≡ Err cause → reading_of all (state_with before old) ≡ Err cause

pub no_stage_done : (all : Stage) (r : ℕ) (s : Sides) → IsReady s → AreStagesDone all all r r s s
no_stage_done all r s ready = record { ready = ready; settings = refl; numbers = λ h. h; follows = λ final f. f; refuses = λ cause e. e }

pub next_done : (all first left : Stage) (before r after : ℕ) (old now next : Sides) → AreStagesDone all (λ v. and_then (first v) left) before r old now → IsDoneFrom r after first now next → AreStagesDone all left before after old next
next_done all first left before r after old now next a d = record {
  ready = d.ready;
  settings = d.settings ∙ a.settings;
  numbers = λ h. d.numbers (a.numbers h);
  follows = λ final f. a.follows final (follows_then (reading_of first (state_with r now)) left (state_with r now) (state_with after next) final d.follows f);
  refuses = λ cause g. a.refuses cause (refused_then (reading_of first (state_with r now)) left (state_with r now) (state_with after next) cause d.follows g);
}

pub next_refused : (all first left : Stage) (before r : ℕ) (old now : Sides) (cause : ShapeCause) → AreStagesDone all (λ v. and_then (first v) left) before r old now → reading_of first (state_with r now) ≡ Err cause → reading_of all (state_with before old) ≡ Err cause
next_refused all first left before r old now cause a is = a.refuses cause (refused_first (reading_of first (state_with r now)) left cause is)

-- none is left
pub stages_done : (all left : Stage) (before r : ℕ) (old now : Sides) → Follows (reading_of left (state_with r now)) (state_with r now) (state_with r now) → AreStagesDone all left before r old now → IsDoneFrom before r all old now
stages_done all left before r old now none a = record { follows = a.follows (state_with r now) none; settings = a.settings; ready = a.ready; numbers = a.numbers }
