-- Stages one after another, and runs that follow them.
use Rattle.std.proofs.Common.{ℕ, ◌≡◌, ◌++◌, List, [], length, Ok, Err, refl, ap, subst, ◌∙◌}
use Rattle.buffer_glyphs.specs.declared.level.BufferClusterLevel.{BufferClusterLevel}
use Rattle.buffer_glyphs.specs.Events.{Event}
use Rattle.buffer_parts.specs.Counts.{count_after}
use Rattle.buffer_parts.specs.Turns.{IsUnturned}
use Rattle.buffer_parts.specs.Keeping.{AreKept}
use Rattle.buffer_parts.specs.Lemmas.Turns.{unturned_in_turn}
use Rattle.buffer_parts.specs.Lemmas.Counts.{counts_follow}
use Rattle.buffer_parts.specs.Lemmas.Keeping.{kept_in_turn, plain_is_kept, kept_events_have_parts}
use Rattle.buffer_core.specs.Readings.{View, Read, Reading, Stage, then_read, then_reading, and_then, as_it_is, with_events}
use Rattle.buffer_parts.specs.Stages.{KeepsParts, StaysUnturned}
use Rattle.buffer_parts.specs.StageLaws.{StagesKeepParts, StagesStayUnturned, RunsHaveParts}

abbrev read_or : Read → Reading → Read
read_or r (Ok s) = s
read_or r (Err e) = r

pub same_read : (s r : Read) → ◌≡◌ {A = Reading} (Ok s) (Ok r) → s ≡ r
same_read s r e = ap (read_or s) e

-- what is known of a reading is known of what it reads
pub at_read : (P : Read → Type 0) (s r : Read) → ◌≡◌ {A = Reading} (Ok s) (Ok r) → P s → P r
at_read P s r e p = subst P (same_read s r e) p

-- what two stages read, one after the other
pub record AreRead (a : Reading) (t : Stage) (r : Read) : Type 0 where
  pub first : Read
  pub second : Read
  pub first_is : a ≡ Ok first
  pub second_is : t first.view ≡ Ok second
  pub both : then_read first second ≡ r

pub both_read : (a : Reading) (t : Stage) (r : Read) → and_then a t ≡ Ok r → AreRead a t r
both_read (Err c) t r e = cc
both_read (Ok a) t r e = by_second (t a.view) refl e
  where
    by_second : (b : Reading) → t a.view ≡ b → then_reading a b ≡ Ok r → AreRead (Ok a) t r
    by_second (Ok b) g h = record { first = a; second = b; first_is = refl; second_is = g; both = same_read (then_read a b) r h }
    by_second (Err c) g h = cc

-- a reading on n items keeps the parts
abbrev pub ReadsParts : ℕ → Reading → Type 0
ReadsParts n a = (r : Read) (level : BufferClusterLevel) → a ≡ Ok r → AreKept level (r.events level) n (length r.view.items)

pub nothing_keeps : (level : BufferClusterLevel) (n : ℕ) → AreKept level [] n n
nothing_keeps level n = plain_is_kept level [] n n tt tt refl

pub read_now : (n : ℕ) (es : List Event) (v : View) → ((level : BufferClusterLevel) → AreKept level es n (length v.items)) → ReadsParts n (Ok (with_events es v))
read_now n es v p r level e = at_read (λ q. AreKept level (q.events level) n (length q.view.items)) (with_events es v) r e (p level)

-- what is read after a reading
pub then_reading_keeps : (n m : ℕ) (es : List Event) (w : View) (next : Reading) → ((level : BufferClusterLevel) → AreKept level es n m) → ReadsParts m next → ReadsParts n (then_reading (with_events es w) next)
then_reading_keeps n m es w (Ok s) p q r level e =
    at_read (λ t. AreKept level (t.events level) n (length t.view.items)) (record { view = s.view; events = λ l. es ++ s.events l }) r e (kept_in_turn level es (s.events level) n m (length s.view.items) (p level) (q s level refl))
then_reading_keeps n m es w (Err cause) p q r level e = cc

-- a reading, and then a stage
pub then_reads : (n : ℕ) (a : Reading) (t : Stage) → ReadsParts n a → KeepsParts t → ReadsParts n (and_then a t)
then_reads n a t p q r level e =
    let two = both_read a t r e in
    subst (λ (w : Read). AreKept level (w.events level) n (length w.view.items)) two.both
    (kept_in_turn level (two.first.events level) (two.second.events level) n (length two.first.view.items) (length two.second.view.items) (p two.first level two.first_is) (q two.first.view two.second level two.second_is))

pub stages_keep_parts : StagesKeepParts
stages_keep_parts s t p q v r level e = then_reads (length v.items) (s v) t (p v) q r level e

pub same_keeps : KeepsParts as_it_is
same_keeps v r level e = at_read (λ q. AreKept level (q.events level) (length v.items) (length q.view.items)) (with_events [] v) r e (nothing_keeps level (length v.items))

pub same_unturned : StaysUnturned as_it_is
same_unturned v r level mono e = at_read (λ q. IsUnturned (q.events level)) (with_events [] v) r e tt

pub stages_stay_unturned : StagesStayUnturned
stages_stay_unturned s t p q v r level mono e =
    let two = both_read (s v) t r e in
    subst (λ (q : Read). IsUnturned (q.events level)) two.both
    (unturned_in_turn (two.first.events level) (two.second.events level) (p v two.first level mono two.first_is) (q two.first.view two.second level mono two.second_is))

pub runs_have_parts : RunsHaveParts
runs_have_parts stage run r falls keeps mono e count o =
    let kept = keeps run.view r run.level e in (
      kept_events_have_parts run.level (r.events run.level) (length run.view.items) (length r.view.items) falls run.asks run.origins kept mono count o,
      counts_follow run.asks run.level (r.events run.level) run.origins ∙ ap (count_after (r.events run.level)) count ∙ kept.counted,
    )
