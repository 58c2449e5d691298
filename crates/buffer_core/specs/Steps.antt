-- Readings of one pipeline stage after another.
use Rattle.std.proofs.Common.{◌≡◌, List, [], Ok, Err, refl, sym, ap, subst, ◌∙◌, append_assoc}
use Rattle.std.proofs.lemmas.List.{append-nil}
use Rattle.buffer_glyphs.specs.declared.cause.ShapeCause.{ShapeCause}
use Rattle.buffer_glyphs.specs.Events.{Event, origins_after}
use Rattle.buffer_core.specs.Readings.{View, Read, Reading, Stage, then_read, then_reading, and_then, with_events, as_it_is, always, BufferState, state_after, Follows, reading_of}
use Rattle.buffer_glyphs.specs.Lemmas.Origins.{origins_after_both}

pub run_after_both : (r s : Read) (run : BufferState) → state_after s (state_after r run) ≡ state_after (then_read r s) run
run_after_both r s run = ap (λ os. record { view = s.view; origins = os; level = run.level; asks = run.asks }) (sym (origins_after_both run.asks run.level (r.events run.level) (s.events run.level) run.origins))

follows_then_reading : (r : Read) (s : Reading) (old new : BufferState) → Follows s (state_after r old) new → Follows (then_reading r s) old new
follows_then_reading r (Ok s) old new g = g ∙ run_after_both r s old
follows_then_reading r (Err e) old new g = absurd g

-- the state after a reading and a stage follows the stage after the reading
pub follows_then : (r : Reading) (next : Stage) (old mid new : BufferState) → Follows r old mid → Follows (reading_of next mid) mid new → Follows (and_then r next) old new
follows_then (Ok r) next old mid new f g = let P : BufferState → Type 0 = λ m. Follows (reading_of next m) m new in follows_then_reading r (next r.view) old new (subst P f g)
follows_then (Err e) next old mid new f g = absurd f

-- a refusal after a reading
pub refused_then : (r : Reading) (next : Stage) (old mid : BufferState) (e : ShapeCause) → Follows r old mid → reading_of next mid ≡ Err e → and_then r next ≡ Err e
refused_then (Ok r) next old mid e f g = ap (then_reading r) (ap next (sym (ap (λ (m : BufferState). m.view) f)) ∙ g)
refused_then (Err e') next old mid e f g = absurd f

-- a refusal before a stage
pub refused_first : (r : Reading) (next : Stage) (e : ShapeCause) → r ≡ Err e → and_then r next ≡ Err e
refused_first r next e h = rw h refl

-- the state after events alone, at whatever level, follows their reading
pub follows_events : (es : List Event) (v : View) (old new : BufferState) → new.view ≡ v → new.origins ≡ origins_after old.asks old.level es old.origins → new.level ≡ old.level → new.asks ≡ old.asks
    → Follows (Ok (with_events es v)) old new
follows_events es v old new view origins level asks =
    ap (λ w. record { view = w; origins = new.origins; level = new.level; asks = new.asks }) view ∙ ap (λ os. record { view = v; origins = os; level = new.level; asks = new.asks }) origins
    ∙ ap (λ l. record { view = v; origins = origins_after old.asks old.level es old.origins; level = l; asks = new.asks }) level
    ∙ ap (λ a. record { view = v; origins = origins_after old.asks old.level es old.origins; level = old.level; asks = a }) asks

-- a state that stays follows the reading that changes nothing
pub follows_same : (run : BufferState) → Follows (reading_of as_it_is run) run run
follows_same run = refl

-- a stage that never refuses, after a reading
pub then_follows : (r : Reading) (next : View → Read) (old mid new : BufferState) → Follows r old mid → new ≡ state_after (next mid.view) mid → Follows (and_then r (always next)) old new
then_follows r next old mid new f g = follows_then r (always next) old mid new f g

then_reading_assoc : (r s : Read) (q : Reading) → then_reading r (then_reading s q) ≡ then_reading (then_read r s) q
then_reading_assoc r s (Ok t) = simp append_assoc
then_reading_assoc r s (Err e) = refl

then_reading_stage : (r : Read) (s : Reading) (last : Stage) → and_then (then_reading r s) last ≡ then_reading r (and_then s last)
then_reading_stage r (Ok s) last = sym (then_reading_assoc r s (last s.view))
then_reading_stage r (Err e) last = refl

-- it does not matter how stages are grouped
pub and_then_assoc : (r : Reading) (next last : Stage) → and_then (and_then r next) last ≡ and_then r (λ v. and_then (next v) last)
and_then_assoc (Ok r) next last = then_reading_stage r (next r.view) last
and_then_assoc (Err e) next last = refl

-- a reading after one without events is that reading
pub nothing_then : (v : View) (r : Reading) → then_reading (with_events [] v) r ≡ r
nothing_then v (Ok s) = refl
nothing_then v (Err e) = refl

-- the stage that changes nothing adds nothing, before a stage or after a reading
pub as_it_is_then : (v : View) (next : Stage) → and_then (as_it_is v) next ≡ next v
as_it_is_then v next = nothing_then v (next v)

pub then_as_it_is : (r : Reading) → and_then r as_it_is ≡ r
then_as_it_is (Ok r) = simp append-nil
then_as_it_is (Err e) = refl

-- a reading that comes after some events
pub follows_happened : (es : List Event) (v : View) (q : Reading) (old mid new : BufferState) → mid.origins ≡ origins_after old.asks old.level es old.origins → mid.level ≡ old.level → mid.asks ≡ old.asks → Follows q mid new → Follows (then_reading (with_events es v) q) old new
follows_happened es v (Ok s) old mid new origins level asks f =
    f ∙ ap (λ l. record { view = s.view; origins = origins_after mid.asks l (s.events l) mid.origins; level = l; asks = mid.asks }) level
    ∙ ap (λ a. record { view = s.view; origins = origins_after a old.level (s.events old.level) mid.origins; level = old.level; asks = a }) asks
    ∙ ap (λ os. record { view = s.view; origins = origins_after old.asks old.level (s.events old.level) os; level = old.level; asks = old.asks }) origins
    ∙ ap (λ os. record { view = s.view; origins = os; level = old.level; asks = old.asks }) (sym (origins_after_both old.asks old.level es (s.events old.level) old.origins))
follows_happened es v (Err e) old mid new origins level asks f = absurd f

-- a reading from one state is followed from another that differs only in its view
pub follows_from : (q : Reading) (old other new : BufferState) → old.origins ≡ other.origins → old.level ≡ other.level → old.asks ≡ other.asks → Follows q old new → Follows q other new
follows_from (Ok s) old other new origins level asks f =
    f ∙ ap (λ l. record { view = s.view; origins = origins_after old.asks l (s.events l) old.origins; level = l; asks = old.asks }) level
    ∙ ap (λ a. record { view = s.view; origins = origins_after a other.level (s.events other.level) old.origins; level = other.level; asks = a }) asks
    ∙ ap (λ os. record { view = s.view; origins = origins_after other.asks other.level (s.events other.level) os; level = other.level; asks = other.asks }) origins
follows_from (Err e) old other new origins level asks f = absurd f

-- a reading leaves one state
pub follows_once : (r : Reading) (old new other : BufferState) → Follows r old new → Follows r old other → new ≡ other
follows_once (Ok r) old new other f g = f ∙ sym g
follows_once (Err e) old new other f g = absurd f

-- states with the same view have the same reading, whatever their clusters, levels and flags are
pub seen_alike : (stage : Stage) (old other : BufferState) → old.view ≡ other.view → reading_of stage old ≡ reading_of stage other
seen_alike stage old other e = ap stage e
