-- The spread of flags ends each reading.
use Rattle.std.proofs.Common.{◌≡◌, ◌++◌, false, List, [], ◌∷◌, Ok, Err, refl, sym, ap, subst, ◌∙◌, append_assoc}
use Rattle.buffer_glyphs.specs.declared.level.BufferClusterLevel.{BufferClusterLevel}
use Rattle.buffer_glyphs.specs.Events.{Event, Spread, origins_after}
use Rattle.buffer_glyphs.specs.EventParts.{AreEvenRuns, HaveNoConcat}
use Rattle.buffer_glyphs.specs.Order.{BringsNone}
use Rattle.buffer_glyphs.specs.Origins.{Asks, Origin, numbers, origins_spread}
use Rattle.buffer_core.specs.Readings.{Follows, Read, Reading, BufferState, Stage, View, always, and_then, then_reading}
use Rattle.buffer_core.specs.Steps.{then_as_it_is}
use Rattle.buffer_glyphs.specs.Lemmas.Origins.{origins_after_both}
use Rattle.buffer_glyphs.specs.Lemmas.EventParts.{origins_keep_numbers, spread_has_no_concat, spread_is_even}
use Rattle.shape_glyphs.specs.Flags.{with_flags_spread}
use Rattle.shape_glyphs.specs.Ignorables.{ignorables_hidden}
use Rattle.shape_glyphs.specs.Selectors.{with_selectors}
use Rattle.shape_pipeline.specs.Chains.{in_order}
use Rattle.shape_pipeline.specs.Endings.{text_ended}
use Rattle.shape_pipeline.specs.Glyphs.{glyphs_substituted, glyphs_taken}
use Rattle.shape_pipeline.specs.Limits.{final_view}
use Rattle.shape_pipeline.specs.Masks.{ranges_set}
use Rattle.shape_pipeline.specs.Reading.{after_ranges, before_ranges, clusters_after, positioning_stage, reading, shaping_stage}
use Rattle.shape_pipeline.specs.Shaping.{Shaping, postprocessing_stage}

-- the last event of a reading is the spread of flags
abbrev EndsSpread : Reading → Type 0
EndsSpread (Ok r) = (level : BufferClusterLevel) → (es : List Event) × (r.events level ≡ es ++ Spread ∷ [])
EndsSpread (Err e) = Unit {0}

then_ends : (r : Read) (q : Reading) → EndsSpread q → EndsSpread (then_reading r q)
then_ends r (Ok s) h = λ level. let (es, e) = h level in (r.events level ++ es, ap (λ fs. r.events level ++ fs) e ∙ sym (append_assoc (r.events level) es (Spread ∷ [])))
then_ends r (Err e) h = tt

after_any : (r : Reading) (next : Stage) → ((v : View) → EndsSpread (next v)) → EndsSpread (and_then r next)
after_any (Ok r) next h = then_ends r (next r.view) (h r.view)
after_any (Err e) next h = tt

-- a chain ends so where its rest does
next_ends : (a : Stage) (rest : List Stage) → ((v : View) → EndsSpread (in_order rest v)) → (v : View) → EndsSpread (in_order (a ∷ rest) v)
next_ends a rest h v = after_any (a v) (in_order rest) h

-- nothing comes after it
alone : (r : Reading) → EndsSpread r → EndsSpread (and_then r (in_order []))
alone r h = let P : Reading → Type 0 = λ q. EndsSpread q in subst P (sym (then_as_it_is r)) h

alone_ends : (a : Stage) → ((v : View) → EndsSpread (a v)) → (v : View) → EndsSpread (in_order (a ∷ []) v)
alone_ends a h v = alone (a v) (h v)

last_ends : (p : Shaping) (v : View) → EndsSpread (in_order (always with_flags_spread ∷ always (final_view p.direction) ∷ []) v)
last_ends p v = λ level. ([], refl)

ended_ends : (p : Shaping) (v : View) → EndsSpread (text_ended p v)
unfolding text_ended
ended_ends p v =
    next_ends (always (with_selectors p.settings.not_found_variation_selector)) (always (ignorables_hidden p.settings.flags p.settings.invisible p.font) ∷ postprocessing_stage p ∷ always with_flags_spread ∷ always (final_view p.direction) ∷ [])
    (next_ends (always (ignorables_hidden p.settings.flags p.settings.invisible p.font)) (postprocessing_stage p ∷ always with_flags_spread ∷ always (final_view p.direction) ∷ [])
    (next_ends (postprocessing_stage p) (always with_flags_spread ∷ always (final_view p.direction) ∷ []) (last_ends p))) v

after_ends : (p : Shaping) (v : View) → EndsSpread (after_ranges p v)
unfolding after_ranges
after_ends p v =
    next_ends (glyphs_taken p) (glyphs_substituted p ∷ positioning_stage p ∷ text_ended p ∷ []) (next_ends (glyphs_substituted p) (positioning_stage p ∷ text_ended p ∷ []) (next_ends (positioning_stage p) (text_ended p ∷ []) (alone_ends (text_ended p) (ended_ends p)))) v

reading_ends : (p : Shaping) (run : BufferState) → EndsSpread (reading p run)
unfolding reading shaping_stage
reading_ends p run =
    let ns = clusters_after (before_ranges p run.view) run in
    next_ends (before_ranges p) (ranges_set p ns ∷ after_ranges p ∷ []) (next_ends (ranges_set p ns) (after_ranges p ∷ []) (alone_ends (after_ranges p) (after_ends p))) run.view

-- so the flags of a result were spread
spread_of : (r : Reading) (text result : BufferState) → EndsSpread r → Follows r text result → (os : List Origin) × (result.origins ≡ origins_spread text.asks os)
spread_of (Ok r) text result h f =
    let (es, e) = h text.level in
    (origins_after text.asks text.level es text.origins, ap (λ (run : BufferState). run.origins) f ∙ ap (λ fs. origins_after text.asks text.level fs text.origins) e ∙ origins_after_both text.asks text.level es (Spread ∷ []) text.origins)
spread_of (Err e) text result h f = absurd f

pub results_are_even : (p : Shaping) (text result : BufferState) → Follows (reading p text) text result → AreEvenRuns result.origins
results_are_even p text result f =
    let (os, e) = spread_of (reading p text) text result (reading_ends p text) f in
    subst AreEvenRuns (sym e) (spread_is_even text.asks os)

asked_less : (asks : Asks) (os : List Origin) → asks.concat ≡ false → HaveNoConcat (origins_spread asks os)
asked_less asks os none =
    let P : Asks → Type 0 = λ a. HaveNoConcat (origins_spread a os) in
    let same : asks ≡ record { concat = false; tatweel = asks.tatweel; breaks = asks.breaks } = ap (λ b. record { concat = b; tatweel = asks.tatweel; breaks = asks.breaks }) none in
    subst P (sym same) (spread_has_no_concat asks.tatweel asks.breaks os)

pub results_have_no_concat : (p : Shaping) (text result : BufferState) → text.asks.concat ≡ false → Follows (reading p text) text result → HaveNoConcat result.origins
results_have_no_concat p text result none f =
    let (os, e) = spread_of (reading p text) text result (reading_ends p text) f in
    subst HaveNoConcat (sym e) (asked_less text.asks os none)

-- ---- cluster numbers

numbers_kept : (r : Reading) (text result : BufferState) → Follows r text result → BringsNone (numbers text.origins) (numbers result.origins)
numbers_kept (Ok r) text result f =
    let P : List Origin → Type 0 = λ os. BringsNone (numbers text.origins) (numbers os) in
    subst P (sym (ap (λ (run : BufferState). run.origins) f)) (origins_keep_numbers text.asks text.level (r.events text.level) text.origins)
numbers_kept (Err e) text result f = absurd f

pub reading_keeps_numbers : (p : Shaping) (text result : BufferState) → Follows (reading p text) text result → BringsNone (numbers text.origins) (numbers result.origins)
reading_keeps_numbers p text result f = numbers_kept (reading p text) text result f
