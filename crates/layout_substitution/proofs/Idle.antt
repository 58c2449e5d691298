-- The glyphs that a GSUB lookup isn't tried at, moved over at once.
use Rattle.std.proofs.Common.{ℕ, ◌≡◌, ◌≢◌, ◌≤◌, ◌<◌, ◌&&◌, ◌∙◌, true, false, List, length, take, drop, Err, refl, sym, ap, subst, arith}
use Rattle.std.specs.List.{list_any}
use Rattle.std.proofs.lemmas.List.{length-drop}
use Rattle.buffer_glyphs.specs.Items.{Item, strip}
use Rattle.buffer_glyphs.specs.declared.cause.ShapeCause.{ShapeCause}
use Rattle.buffer_glyphs.specs.declared.cause.ShapeCause.TheVariants.{TooLong}
use Rattle.buffer_core.specs.Readings.{reading_of}
use Rattle.buffer_core.specs.Sides.{Sides, after_next_glyphs, all_glyphs, fits_next, with_output}
use Rattle.buffer_stages.specs.Actions.{Action}
use Rattle.buffer_stages.specs.Ready.{state_with}
use Rattle.layout_face.specs.Lookups.{substitution_covers}
use Rattle.layout_face.specs.declared.substitution.SubstLookup.{SubstLookup}
use Rattle.layout_match.specs.Applied.{ApplyContext}
use Rattle.layout_match.specs.Steps.{IsIdleRun, IsIdleRunTooLong, IsStep}
use Rattle.layout_match.specs.Trying.{forward_pass, meets}
use Rattle.layout_match.proofs.Lemmas.Passage.{IsUnderway, begun, gone_on_by, gone_over, gone_over_by, looked_up_full, looked_up_full_by}
use Rattle.layout_match.proofs.Lemmas.Runs.{no_run, run_over, run_too_long}
use Rattle.layout_substitution.specs.Lookups.{first_subtable, lookup_action, nested_actions}
use Rattle.layout_substitution.proofs.Uncovered.{first_uncovered}

pub lookup_run : (table : List SubstLookup) (a : ApplyContext) (lookup : SubstLookup) (k : ℕ) (s new : Sides) → k ≤ length s.ahead → list_any (λ (x : Item). meets a x && substitution_covers lookup.subtables x.number) (take k (strip s.ahead)) ≡ false → s.is_open ≡ true → fits_next k s ≡ true → new ≡ after_next_glyphs k s
    → IsIdleRun (lookup_action table a lookup) s new
lookup_run table a lookup k s new within idle opened fits moved =
    let nest = nested_actions table 64 a in
    run_over a (first_subtable nest a lookup.subtables) (substitution_covers lookup.subtables) k s new within (λ x none. first_uncovered nest a lookup.subtables x none) idle opened fits moved

pub lookup_run_too_long : (table : List SubstLookup) (a : ApplyContext) (lookup : SubstLookup) (k : ℕ) (s : Sides) → k ≢ 0 → k ≤ length s.ahead → list_any (λ (x : Item). meets a x && substitution_covers lookup.subtables x.number) (take k (strip s.ahead)) ≡ false → s.is_open ≡ true → fits_next k s ≡ false
    → IsIdleRunTooLong (lookup_action table a lookup) s
lookup_run_too_long table a lookup k s some within idle opened full =
    let nest = nested_actions table 64 a in
    run_too_long a (first_subtable nest a lookup.subtables) (substitution_covers lookup.subtables) k s some within (λ x none. first_uncovered nest a lookup.subtables x none) idle opened full

-- ---- on the way

-- the run before the first glyph at which the lookup is tried
pub first_run : (act : Action) (r : ℕ) (s opened next : Sides) → opened ≡ with_output s → IsIdleRun act opened next → IsUnderway act (length (all_glyphs s)) r r (with_output s) next
first_run act r s opened next is run =
    let P : Sides → Type 0 = λ t. IsIdleRun act t next in
    gone_over act (length (all_glyphs s)) r r (with_output s) (with_output s) next (begun act (length (all_glyphs s)) r (with_output s) refl) (subst P is run)

pub first_run_too_long : (act : Action) (r : ℕ) (s opened : Sides) (cause : ShapeCause) → opened ≡ with_output s → (cause ≡ TooLong) × IsIdleRunTooLong act opened → reading_of (forward_pass act) (state_with r s) ≡ Err cause
first_run_too_long act r s opened cause is long =
    let P : Sides → Type 0 = λ t. IsIdleRunTooLong act t in
    looked_up_full act (length (all_glyphs s)) r r s (with_output s) refl (begun act (length (all_glyphs s)) r (with_output s) refl) (subst P is long.1) ∙ ap Err (sym long.0)

-- a step, then the run after it
pub step_and_run : (act : ApplyContext → Action) (a b k : ApplyContext) (count before r after : ℕ) (start now mid next : Sides) → 0 < length now.ahead → a ≡ b → k ≡ b → IsUnderway (act b) count before r start now → IsStep (act a) r after now mid → IsIdleRun (act k) mid next → IsUnderway (act b) count before after start next
step_and_run act a b k count before r after start now mid next some same alike u step run = gone_over_by act k b count before after start mid next alike (gone_on_by act a b count before r after start now mid some same u step) run

pub next_run_too_long : (act : ApplyContext → Action) (a b k : ApplyContext) (r q after : ℕ) (s now mid : Sides) (cause : ShapeCause) → 0 < length now.ahead → a ≡ b → k ≡ b → IsUnderway (act b) (length (all_glyphs s)) r q (with_output s) now → IsStep (act a) q after now mid → (cause ≡ TooLong) × IsIdleRunTooLong (act k) mid
    → reading_of (forward_pass (act b)) (state_with r s) ≡ Err cause
next_run_too_long act a b k r q after s now mid cause some same alike u step long =
    let later = gone_on_by act a b (length (all_glyphs s)) r q after (with_output s) now mid some same u step in
    looked_up_full_by act k b (length (all_glyphs s)) r after s (with_output s) mid refl alike refl later long.1 ∙ ap Err (sym long.0)

-- fewer glyphs are ahead then
pub step_and_run_fewer : (act next_act : Action) (r after : ℕ) (now mid next : Sides) → 0 < length now.ahead → IsStep act r after now mid → IsIdleRun next_act mid next → length next.ahead < length now.ahead
step_and_run_fewer act next_act r after now mid next some step run =
    let left = length-drop run.count mid.ahead in
    let same : length next.ahead ≡ length (drop run.count mid.ahead) = ap (λ (t : Sides). length t.ahead) run.moved in
    omega (arith, left, same, step.less, some)
