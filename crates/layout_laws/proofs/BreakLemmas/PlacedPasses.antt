-- Lookups of positioning over a text: what they keep, and that they divide it.
use Rattle.std.proofs.Common.{ℕ, zero, suc, ◌≡◌, ◌+◌, inl, inr, Bool, true, false, nat_le, if◌then◌else◌, List, [], ◌∷◌, Ok, Err, length, refl, ap, sym, subst, ◌∙◌}
use Rattle.buffer_common.specs.declared.direction.Direction.{Direction}
use Rattle.buffer_glyphs.specs.declared.cause.ShapeCause.TheVariants.{TooLong}
use Rattle.buffer_glyphs.specs.Items.{Item}
use Rattle.buffer_parts.specs.Rules.{RuleKeepsParts}
use Rattle.buffer_parts.specs.Stages.{KeepsParts}
use Rattle.buffer_core.specs.Readings.{View, Read, Reading, Stage, BufferState, state_after, with_events, then_reading}
use Rattle.buffer_stages.specs.Actions.{Cut, whole, view_at, uncut_with_positions, past_item, Outcome, Passes, Acts, Refuses, Action}
use Rattle.buffer_parts.specs.Breaks.Fragments.{AreFragments}
use Rattle.buffer_parts.specs.Breaks.Divisible.{IsSpared, IsBreakable, OnlySpends, LosesNoFlag, KeepsPositions}
use Rattle.buffer_parts.specs.Breaks.Beside.{IsReadBeside}
use Rattle.buffer_parts.proofs.BreakLemmas.Beside.{beside_stays_divided}
use Rattle.buffer_parts.proofs.BreakLemmas.Division.{orderly_at, lossless_at, lossless_stages_keep_unsafe}
use Rattle.layout_face.specs.declared.positioning.PositioningLookup.{PositioningLookup}
use Rattle.layout_match.specs.Applied.{ApplyContext}
use Rattle.layout_match.specs.Trying.{after_outcome, outcome_past_item, trial_at, trials}
use Rattle.layout_gpos.specs.Moving.{ItemsStay, KeepsItems}
use Rattle.layout_positioning.specs.Lookups.{positioning_pass, lookup_action}
use Rattle.layout_positioning.proofs.Left.{action_keeps}
use Rattle.layout_laws.proofs.Lemmas.KeptRules.{by_parts, positioned_by_parts}
use Rattle.layout_laws.proofs.Lemmas.Lookups.{tried_keeps}
use Rattle.layout_laws.proofs.Lemmas.Positionings.{action_related}
use Rattle.layout_laws.specs.Breaks.Local.{IsLocalOrIdle, IsSteady}
use Rattle.layout_laws.specs.Breaks.Positioned.{ArePlaced, AreFlagged}
use Rattle.layout_laws.specs.Breaks.Positionable.{ArePositionable, StaysPositionable, DividesPositions}
use Rattle.layout_laws.specs.Breaks.PositionsInOrder.{PositioningsAreDivisible}
use Rattle.layout_laws.proofs.BreakLemmas.Walks.{trials_spend}
use Rattle.layout_laws.proofs.BreakLemmas.Lossless.{LosesNone, AllLossless, trials_lossless}
use Rattle.layout_laws.proofs.BreakLemmas.Spent.{trials_give}
use Rattle.layout_laws.proofs.BreakLemmas.Moving.{CountStays, action_counts}
use Rattle.layout_laws.proofs.BreakLemmas.Flagged.{pass_flags}
use Rattle.layout_laws.proofs.BreakLemmas.Ways.{its_positions}
use Rattle.layout_laws.proofs.BreakLemmas.Standing.{earlier_first, turned_line, spared_at, turned_beside}
use Rattle.layout_laws.proofs.BreakLemmas.PlacedLines.{placed_line_reads}
use Rattle.layout_laws.proofs.BreakLemmas.Positionings.{positionings_lose_none, positionings_are_local, positionings_are_steady}
use Rattle.layout_gpos.proofs.Lemmas.Left.{past_left as items_stay}

-- ---- items, and how many positions there are

-- a reading gives these items, and n positions
abbrev Stays : List Item → ℕ → Reading → Type 0
Stays xs n (Ok r) = (r.view.items ≡ xs) × (length r.view.positions ≡ n)
Stays xs n (Err x) = Unit {0}

then_stays : (a : Read) (q : Reading) (xs : List Item) (n : ℕ) → Stays xs n q → Stays xs n (then_reading a q)
then_stays a (Ok r) xs n h = h
then_stays a (Err x) xs n h = tt

outcome_stays : (o : Outcome) (next : Cut → Reading) (v : View) (c : Cut) (xs : List Item) (n : ℕ) → ItemsStay o c → CountStays c o → whole c ≡ xs → length c.positions ≡ n → ((d : Cut) → whole d ≡ xs → length d.positions ≡ n → Stays xs n (next d)) → Stays xs n (after_outcome o next v c)
outcome_stays (Passes es) next v c xs n h k e f step = then_stays (with_events es (view_at v c)) (next c) xs n (step c e f)
outcome_stays (Acts d es) next v c xs n h k e f step = then_stays (with_events es (view_at v d)) (next d) xs n (step d (h ∙ e) (k ∙ f))
outcome_stays (Refuses x) next v c xs n h k e f step = tt

past_stays : (o : Outcome) (next : Cut → Reading) (v : View) (c : Cut) (xs : List Item) (n : ℕ) → ItemsStay o c → CountStays c o → whole c ≡ xs → length c.positions ≡ n → ((d : Cut) → whole d ≡ xs → length d.positions ≡ n → Stays xs n (next d)) → Stays xs n (after_outcome (outcome_past_item o c) next v c)
past_stays (Passes es) next v c xs n h k e f step = by_test (nat_le (length c.front + 1) c.max_len)
  where
    by_test : (t : Bool) → Stays xs n (after_outcome (if t then Acts (past_item c) es else Refuses TooLong) next v c)
    by_test true = outcome_stays (Acts (past_item c) es) next v c xs n (items_stay 1 c) refl e f step
    by_test false = tt
past_stays (Acts d es) next v c xs n h k e f step = outcome_stays (Acts d es) next v c xs n h k e f step
past_stays (Refuses x) next v c xs n h k e f step = tt

trial_stays : (act : Action) → KeepsItems act → ((c : Cut) → CountStays c (act c)) → (next : Cut → Reading) (v : View) (ys : List Item) (c : Cut) (xs : List Item) (n : ℕ) → whole c ≡ xs → length c.positions ≡ n → ((d : Cut) → whole d ≡ xs → length d.positions ≡ n → Stays xs n (next d)) → Stays xs n (trial_at act next v ys c)
trial_stays act items counts next v [] c xs n e f step = (e, f)
trial_stays act items counts next v (y ∷ ys) c xs n e f step = past_stays (act c) next v c xs n (items c) (counts c) e f step

trials_stay : (act : Action) → KeepsItems act → ((c : Cut) → CountStays c (act c)) → (v : View) (m : ℕ) (c : Cut) (xs : List Item) (n : ℕ) → whole c ≡ xs → length c.positions ≡ n → Stays xs n (trials act v m c)
trials_stay act items counts v zero c xs n e f = (e, f)
trials_stay act items counts v (suc m) c xs n e f = trial_stays act items counts (trials act v m) v c.rest c xs n e f (λ d g h. trials_stay act items counts v m d xs n g h)

-- a pass gives the items that it was given, and as many positions
pass_stays : (act : Action) → KeepsItems act → ((c : Cut) → CountStays c (act c)) → (v : View) (r : Read) → positioning_pass act v ≡ Ok r → (r.view.items ≡ v.items) × (length r.view.positions ≡ length v.positions)
pass_stays act items counts v r e = subst (Stays v.items (length v.positions)) e (trials_stay act items counts v (length v.items) (uncut_with_positions v) v.items (length v.positions) refl refl)

-- ---- a rule over a text and its fragments

-- what is known of a rule of positioning
record IsPositioning (act : Action) : Type 0 where
  local : IsLocalOrIdle ArePlaced act
  steady : IsSteady act
  parts : RuleKeepsParts act
  lossless : (c : Cut) → LosesNone (act c)
  items : KeepsItems act
  counts : (c : Cut) → CountStays c (act c)
  flags : (v : View) (r : Read) → positioning_pass act v ≡ Ok r → AreFlagged v.scratch_flags v.positions → AreFlagged r.view.scratch_flags r.view.positions

kept : (act : Action) → IsPositioning act → KeepsParts (positioning_pass act)
kept act p v r level e = tried_keeps act v (length v.items) (uncut_with_positions v) p.parts r level e

loses_none : (act : Action) → IsPositioning act → LosesNoFlag (positioning_pass act)
loses_none act p v r level e = let all : AllLossless (Ok r) = subst AllLossless e (trials_lossless act p.lossless v (length v.items) (uncut_with_positions v)) in all level (length v.items)

-- a text is read as its fragments, which can be positioned further, or it is unsafe to break there
abbrev ReadsApart : Bool → ℕ → BufferState → BufferState → BufferState → Read → Read → Read → Type 0
ReadsApart falls c whole earlier later r e l = StaysPositionable falls c (state_after r whole) (state_after e earlier) (state_after l later)

divided : (falls : Bool) (act : Action) → IsPositioning act → (c : ℕ) (whole earlier later : BufferState) (r e l : Read) → IsBreakable whole → AreFragments falls c whole earlier later → positioning_pass act whole.view ≡ Ok r
    → IsReadBeside false falls whole.level (length earlier.origins) (length later.origins) r e l → ArePositionable falls (state_after r whole) (state_after e earlier) (state_after l later) → ReadsApart falls c whole earlier later r e l
divided falls act p c whole earlier later r e l b f is_r beside q =
    elim (beside_stays_divided false falls c whole earlier later r e l b f (orderly_at (positioning_pass act) whole r (kept act p) is_r b) (lossless_at (positioning_pass act) whole r (loses_none act p) is_r b) beside) [
      | inl unsafe ↦ inl unsafe
      | inr fragments ↦ inr (fragments, q)
    ]

passes_divide : (falls : Bool) (act : Action) → IsPositioning act → (c : ℕ) (whole earlier later : BufferState) (r e l : Read) → IsBreakable whole → AreFragments falls c whole earlier later → ArePositionable falls whole earlier later
    → positioning_pass act whole.view ≡ Ok r → positioning_pass act earlier.view ≡ Ok e → positioning_pass act later.view ≡ Ok l → IsSpared whole.level whole.view r → IsSpared earlier.level earlier.view e → IsSpared later.level later.view l → ReadsApart falls c whole earlier later r e l
passes_divide false act p c whole earlier later r e l b f q is_r is_e is_l ar ae al =
    let stays_e = pass_stays act p.items p.counts earlier.view e is_e in
    let stays_l = pass_stays act p.items p.counts later.view l is_l in
    let is = earlier_first false its_positions (λ t v u w same. same) (positioning_pass act) (kept act p) (loses_none act p) c whole r b is_r earlier later f in
    elim (placed_line_reads act p.local p.steady c whole earlier later r e l is (record { first_links = q.early_links; second_links = q.late_links; seam = q.apart }) is_r is_e is_l stays_e.0 stays_l.0 ar (spared_at earlier.view e whole.level earlier.level f.early_of.level ae) (spared_at later.view l whole.level later.level f.late_of.level al)) [
      | inl unsafe ↦ inl unsafe
      | inr read ↦ divided false act p c whole earlier later r e l b f is_r read.0 (record {
        early_links = read.1.first_links;
        late_links = read.1.second_links;
        apart = read.1.seam;
        flagged = p.flags whole.view r is_r q.flagged;
        early_flagged = p.flags earlier.view e is_e q.early_flagged;
        late_flagged = p.flags later.view l is_l q.late_flagged;
      })
    ]
passes_divide true act p c whole earlier later r e l b f q is_r is_e is_l ar ae al =
    let stays_e = pass_stays act p.items p.counts earlier.view e is_e in
    let stays_l = pass_stays act p.items p.counts later.view l is_l in
    let is = turned_line false its_positions c whole later earlier (r.events whole.level) (earlier_first true its_positions (λ t v u w same. same) (positioning_pass act) (kept act p) (loses_none act p) c whole r b is_r earlier later f) in
    elim (placed_line_reads act p.local p.steady c whole later earlier r l e is (record { first_links = q.late_links; second_links = q.early_links; seam = q.apart }) is_r is_l is_e stays_l.0 stays_e.0 ar (spared_at later.view l whole.level later.level f.late_of.level al) (spared_at earlier.view e whole.level earlier.level f.early_of.level ae)) [
      | inl unsafe ↦ inl unsafe
      | inr read ↦ divided true act p c whole earlier later r e l b f is_r (turned_beside false whole.level (length later.origins) (length earlier.origins) r l e read.0) (record {
        early_links = read.1.second_links;
        late_links = read.1.first_links;
        apart = read.1.seam;
        flagged = p.flags whole.view r is_r q.flagged;
        early_flagged = p.flags earlier.view e is_e q.early_flagged;
        late_flagged = p.flags later.view l is_l q.late_flagged;
      })
    ]

-- ---- lookups

lookup_positions : (table : List PositioningLookup) (d : Direction) (a : ApplyContext) (lookup : PositioningLookup) → IsPositioning (lookup_action table d a lookup)
lookup_positions table d a lookup = record {
  local = positionings_are_local table d a lookup;
  steady = positionings_are_steady table d a lookup;
  parts = action_related by_parts tt positioned_by_parts table d a lookup;
  lossless = positionings_lose_none table d a lookup;
  items = action_keeps table d a lookup;
  counts = action_counts table d a lookup;
  flags = pass_flags table d a lookup;
}

-- a rule of positioning for each direction of the text, over the whole text
abbrev Along : (Direction → Action) → Stage
Along act v = positioning_pass (act v.direction) v

along_positions : (act : Direction → Action) → ((d : Direction) → IsPositioning (act d)) → KeepsPositions (Along act)
along_positions act p v r e long =
    let stays = pass_stays (act v.direction) (p v.direction).items (p v.direction).counts v r e in
    stays.1 ∙ long ∙ ap (λ (xs : List Item). length xs) (sym stays.0)

along_spends : (act : Direction → Action) → ((d : Direction) → IsPositioning (act d)) → OnlySpends (Along act)
along_spends act p level v r e = record {
  budget = λ left. trials_spend (act v.direction) (p v.direction).steady v (length v.items) (uncut_with_positions v) r e left;
  numbers = λ few. trials_give (act v.direction) (p v.direction).steady level v (length v.items) (uncut_with_positions v) r e few;
}

along_divides : (falls : Bool) (act : Direction → Action) → ((d : Direction) → IsPositioning (act d)) → DividesPositions falls (Along act)
along_divides falls act p c whole earlier later r e l b f q is_r is_e is_l ar ae al =
    let d = whole.view.direction in
    passes_divide falls (act d) (p d) c whole earlier later r e l b f q is_r (subst (λ (x : Direction). positioning_pass (act x) earlier.view ≡ Ok e) f.early_of.direction is_e) (subst (λ (x : Direction). positioning_pass (act x) later.view ≡ Ok l) f.late_of.direction is_l) ar ae al

pub positionings_are_divisible : PositioningsAreDivisible
positionings_are_divisible falls table a lookup =
    let act : Direction → Action = λ d. lookup_action table d a lookup in
    let p : (d : Direction) → IsPositioning (act d) = λ d. lookup_positions table d a lookup in
    let keeps = lossless_stages_keep_unsafe (Along act) (λ v r level e. kept (act v.direction) (p v.direction) v r level e) (λ v r level e. loses_none (act v.direction) (p v.direction) v r level e) (along_positions act p) in
    record { divides = along_divides falls act p; breakable = keeps.0; unsafe = keeps.1; spends = along_spends act p }
