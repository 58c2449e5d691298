-- The positioning of a map divides texts.
use Rattle.std.proofs.Common.{ℕ, ◌≡◌, ◌≤◌, ◌+◌, ◌==◌, inl, inr, Bool, true, false, if◌then◌else◌, List, [], ◌∷◌, ◌++◌, Option, Some, None, Ok, length, map, arith, refl, ap, sym, subst, ◌∙◌}
use Rattle.std.proofs.lemmas.List.{append-nil, length-map, map-append}
use Rattle.buffer_glyphs.specs.declared.level.BufferClusterLevel.{BufferClusterLevel}
use Rattle.buffer_glyphs.specs.Items.{Position}
use Rattle.buffer_glyphs.specs.Events.{Event, origins_after}
use Rattle.buffer_core.specs.Readings.{View, Read, Stage, BufferState, state_after, then_read, always, with_events}
use Rattle.buffer_stages.specs.Pauses.{Pauses, with_own_random, pause_stage}
use Rattle.buffer_parts.specs.Breaks.Unsafe.{IsUnsafeAt}
use Rattle.buffer_parts.specs.Breaks.Concat.{without_concats}
use Rattle.buffer_parts.specs.Breaks.Fragments.{as_they_stand, AreFragments}
use Rattle.buffer_parts.specs.Breaks.Divisible.{merges, IsSpared, IsSpent, IsBreakable, OnlySpends}
use Rattle.layout_face.specs.declared.parts.FaceParts.{FaceParts}
use Rattle.layout_face.specs.declared.positioning.PositioningLookup.{PositioningLookup}
use Rattle.layout_map.specs.declared.stages.StageMap.{StageMap}
use Rattle.layout_map.specs.declared.request.MapRequest.{MapRequest}
use Rattle.layout_map.specs.declared.request.MapRequest.TheVariants.{Feature, GsubPause}
use Rattle.layout_map.specs.Compiled.{MapRequests, TableStages, compiled_map, lookups_of_stage}
use Rattle.layout_map.specs.Lookups.{stages_from, stage_ends}
use Rattle.layout_map.specs.Requests.{with_map_request}
use Rattle.layout_map_features.specs.declared.lookup.lookup_map_t.{lookup_map_t}
use Rattle.layout_map_features.specs.declared.request.FeatureRequest.{FeatureRequest}
use Rattle.layout_offsets.specs.Starting.{unattached_position}
use Rattle.layout_positioning.specs.Positioning.{lookups_stage, table_stage, table_stages, positioning_lookups}
use Rattle.layout_laws.specs.Breaks.Positioned.{AreLinkless}
use Rattle.layout_laws.specs.Breaks.Positionable.{ArePositionable, StaysPositionable, IsDivisiblePositioning}
use Rattle.layout_laws.specs.Breaks.PositionStages.{PauseDivides, PausesDivide, OwnRandomIsDivisible, PositioningIsDivisible, PositioningStarts, RequestsPauseNoPositioning, UnpausedPositioningIsDivisible}
use Rattle.layout_laws.proofs.BreakLemmas.PositionsInOrder.{AreReadInTurn, read_in_turn, positionings_divide_in_turn, nothing_positions, positionings_in_order_are_divisible, cleared_at, cleared_links_lead_inside}
use Rattle.buffer_parts.specs.Lemmas.Stages.{same_read as read_same}

-- ---- states that differ in what no fragment depends on

-- a state with other positions
abbrev pub with_positions : List Position → BufferState → BufferState
with_positions ps s = record s { view = record s.view { positions = ps } }

-- fragments with other positions
pub positions_divide : (falls : Bool) (c : ℕ) (whole earlier later : BufferState) (ps es ls : List Position) → AreFragments falls c whole earlier later → ps ≡ as_they_stand falls es ls → length es ≡ length earlier.view.positions → length ls ≡ length later.view.positions
    → AreFragments falls c (with_positions ps whole) (with_positions es earlier) (with_positions ls later)
positions_divide falls c whole earlier later ps es ls f same early late = record {
  early_name = f.early_name;
  late_name = f.late_name;
  names = record { early = f.names.early; late = f.names.late; apart = f.names.apart; early_given = f.names.early_given; late_given = f.names.late_given };
  items = f.items;
  positions = same;
  origins = f.origins;
  below = f.below;
  above = f.above;
  early_some = f.early_some;
  late_some = f.late_some;
  early_whole = record { positions = early ∙ f.early_whole.positions; origins = f.early_whole.origins };
  late_whole = record { positions = late ∙ f.late_whole.positions; origins = f.late_whole.origins };
  early_of = record { direction = f.early_of.direction; level = f.early_of.level; requests = f.early_of.requests };
  late_of = record { direction = f.late_of.direction; level = f.late_of.level; requests = f.late_of.requests };
}

abbrev pub with_random : ℕ → BufferState → BufferState
with_random n s = record s { view = record s.view { random = n } }

pub random_divides : (falls : Bool) (c i j k : ℕ) (whole earlier later : BufferState) → AreFragments falls c whole earlier later → AreFragments falls c (with_random i whole) (with_random j earlier) (with_random k later)
random_divides falls c i j k whole earlier later f = record {
  early_name = f.early_name;
  late_name = f.late_name;
  names = record { early = f.names.early; late = f.names.late; apart = f.names.apart; early_given = f.names.early_given; late_given = f.names.late_given };
  items = f.items;
  positions = f.positions;
  origins = f.origins;
  below = f.below;
  above = f.above;
  early_some = f.early_some;
  late_some = f.late_some;
  early_whole = record { positions = f.early_whole.positions; origins = f.early_whole.origins };
  late_whole = record { positions = f.late_whole.positions; origins = f.late_whole.origins };
  early_of = record { direction = f.early_of.direction; level = f.early_of.level; requests = f.early_of.requests };
  late_of = record { direction = f.late_of.direction; level = f.late_of.level; requests = f.late_of.requests };
}

random_positions : (falls : Bool) (i j k : ℕ) (whole earlier later : BufferState) → ArePositionable falls whole earlier later → ArePositionable falls (with_random i whole) (with_random j earlier) (with_random k later)
random_positions falls i j k whole earlier later q = record { early_links = q.early_links; late_links = q.late_links; apart = q.apart; flagged = q.flagged; early_flagged = q.early_flagged; late_flagged = q.late_flagged }

random_stays : (falls : Bool) (c i j k : ℕ) (whole earlier later : BufferState) → StaysPositionable falls c whole earlier later → StaysPositionable falls c (with_random i whole) (with_random j earlier) (with_random k later)
random_stays falls c i j k whole earlier later (inl unsafe) = inl unsafe
random_stays falls c i j k whole earlier later (inr both) = inr (random_divides falls c i j k whole earlier later both.0, random_positions falls i j k whole earlier later both.1)

pub random_breaks : (n : ℕ) (s : BufferState) → IsBreakable s → IsBreakable (with_random n s)
random_breaks n s b = record { breaks = b.breaks; whole = record { positions = b.whole.positions; origins = b.whole.origins } }

-- ---- a random state of its own

-- the stage that puts the random state back
abbrev restoration : ℕ → Stage
restoration n = always (λ w. with_events [] (record w { random = n }))

abbrev pub IsOwnRandom : Stage → View → Read → Type 0
IsOwnRandom stage v r = AreReadInTurn (stage (record v { random = 1 })) (restoration v.random) r

pub own_read : (stage : Stage) (v : View) (r : Read) → with_own_random stage v ≡ Ok r → IsOwnRandom stage v r
own_read stage v r e = read_in_turn (stage (record v { random = 1 })) (restoration v.random) r e

own_is : (stage : Stage) (v : View) (r : Read) (q : IsOwnRandom stage v r) → then_read q.first (with_events [] (record q.first.view { random = v.random })) ≡ r
own_is stage v r q = ap (λ (x : Read). then_read q.first x) (read_same (with_events [] (record q.first.view { random = v.random })) q.second q.second_is) ∙ q.both

pub own_state : (stage : Stage) (s : BufferState) (r : Read) (q : IsOwnRandom stage s.view r) → with_random s.view.random (state_after q.first (with_random 1 s)) ≡ state_after r s
own_state stage s r q =
    ap (λ (es : List Event). record { view = record q.first.view { random = s.view.random }; origins = origins_after s.asks s.level es s.origins; level = s.level; asks = s.asks }) (sym (append-nil (q.first.events s.level)))
    ∙ ap (λ (x : Read). state_after x s) (own_is stage s.view r q)

own_events : (stage : Stage) (v : View) (r : Read) (q : IsOwnRandom stage v r) (level : BufferClusterLevel) → q.first.events level ≡ r.events level
own_events stage v r q level = sym (append-nil (q.first.events level)) ∙ ap (λ (x : Read). x.events level) (own_is stage v r q)

pub own_spared : (stage : Stage) (v : View) (r : Read) (q : IsOwnRandom stage v r) (level : BufferClusterLevel) → IsSpared level v r → IsSpared level (record v { random = 1 }) q.first
own_spared stage v r q level h =
    let now : IsSpared level v (then_read q.first (with_events [] (record q.first.view { random = v.random }))) = subst (IsSpared level v) (sym (own_is stage v r q)) h in
    record { budget = now.budget; numbers = subst (λ (es : List Event). v.lig_id + merges (without_concats es) ≤ 7) (sym (own_events stage v r q level)) h.numbers }

pub own_spends : (stage : Stage) → OnlySpends stage → OnlySpends (with_own_random stage)
own_spends stage p level v r e =
    let q = own_read stage v r e in
    let first = p level (record v { random = 1 }) q.first q.first_is in
    let spent : IsSpent level v (then_read q.first (with_events [] (record q.first.view { random = v.random }))) = record {
      budget = first.budget;
      numbers = λ few.
          let same : merges (without_concats (q.first.events level ++ [])) ≡ merges (without_concats (q.first.events level)) = ap (λ (es : List Event). merges (without_concats es)) (append-nil (q.first.events level)) in
          let up = first.numbers (omega (arith, same, few)) in
          omega (arith, same, up);
    } in
    subst (IsSpent level v) (own_is stage v r q) spent

pub own_random_is_divisible : OwnRandomIsDivisible
own_random_is_divisible falls stage p = record {
  divides = λ c whole earlier later r e l ready fragments placed is_r is_e is_l spared_r spared_e spared_l.
      let qr = own_read stage whole.view r is_r in
      let qe = own_read stage earlier.view e is_e in
      let ql = own_read stage later.view l is_l in
      let w = state_after qr.first (with_random 1 whole) in
      let x = state_after qe.first (with_random 1 earlier) in
      let y = state_after ql.first (with_random 1 later) in
      subst (λ (s : BufferState). StaysPositionable falls c s (state_after e earlier) (state_after l later)) (own_state stage whole r qr)
      (subst (λ (s : BufferState). StaysPositionable falls c (with_random whole.view.random w) s (state_after l later)) (own_state stage earlier e qe)
      (subst (λ (s : BufferState). StaysPositionable falls c (with_random whole.view.random w) (with_random earlier.view.random x) s) (own_state stage later l ql)
      (random_stays falls c whole.view.random earlier.view.random later.view.random w x y
      (p.divides c (with_random 1 whole) (with_random 1 earlier) (with_random 1 later) qr.first qe.first ql.first (random_breaks 1 whole ready) (random_divides falls c 1 1 1 whole earlier later fragments) (random_positions falls 1 1 1 whole earlier later placed) qr.first_is qe.first_is ql.first_is
      (own_spared stage whole.view r qr whole.level spared_r) (own_spared stage earlier.view e qe earlier.level spared_e) (own_spared stage later.view l ql later.level spared_l)))));
  breakable = λ s r is b.
      let q = own_read stage s.view r is in
      subst IsBreakable (own_state stage s r q) (random_breaks s.view.random (state_after q.first (with_random 1 s)) (p.breakable (with_random 1 s) q.first q.first_is (random_breaks 1 s b)));
  unsafe = λ s r c is b u.
      let q = own_read stage s.view r is in
      subst (λ (x : BufferState). IsUnsafeAt c x.origins) (own_state stage s r q) (p.unsafe (with_random 1 s) q.first c q.first_is (random_breaks 1 s b) u);
  spends = own_spends stage p.spends;
}

-- ---- stages

pause_divides : (falls : Bool) (pauses : Pauses) (pause : Option ℕ) → PauseDivides falls pauses pause → IsDivisiblePositioning falls (pause_stage pauses pause)
pause_divides falls pauses None p = nothing_positions falls
pause_divides falls pauses (Some n) p = own_random_is_divisible falls (pauses n) p

stage_divides : (falls : Bool) (font : FaceParts) (lookups : List PositioningLookup) (t : TableStages) (pauses : Pauses) (i : ℕ) (pause : Option ℕ) → PauseDivides falls pauses pause → IsDivisiblePositioning falls (table_stage font lookups t pauses i pause)
stage_divides falls font lookups t pauses i pause p =
    positionings_divide_in_turn falls (lookups_stage font lookups (lookups_of_stage t i)) (pause_stage pauses pause) (positionings_in_order_are_divisible falls font lookups (lookups_of_stage t i)) (pause_divides falls pauses pause p)

stages_divide : (falls : Bool) (font : FaceParts) (lookups : List PositioningLookup) (t : TableStages) (pauses : Pauses) (i : ℕ) (stages : List StageMap) → PausesDivide falls pauses stages → IsDivisiblePositioning falls (table_stages font lookups t pauses i stages)
stages_divide falls font lookups t pauses i [] p = nothing_positions falls
stages_divide falls font lookups t pauses i (s ∷ stages) p =
    positionings_divide_in_turn falls (table_stage font lookups t pauses i s.pause) (table_stages font lookups t pauses (i + 1) stages) (stage_divides falls font lookups t pauses i s.pause p.0) (stages_divide falls font lookups t pauses (i + 1) stages p.1)

pub positioning_is_divisible : PositioningIsDivisible
positioning_is_divisible falls font m pauses p = stages_divide falls font (positioning_lookups font) m.tables.gpos pauses 0 m.tables.gpos.stages p

-- ---- the start

line_cleared : (falls : Bool) (es ls : List Position) → map unattached_position (as_they_stand falls es ls) ≡ as_they_stand falls (map unattached_position es) (map unattached_position ls)
line_cleared false es ls = map-append unattached_position es ls
line_cleared true es ls = map-append unattached_position ls es

cleared_linkless : (ps : List Position) → AreLinkless (map unattached_position ps)
cleared_linkless ps i = cleared_at ps i

pub positioning_starts : PositioningStarts
positioning_starts falls c whole earlier later f seam =
    let ps = map unattached_position whole.view.positions in
    let es = map unattached_position earlier.view.positions in
    let ls = map unattached_position later.view.positions in (
      positions_divide falls c whole earlier later ps es ls f (ap (map unattached_position) f.positions ∙ line_cleared falls earlier.view.positions later.view.positions) (length-map earlier.view.positions unattached_position) (length-map later.view.positions unattached_position),
      record {
        early_links = cleared_links_lead_inside earlier.view.positions;
        late_links = cleared_links_lead_inside later.view.positions;
        apart = seam;
        flagged = λ e. cleared_linkless whole.view.positions;
        early_flagged = λ e. cleared_linkless earlier.view.positions;
        late_flagged = λ e. cleared_linkless later.view.positions;
      },
    )

-- ---- no GPOS pauses

request_pauses_none : (b : MapRequests) (r : MapRequest) → (with_map_request b r).pauses.gpos ≡ b.pauses.gpos
request_pauses_none b (GsubPause n) = refl
request_pauses_none b (Feature tag flags value) = by_test (tag.0 == 0) _
  where
    by_test : (t : Bool) (requests : List FeatureRequest) → (if t then b else record b { requests = requests }).pauses.gpos ≡ b.pauses.gpos
    by_test true requests = refl
    by_test false requests = refl

pub requests_pause_no_positioning : RequestsPauseNoPositioning
requests_pause_no_positioning b [] = refl
requests_pause_no_positioning b (r ∷ requests) = requests_pause_no_positioning (with_map_request b r) requests ∙ request_pauses_none b r

-- the stages of no pauses are one, which no pause ends
unpaused : (falls : Bool) (pauses : Pauses) (lookups : ℕ → List lookup_map_t) (numbers : List ℕ) → numbers ≡ [] → PausesDivide falls pauses (stage_ends 0 (stages_from lookups 0 numbers))
unpaused falls pauses lookups numbers e = subst (λ (ns : List ℕ). PausesDivide falls pauses (stage_ends 0 (stages_from lookups 0 ns))) (sym e) (tt, tt)

pub unpaused_positioning_is_divisible : UnpausedPositioningIsDivisible
unpaused_positioning_is_divisible falls font b pauses e = positioning_is_divisible falls font (compiled_map b) pauses (unpaused falls pauses _ b.pauses.gpos e)
