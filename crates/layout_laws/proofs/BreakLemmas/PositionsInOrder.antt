-- Stages of positioning, one after the other, divide texts.
use Rattle.std.proofs.Common.{ℕ, zero, suc, pos, ◌≡◌, ◌≤◌, ◌+◌, inl, inr, Bool, List, [], ◌∷◌, ◌++◌, Option, Some, None, Ok, Err, map, arith, refl, ap, sym, subst, ◌∙◌}
use Rattle.std.specs.Prelude.{slice_get}
use Rattle.buffer_glyphs.specs.declared.level.BufferClusterLevel.{BufferClusterLevel}
use Rattle.buffer_glyphs.specs.Items.{Position}
use Rattle.buffer_glyphs.specs.Origins.{Origin}
use Rattle.buffer_glyphs.specs.Lemmas.Origins.{origins_after_both}
use Rattle.buffer_core.specs.Readings.{View, Read, Reading, Stage, BufferState, state_after, and_then, then_read, then_reading, as_it_is, with_events}
use Rattle.buffer_parts.specs.Breaks.Unsafe.{IsUnsafeAt}
use Rattle.buffer_parts.specs.Breaks.Concat.{without_concats}
use Rattle.buffer_parts.specs.Breaks.Divisible.{merges, IsSpared, IsSpent, IsBreakable, OnlySpends, StaysBreakable, KeepsUnsafe}
use Rattle.buffer_parts.proofs.BreakLemmas.Division.{same_is_divisible, both_spend, both_unsafe, both_breakable, without_both, merges_both}
use Rattle.layout_face.specs.declared.parts.FaceParts.{FaceParts}
use Rattle.layout_face.specs.declared.positioning.PositioningLookup.{PositioningLookup}
use Rattle.layout_map_features.specs.declared.lookup.lookup_map_t.{lookup_map_t}
use Rattle.layout_offsets.specs.Links.{position_at}
use Rattle.layout_offsets.specs.Starting.{unattached_position}
use Rattle.layout_positioning.specs.Lookups.{lookup_context, lookup_stage}
use Rattle.layout_positioning.specs.Positioning.{lookups_stage}
use Rattle.layout_laws.specs.Breaks.Positionable.{StaysPositionable, IsDivisiblePositioning}
use Rattle.layout_laws.specs.Breaks.PositionsInOrder.{PositioningsInOrderAreDivisible, PositioningsDivideInTurn, ClearedLinksLeadInside}
use Rattle.layout_laws.proofs.BreakLemmas.PlacedPasses.{positionings_are_divisible}
use Rattle.buffer_parts.specs.Lemmas.Stages.{same_read as read_same}

-- ---- what two stages read, one after the other

pub record AreReadInTurn (a : Reading) (t : Stage) (r : Read) : Type 0 where
  pub first : Read
  pub second : Read
  pub first_is : a ≡ Ok first
  pub second_is : t first.view ≡ Ok second
  pub both : then_read first second ≡ r

pub read_in_turn : (a : Reading) (t : Stage) (r : Read) → and_then a t ≡ Ok r → AreReadInTurn a t r
read_in_turn (Err c) t r e = cc
read_in_turn (Ok a) t r e = by_second (t a.view) refl e
  where
    by_second : (b : Reading) → t a.view ≡ b → then_reading a b ≡ Ok r → AreReadInTurn (Ok a) t r
    by_second (Ok b) g h = record { first = a; second = b; first_is = refl; second_is = g; both = read_same (then_read a b) r h }
    by_second (Err c) g h = cc

-- the state after both is that after the second, of that after the first
pub state_of_both : (s t : Stage) (run : BufferState) (r : Read) (q : AreReadInTurn (s run.view) t r) → state_after q.second (state_after q.first run) ≡ state_after r run
state_of_both s t run r q =
    ap (λ (os : List Origin). record { view = q.second.view; origins = os; level = run.level; asks = run.asks }) (sym (origins_after_both run.asks run.level (q.first.events run.level) (q.second.events run.level) run.origins))
    ∙ ap (λ (x : Read). state_after x run) q.both

merged_both : (level : BufferClusterLevel) (a b : Read) → merges (without_concats (a.events level ++ b.events level)) ≡ merges (without_concats (a.events level)) + merges (without_concats (b.events level))
merged_both level a b = ap merges (without_both (a.events level) (b.events level)) ∙ merges_both (without_concats (a.events level)) (without_concats (b.events level))

-- where two stages are spared together, each is
pub record AreSpared (level : BufferClusterLevel) (v : View) (a b : Read) : Type 0 where
  pub first : IsSpared level v a
  pub second : IsSpared level a.view b

pub both_spared : (level : BufferClusterLevel) (v : View) (s t : Stage) (r : Read) (q : AreReadInTurn (s v) t r) → OnlySpends s → OnlySpends t → IsSpared level v r → AreSpared level v q.first q.second
both_spared level v s t r q p u h =
    let a = q.first in
    let b = q.second in
    let now : IsSpared level v (then_read a b) = subst (λ (x : Read). IsSpared level v x) (sym q.both) h in
    let all = now.numbers in
    let sum = merged_both level a b in
    let some : v.lig_id + merges (without_concats (a.events level)) ≤ 7 = omega (arith, all, sum) in
    let taken = (p level v a q.first_is).numbers some in
    record { first = record { budget = (u level a.view b q.second_is).budget now.budget; numbers = some }; second = record { budget = now.budget; numbers = omega (arith, all, sum, taken) } }

-- ---- in turn

alike : (falls : Bool) (c : ℕ) (w w1 e e1 l l1 : BufferState) → w ≡ w1 → e ≡ e1 → l ≡ l1 → StaysPositionable falls c w e l → StaysPositionable falls c w1 e1 l1
alike falls c w w1 e e1 l l1 p q r h =
    subst (λ (x : BufferState). StaysPositionable falls c w1 e1 x) r (subst (λ (x : BufferState). StaysPositionable falls c w1 x l) q (subst (λ (x : BufferState). StaysPositionable falls c x e l) p h))

pub positionings_divide_in_turn : PositioningsDivideInTurn
positionings_divide_in_turn falls s t p u = record {
  divides = λ c whole earlier later r e l ready fragments placed is_r is_e is_l spared_r spared_e spared_l.
      let qr = read_in_turn (s whole.view) t r is_r in
      let qe = read_in_turn (s earlier.view) t e is_e in
      let ql = read_in_turn (s later.view) t l is_l in
      let sr = both_spared whole.level whole.view s t r qr p.spends u.spends spared_r in
      let se = both_spared earlier.level earlier.view s t e qe p.spends u.spends spared_e in
      let sl = both_spared later.level later.view s t l ql p.spends u.spends spared_l in
      let now = p.breakable whole qr.first qr.first_is ready in
      alike falls c (state_after qr.second (state_after qr.first whole)) (state_after r whole) (state_after qe.second (state_after qe.first earlier)) (state_after e earlier) (state_after ql.second (state_after ql.first later)) (state_after l later) (state_of_both s t whole r qr) (state_of_both s t earlier e qe) (state_of_both s t later l ql)
      (elim (p.divides c whole earlier later qr.first qe.first ql.first ready fragments placed qr.first_is qe.first_is ql.first_is sr.first se.first sl.first) [
        | inl unsafe ↦ inl (u.unsafe (state_after qr.first whole) qr.second c qr.second_is now unsafe)
        | inr both ↦ u.divides c (state_after qr.first whole) (state_after qe.first earlier) (state_after ql.first later) qr.second qe.second ql.second now both.0 both.1 qr.second_is qe.second_is ql.second_is sr.second se.second sl.second
      ]);
  breakable = both_breakable s t p.breakable u.breakable;
  unsafe = both_unsafe s t p.breakable p.unsafe u.unsafe;
  spends = both_spend s t p.spends u.spends;
}

-- ---- nothing, and lookups in order

pub nothing_positions : (falls : Bool) → IsDivisiblePositioning falls as_it_is
nothing_positions falls = record {
  divides = λ c whole earlier later r e l ready fragments placed is_r is_e is_l spared_r spared_e spared_l.
      alike falls c whole (state_after r whole) earlier (state_after e earlier) later (state_after l later) (ap (λ (x : Read). state_after x whole) (read_same (with_events [] whole.view) r is_r)) (ap (λ (x : Read). state_after x earlier) (read_same (with_events [] earlier.view) e is_e)) (ap (λ (x : Read). state_after x later) (read_same (with_events [] later.view) l is_l))
      (inr (fragments, placed));
  breakable = (same_is_divisible falls).breakable;
  unsafe = (same_is_divisible falls).unsafe;
  spends = λ level v r e. subst (IsSpent level v) (read_same (with_events [] v) r e) (record { budget = λ h. h; numbers = λ few. omega arith });
}

one_positions : (falls : Bool) (font : FaceParts) (table : List PositioningLookup) (o : Option PositioningLookup) (m : lookup_map_t) → IsDivisiblePositioning falls (lookup_stage font table o m)
one_positions falls font table None m = nothing_positions falls
one_positions falls font table (Some lookup) m = positionings_are_divisible falls table (lookup_context font lookup m) lookup

pub positionings_in_order_are_divisible : PositioningsInOrderAreDivisible
positionings_in_order_are_divisible falls font table [] = nothing_positions falls
positionings_in_order_are_divisible falls font table (m ∷ maps) =
    positionings_divide_in_turn falls (lookup_stage font table (slice_get table m.index) m) (lookups_stage font table maps) (one_positions falls font table (slice_get table m.index) m) (positionings_in_order_are_divisible falls font table maps)

-- ---- at the start

pub cleared_at : (ps : List Position) (i : ℕ) → (position_at i (map unattached_position ps)).attach_chain ≡ pos 0
cleared_at [] i = refl
cleared_at (p ∷ ps) zero = refl
cleared_at (p ∷ ps) (suc i) = cleared_at ps i

pub cleared_links_lead_inside : ClearedLinksLeadInside
cleared_links_lead_inside ps i lt = inl (cleared_at ps i)
