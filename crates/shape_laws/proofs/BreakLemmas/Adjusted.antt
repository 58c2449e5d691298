-- GPOS, and the advances of marks, in a text and in its fragments.
use Rattle.std.proofs.Common.{ℕ, zero, suc, pos, ◌-ℤ◌, ◌≡◌, ◌≤◌, ◌+◌, ◌==◌, inl, inr, not, Bool, true, false, if◌then◌else◌, List, [], ◌∷◌, Option, None, Some, Ok, Err, length, arith, refl, sym, ap, subst, ◌∙◌}
use Rattle.std.specs.Prelude.{nat_abs, reverse}
use Rattle.std.proofs.lemmas.Bool.{cases_lt}
use Rattle.std.proofs.lemmas.Int.{ints}
use Rattle.buffer_glyphs.specs.Items.{Item, Position}
use Rattle.buffer_glyphs.specs.Parts.{first_of}
use Rattle.buffer_core.specs.Readings.{BufferState, Read, Reading, Stage, View, always, and_then, state_after, then_reading}
use Rattle.buffer_stages.specs.Pauses.{Pauses, pause_stage}
use Rattle.buffer_stages.specs.PositionMaps.{positions_mapped}
use Rattle.buffer_parts.specs.Lemmas.Stages.{same_read}
use Rattle.buffer_parts.specs.Breaks.Divisible.{IsSpent, OnlySpends}
use Rattle.layout_laws.specs.Breaks.Positionable.{ArePositionable, IsDivisiblePositioning, StaysPositionable}
use Rattle.layout_laws.specs.Breaks.Positioned.{AreApart, AreFlagged, LeadInside, LeadsInside as LeadsNear, continues}
use Rattle.layout_laws.specs.Breaks.PositionStages.{PauseDivides, PausesDivide}
use Rattle.layout_laws.proofs.BreakLemmas.PositionStages.{positioning_is_divisible}
use Rattle.layout_laws.proofs.BreakLemmas.PositionsInOrder.{nothing_positions, positionings_divide_in_turn}
use Rattle.layout_face.specs.declared.parts.FaceParts.{FaceParts}
use Rattle.layout_face.specs.declared.positioning.PositioningLookup.{PositioningLookup}
use Rattle.layout_map.specs.declared.stages.StageMap.{StageMap}
use Rattle.layout_map.specs.Compiled.{TableStages}
use Rattle.layout_offsets.specs.Links.{position_at}
use Rattle.layout_offsets.specs.Zeroing.{zeroed_position}
use Rattle.layout_positioning.specs.Positioning.{lookups_stage, positioning_lookups, positioning_stages, table_stage, table_stages}
use Rattle.layout_map.specs.Compiled.{lookups_of_stage}
use Rattle.buffer_glyphs.specs.LigatureWords.{is_mark}
use Rattle.shape_fallback.specs.Zeroing.{mark_zeroed}
use Rattle.shape_pipeline.specs.Chains.{in_order, only_if}
use Rattle.shape_pipeline.specs.Positioning.{adjusts_marks, marks_zeroed, positions_adjusted, zeroes_marks}
use Rattle.script_plan.specs.declared.planned.TheConstants.{HB_OT_SHAPE_ZERO_WIDTH_MARKS_BY_GDEF_EARLY, HB_OT_SHAPE_ZERO_WIDTH_MARKS_BY_GDEF_LATE}
use Rattle.shape_pipeline.specs.Shaping.{Shaping, pauses_of}
use Rattle.shape_laws.specs.Breaks.Links.{AllLeadInside, LeadsInside}
use Rattle.shape_laws.specs.Breaks.Seams.{EndPlainly, GlyphsArePositionedApart, begins_apart}
use Rattle.shape_laws.proofs.BreakLemmas.Attached.{mapped_chains}
use Rattle.shape_laws.proofs.BreakLemmas.Changed.{mapped_many}
use Rattle.shape_laws.proofs.BreakLemmas.Followed.{target_there}
use Rattle.shape_laws.proofs.BreakLemmas.GlyphStages.{zeroing_divides}
use Rattle.shape_laws.proofs.BreakLemmas.PlainDivision.{state_by, state_by_is}
use Rattle.shape_pipeline.proofs.Alike.{then_alike}
use Rattle.layout_laws.proofs.BreakLemmas.Following.{none_is as abs_zero}

-- ---- links that lead to a near glyph

near_leads : (ps : List Position) (i : ℕ) → LeadsNear (length ps) i (position_at i ps).attach_chain → LeadsInside i ps
near_leads ps i (inl none) = inl none
near_leads ps i (inr there) = by_test (nat_abs (position_at i ps).attach_chain == 0) refl
  where
    by_test : (b : Bool) → (nat_abs (position_at i ps).attach_chain == 0) ≡ b → LeadsInside i ps
    by_test true e = inl (abs_zero (position_at i ps).attach_chain e)
    by_test false e =
        let link : (position_at i ps).attach_chain ≡ pos there.0 -ℤ pos i = there.3 in
        inr (there.0, target_there (length ps) i (position_at i ps).attach_chain there.0 e there.1 (omega (arith, ints, link)))

past_end : (i : ℕ) (ps : List Position) → length ps ≤ i → (position_at i ps).attach_chain ≡ pos 0
past_end i [] l = refl
past_end zero (p ∷ ps) l = absurd (omega (arith, l))
past_end (suc i) (p ∷ ps) l = past_end i ps (omega (arith, l))

all_near : (ps : List Position) → LeadInside ps → AllLeadInside ps
all_near ps h i = elim (cases_lt i (length ps)) [ inl lt ↦ near_leads ps i (h i lt) | inr out ↦ inl (past_end i ps out) ]

-- ---- the items at the break

apart_is : (x y : Option Item) → begins_apart x y ≡ true → AreApart x y
apart_is None y e = tt
apart_is (Some x) None e = tt
apart_is (Some x) (Some y) e = by_test (continues x y) e
  where
    by_test : (b : Bool) → not b ≡ true → b ≡ false
    by_test true f = cc
    by_test false f = refl

-- ---- the advances of marks

zeroed_chain : (adjust : Bool) (x : Item) (p : Position) → (mark_zeroed adjust x p).attach_chain ≡ p.attach_chain
zeroed_chain adjust x p = elim (is_mark x) as (λ b. (if b then zeroed_position adjust p else p).attach_chain ≡ p.attach_chain) [ true ↦ by_adjust adjust | false ↦ refl ]
  where
    by_adjust : (b : Bool) → (zeroed_position b p).attach_chain ≡ p.attach_chain
    by_adjust true = refl
    by_adjust false = refl

near_same : (ps qs : List Position) → length qs ≡ length ps → ((i : ℕ) → (position_at i qs).attach_chain ≡ (position_at i ps).attach_chain) → LeadInside ps → LeadInside qs
near_same ps qs e same h i lt =
    subst (λ (n : ℕ). LeadsNear n i (position_at i qs).attach_chain) (sym e) (subst (LeadsNear (length ps) i) (sym (same i)) (h i (omega (arith, e, lt))))

zeroed_links : (p : Shaping) (s : BufferState) → length s.view.positions ≡ length s.view.items → LeadInside s.view.positions → LeadInside (state_by (marks_zeroed p) s).view.positions
zeroed_links p s e h =
    let k = mark_zeroed (adjusts_marks p s.view.direction) in
    near_same s.view.positions (positions_mapped k s.view.items s.view.positions) (mapped_many k s.view.items s.view.positions e) (mapped_chains k (zeroed_chain (adjusts_marks p s.view.direction)) s.view.items s.view.positions e) h

zeroed_flagged : (p : Shaping) (s : BufferState) → length s.view.positions ≡ length s.view.items → AreFlagged s.view.scratch_flags s.view.positions → AreFlagged s.view.scratch_flags (state_by (marks_zeroed p) s).view.positions
zeroed_flagged p s e h f i =
    let k = mark_zeroed (adjusts_marks p s.view.direction) in
    mapped_chains k (zeroed_chain (adjusts_marks p s.view.direction)) s.view.items s.view.positions e i ∙ h f i

zeroing_spends : (p : Shaping) → OnlySpends (always (marks_zeroed p))
zeroing_spends p level v r e = subst (λ (x : Read). IsSpent level v x) (same_read (marks_zeroed p v) r e) (record { budget = λ h. h; numbers = λ h. omega arith })

zeroing_positions : (p : Shaping) → IsDivisiblePositioning false (always (marks_zeroed p))
zeroing_positions p =
    let free = zeroing_divides false (adjusts_marks p) in
    record {
      divides = λ c whole earlier later r e l ready j h is_r is_e is_l spared_r spared_e spared_l.
          let w = state_by_is (marks_zeroed p) whole r is_r in
          let f = state_by_is (marks_zeroed p) earlier e is_e in
          let g = state_by_is (marks_zeroed p) later l is_l in
          let again : StaysPositionable false c (state_by (marks_zeroed p) whole) (state_by (marks_zeroed p) earlier) (state_by (marks_zeroed p) later) =
          elim (free.divides c whole earlier later (marks_zeroed p whole.view) (marks_zeroed p earlier.view) (marks_zeroed p later.view) ready j refl refl refl) [
            | inl unsafe ↦ inl unsafe
            | inr next ↦ inr (
              next,
              record {
                early_links = zeroed_links p earlier j.early_whole.positions h.early_links;
                late_links = zeroed_links p later j.late_whole.positions h.late_links;
                apart = h.apart;
                flagged = zeroed_flagged p whole ready.whole.positions h.flagged;
                early_flagged = zeroed_flagged p earlier j.early_whole.positions h.early_flagged;
                late_flagged = zeroed_flagged p later j.late_whole.positions h.late_flagged;
              },
            )
          ] in
          subst (λ (s : BufferState). StaysPositionable false c s (state_after e earlier) (state_after l later)) w
          (subst (λ (s : BufferState). StaysPositionable false c (state_by (marks_zeroed p) whole) s (state_after l later)) f
          (subst (λ (s : BufferState). StaysPositionable false c (state_by (marks_zeroed p) whole) (state_by (marks_zeroed p) earlier) s) g again));
      breakable = free.breakable;
      unsafe = free.unsafe;
      spends = zeroing_spends p;
    }

wanted_positions : (b falls : Bool) (stage : Stage) → IsDivisiblePositioning falls stage → IsDivisiblePositioning falls (only_if b stage)
wanted_positions true falls stage h = h
wanted_positions false falls stage h = nothing_positions falls

-- ---- GPOS without pauses

plain_pauses : (pauses : Pauses) (stages : List StageMap) → EndPlainly stages → PausesDivide false pauses stages
plain_pauses pauses [] h = tt
plain_pauses pauses (s ∷ stages) h = (subst (PauseDivides false pauses) (sym h.0) tt, plain_pauses pauses stages h.1)

pause_alike : (pauses early : Pauses) (o : Option ℕ) → o ≡ None → (v : View) → pause_stage pauses o v ≡ pause_stage early o v
pause_alike pauses early o e v = ap (λ (k : Option ℕ). pause_stage pauses k v) e ∙ ap (λ (k : Option ℕ). pause_stage early k v) (sym e)

stages_alike : (font : FaceParts) (lookups : List PositioningLookup) (t : TableStages) (pauses early : Pauses) (i : ℕ) (stages : List StageMap) → EndPlainly stages → (v : View) → table_stages font lookups t pauses i stages v ≡ table_stages font lookups t early i stages v
stages_alike font lookups t pauses early i [] h v = refl
stages_alike font lookups t pauses early i (s ∷ stages) h v =
    ap (λ (a : Reading). and_then a (table_stages font lookups t pauses (i + 1) stages))
    (then_alike (lookups_stage font lookups (lookups_of_stage t i) v) (pause_stage pauses s.pause) (pause_stage early s.pause) (pause_alike pauses early s.pause h.0))
    ∙ then_alike (table_stage font lookups t early i s.pause v) (table_stages font lookups t pauses (i + 1) stages) (table_stages font lookups t early (i + 1) stages) (stages_alike font lookups t pauses early (i + 1) stages h.1)

gpos_alike : (p q : Shaping) → q ≡ record p { settings = q.settings } → EndPlainly p.map.tables.gpos.stages → (v : View) → positioning_stages q.font q.map (pauses_of q) v ≡ positioning_stages p.font p.map (pauses_of p) v
gpos_alike p q e h v =
    ap (λ (k : Shaping). positioning_stages k.font k.map (pauses_of q) v) e ∙ stages_alike p.font (positioning_lookups p.font) p.map.tables.gpos (pauses_of q) (pauses_of p) 0 p.map.tables.gpos.stages h v

-- ---- the pipeline stage of GPOS

adjusted_positions : (p : Shaping) → EndPlainly p.map.tables.gpos.stages → IsDivisiblePositioning false (positions_adjusted p)
unfolding positions_adjusted
adjusted_positions p h =
    let zeroing = zeroing_positions p in
    let gpos = positioning_is_divisible false p.font p.map (pauses_of p) (plain_pauses (pauses_of p) p.map.tables.gpos.stages h) in
    let first = only_if (zeroes_marks HB_OT_SHAPE_ZERO_WIDTH_MARKS_BY_GDEF_EARLY p) (always (marks_zeroed p)) in
    let second = only_if p.choices.apply_gpos (positioning_stages p.font p.map (pauses_of p)) in
    let third = only_if (zeroes_marks HB_OT_SHAPE_ZERO_WIDTH_MARKS_BY_GDEF_LATE p) (always (marks_zeroed p)) in
    positionings_divide_in_turn false first (in_order (second ∷ third ∷ [])) (wanted_positions (zeroes_marks HB_OT_SHAPE_ZERO_WIDTH_MARKS_BY_GDEF_EARLY p) false (always (marks_zeroed p)) zeroing)
    (positionings_divide_in_turn false second (in_order (third ∷ [])) (wanted_positions p.choices.apply_gpos false (positioning_stages p.font p.map (pauses_of p)) gpos)
    (positionings_divide_in_turn false third (in_order []) (wanted_positions (zeroes_marks HB_OT_SHAPE_ZERO_WIDTH_MARKS_BY_GDEF_LATE p) false (always (marks_zeroed p)) zeroing) (nothing_positions false)))

wanted_alike : (b : Bool) (s t : Stage) → ((v : View) → s v ≡ t v) → (v : View) → only_if b s v ≡ only_if b t v
wanted_alike true s t same v = same v
wanted_alike false s t same v = refl

adjusted_alike : (p q : Shaping) → q ≡ record p { settings = q.settings } → EndPlainly p.map.tables.gpos.stages → (v : View) → positions_adjusted q v ≡ positions_adjusted p v
unfolding positions_adjusted
adjusted_alike p q e h v =
    let first = λ (k : Shaping). only_if (zeroes_marks HB_OT_SHAPE_ZERO_WIDTH_MARKS_BY_GDEF_EARLY k) (always (marks_zeroed k)) in
    let third = λ (k : Shaping). only_if (zeroes_marks HB_OT_SHAPE_ZERO_WIDTH_MARKS_BY_GDEF_LATE k) (always (marks_zeroed k)) in
    let gpos = λ (k : Shaping). positioning_stages k.font k.map (pauses_of k) in
    let b = p.choices.apply_gpos in
    ap (λ (k : Shaping). in_order (first k ∷ only_if k.choices.apply_gpos (gpos q) ∷ third k ∷ []) v) e
    ∙ then_alike (first p v) (in_order (only_if b (gpos q) ∷ third p ∷ [])) (in_order (only_if b (gpos p) ∷ third p ∷ [])) (λ w. ap (λ (a : Reading). and_then a (in_order (third p ∷ []))) (wanted_alike b (gpos q) (gpos p) (gpos_alike p q e h) w))

spends_alike : (p q : Shaping) → ((v : View) → positions_adjusted q v ≡ positions_adjusted p v) → OnlySpends (positions_adjusted p) → OnlySpends (positions_adjusted q)
spends_alike p q same h level v r e = h level v r (sym (same v) ∙ e)

pub glyphs_are_positioned_apart : GlyphsArePositionedApart
glyphs_are_positioned_apart p p1 p2 shapings plain =
    let h = adjusted_positions p plain in
    let early = adjusted_alike p p1 shapings.early_is plain in
    let late = adjusted_alike p p2 shapings.late_is plain in
    record {
      divides = λ c whole earlier later r e l ready j seam none is_r is_e is_l spared_r spared_e spared_l.
          let starts : ArePositionable false whole earlier later = record {
            early_links = λ i lt. inl (none.early_none i);
            late_links = λ i lt. inl (none.late_none i);
            apart = apart_is (first_of (reverse earlier.view.items)) (first_of later.view.items) seam;
            flagged = λ f. none.whole_none;
            early_flagged = λ f. none.early_none;
            late_flagged = λ f. none.late_none;
          } in
          elim (h.divides c whole earlier later r e l ready j starts is_r (sym (early earlier.view) ∙ is_e) (sym (late later.view) ∙ is_l) spared_r spared_e spared_l) [
            | inl unsafe ↦ inl unsafe
            | inr both ↦ inr (
              both.0,
              record {
                early_inside = all_near e.view.positions both.1.early_links;
                late_inside = all_near l.view.positions both.1.late_links;
                whole_flagged = both.1.flagged;
                early_flagged = both.1.early_flagged;
                late_flagged = both.1.late_flagged;
              },
            )
          ];
      breakable = h.breakable;
      unsafe = h.unsafe;
      spends = h.spends;
      early_spends = spends_alike p p1 early h.spends;
      late_spends = spends_alike p p2 late h.spends;
    }
