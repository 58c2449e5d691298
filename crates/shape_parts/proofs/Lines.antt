-- Clusters of a shaped text stand in the direction of its line.
use Rattle.std.proofs.Common.{ℕ, ◌≡◌, ◌==◌, Bool, true, false, not, if◌then◌else◌, List, [], ◌∷◌, length, reverse, Ok, refl, sym, ap, subst, ◌∙◌}
use Rattle.std.proofs.lemmas.Bool.{eqb-true}
use Rattle.std.proofs.lemmas.List.{nil_from_length}
use Rattle.buffer_common.specs.Direction.{is_backward}
use Rattle.buffer_common.specs.declared.direction.Direction.{Direction}
use Rattle.buffer_glyphs.specs.declared.level.BufferClusterLevel.{BufferClusterLevel}
use Rattle.buffer_glyphs.specs.EventParts.{parts_of}
use Rattle.buffer_glyphs.specs.Events.{Reverse, origins_after}
use Rattle.buffer_glyphs.specs.Levels.{IsMonotone}
use Rattle.buffer_glyphs.specs.Order.{IsInOrder, falls_after}
use Rattle.buffer_glyphs.specs.Origins.{Origin, numbers}
use Rattle.buffer_parts.specs.Keeping.{HaveParts}
use Rattle.buffer_parts.specs.Turns.{IsUnturned}
use Rattle.buffer_parts.specs.Lemmas.Turns.{turns_add_up, unturned_keeps_side}
use Rattle.buffer_core.specs.Readings.{BufferState, Read, Reading, Stage, View, always, and_then, as_it_is, state_after, with_events}
use Rattle.buffer_parts.specs.Stages.{StaysUnturned}
use Rattle.buffer_parts.specs.Lemmas.Stages.{at_read, both_read, same_unturned, stages_stay_unturned}
use Rattle.layout_laws.proofs.Lemmas.Unturned.{positioning_stays_unturned, substitution_stays_unturned}
use Rattle.layout_offsets.specs.Finishing.{links_followed}
use Rattle.layout_substitution.specs.Substituting.{substitution_stages}
use Rattle.layout_positioning.specs.Positioning.{positioning_stages}
use Rattle.shape_glyphs.specs.Flags.{with_flags_spread}
use Rattle.shape_glyphs.specs.Ignorables.{ignorables_hidden}
use Rattle.shape_glyphs.specs.Selectors.{with_selectors}
use Rattle.shape_glyphs.specs.Widths.{zero_widths}
use Rattle.shape_parts.specs.Lines.{KeepsDirection, KeepsFall, StaysInLine, falls_on_line}
use Rattle.shape_parts.proofs.StageLines.{in_line_keeps_parts_on_line, same_on_line, then_keeps_fall}
use Rattle.shape_parts.proofs.Glyphs.{followed_links_stay, ignorables_stay, selectors_stay, spread_stays, zeroed_widths_stay}
use Rattle.shape_pipeline.specs.Chains.{in_order, only_if}
use Rattle.shape_pipeline.specs.Endings.{text_ended}
use Rattle.shape_pipeline.specs.Glyphs.{glyphs_substituted, glyphs_taken}
use Rattle.shape_pipeline.specs.Limits.{final_view, unshaped_text}
use Rattle.shape_pipeline.specs.Masks.{ranges_set}
use Rattle.shape_pipeline.specs.Positioning.{marks_positioned, positions_adjusted, positions_begun, positions_ended, visual_order}
use Rattle.shape_pipeline.specs.Reading.{after_ranges, before_ranges, clusters_after, positioning_stage, reading, shaping_stage}
use Rattle.shape_pipeline.specs.Shaped.{text_reading}
use Rattle.shape_pipeline.specs.Shaping.{Shaping, pauses_of, postprocessing_stage, preprocessing_stage, shaper_masks_set}
use Rattle.shape_parts.specs.Premises.{RulesKeepDirection, ShapingKeepsParts}
use Rattle.shape_parts.specs.Laws.{ClustersStandInLine}
use Rattle.shape_parts.proofs.Begun.{begun_texts_keep_parts, line_of}
use Rattle.shape_parts.proofs.Chains.{IsOfChains, chain_has, wanted_has}
use Rattle.shape_parts.proofs.Directions.{positioning_direction, substitution_direction}
use Rattle.shape_parts.proofs.Parts.{positioned_stays, texts_have_parts, read_as}
use Rattle.shape_parts.proofs.Phases.{AreShaping, before_have, positions_adjusted_have, positions_begun_have, ranges_have, substituted_have, taken_have}

-- ---- up to the visual order

fall_chain : IsOfChains KeepsFall
fall_chain = record { same = same_on_line.fall; steps = then_keeps_fall }

unturned_fall : (s : Stage) → StaysUnturned s → KeepsDirection s → KeepsFall s
unturned_fall s u d v r level falls mono e =
    ap (λ b. falls_on_line b r.view.direction) (unturned_keeps_side level (r.events level) falls (u v r level mono e)) ∙ ap (falls_on_line falls) (d v r e)

shaping_fall : (p : Shaping) → ShapingKeepsParts p → RulesKeepDirection p.rules → AreShaping KeepsFall p
shaping_fall p h d = record {
  chains = fall_chain;
  in_line = line_of;
  begun = (begun_texts_keep_parts p h).fall;
  preprocessed = unturned_fall (preprocessing_stage p) (h.rules.preprocesses p.font p.tables p.settings).unturned (d.preprocesses p.font p.tables p.settings);
  masked = unturned_fall (shaper_masks_set p) (h.rules.sets_masks p.font p.tables p.settings).unturned (d.sets_masks p.font p.tables p.settings);
  substituted = unturned_fall (substitution_stages p.font p.map (pauses_of p)) (substitution_stays_unturned p.font p.map (pauses_of p) (λ n. (h.rules.pauses p.font p.tables p.spans p.settings n h.spans).unturned)) (substitution_direction p.font p.map (pauses_of p) (d.pauses p.font p.tables p.spans p.settings));
  positioned = unturned_fall (positioning_stages p.font p.map (pauses_of p)) (positioning_stays_unturned p.font p.map (pauses_of p) (λ n. (h.rules.pauses p.font p.tables p.spans p.settings n h.spans).unturned)) (positioning_direction p.font p.map (pauses_of p) (d.pauses p.font p.tables p.spans p.settings));
}

-- ---- from the visual order on

-- a stage leaves clusters as they fall along the line
abbrev DrawsInLine : Stage → Type 0
DrawsInLine stage = (v : View) (r : Read) (level : BufferClusterLevel) (falls : Bool) → IsMonotone level → stage v ≡ Ok r → falls_after falls (parts_of level (r.events level)) ≡ falls_on_line falls v.direction

visual_draws : DrawsInLine (always visual_order)
visual_draws v r level falls mono e = at_read (λ q. falls_after falls (parts_of level (q.events level)) ≡ falls_on_line falls v.direction) (visual_order v) r e (by_test (is_backward v.direction))
  where
    by_test : (b : Bool) → falls_after falls (parts_of level ((if b then with_events (Reverse ∷ []) (record v { items = reverse v.items; positions = reverse v.positions }) else with_events [] v).events level)) ≡ (if b then not falls else falls)
    by_test true = refl
    by_test false = refl

fall_then_draws : (s t : Stage) → KeepsFall s → DrawsInLine t → DrawsInLine (λ v. and_then (s v) t)
fall_then_draws s t p q v r level falls mono e =
    let two = both_read (s v) t r e in
    subst (λ (w : Read). falls_after falls (parts_of level (w.events level)) ≡ falls_on_line falls v.direction) two.both
    (turns_add_up level (two.first.events level) (two.second.events level) falls
    ∙ q two.first.view two.second level (falls_after falls (parts_of level (two.first.events level))) mono two.second_is
    ∙ p v two.first level falls mono two.first_is)

draws_then_unturned : (s t : Stage) → DrawsInLine s → StaysUnturned t → DrawsInLine (λ v. and_then (s v) t)
draws_then_unturned s t p q v r level falls mono e =
    let two = both_read (s v) t r e in
    subst (λ (w : Read). falls_after falls (parts_of level (w.events level)) ≡ falls_on_line falls v.direction) two.both
    (turns_add_up level (two.first.events level) (two.second.events level) falls
    ∙ unturned_keeps_side level (two.second.events level) (falls_after falls (parts_of level (two.first.events level))) (q two.first.view two.second level mono two.second_is)
    ∙ p v two.first level falls mono two.first_is)

-- the last of some stages
last_draws : (s : Stage) → DrawsInLine s → DrawsInLine (in_order (s ∷ []))
last_draws s p = draws_then_unturned s as_it_is p same_unturned

ended_draws : (p : Shaping) → DrawsInLine (positions_ended p)
unfolding positions_ended
ended_draws p =
    let widths = always (zero_widths p.settings.flags) in
    let marks = always (marks_positioned p) in
    let drawn = in_order (always visual_order ∷ []) in
    let from_marks = in_order (only_if p.choices.fallback_mark_positioning marks ∷ always visual_order ∷ []) in
    let from_links = in_order (always links_followed ∷ only_if p.choices.fallback_mark_positioning marks ∷ always visual_order ∷ []) in
    fall_then_draws widths from_links (line_of widths (zeroed_widths_stay p.settings.flags))
    (fall_then_draws (always links_followed) from_marks (line_of (always links_followed) followed_links_stay)
    (fall_then_draws (only_if p.choices.fallback_mark_positioning marks) drawn (wanted_has KeepsFall p.choices.fallback_mark_positioning marks fall_chain (line_of marks (positioned_stays p)))
    (last_draws (always visual_order) visual_draws)))

positioning_draws : (p : Shaping) → ShapingKeepsParts p → RulesKeepDirection p.rules → DrawsInLine (positioning_stage p)
unfolding positioning_stage
positioning_draws p h d =
    fall_then_draws (positions_begun p) (in_order (positions_adjusted p ∷ positions_ended p ∷ [])) (positions_begun_have KeepsFall p (shaping_fall p h d))
    (fall_then_draws (positions_adjusted p) (in_order (positions_ended p ∷ [])) (positions_adjusted_have KeepsFall p (shaping_fall p h d)) (last_draws (positions_ended p) (ended_draws p)))

unturned_chain : IsOfChains StaysUnturned
unturned_chain = record { same = same_unturned; steps = stages_stay_unturned }

text_ended_unturned : (p : Shaping) → ShapingKeepsParts p → StaysUnturned (text_ended p)
unfolding text_ended
text_ended_unturned p h =
    chain_has StaysUnturned (always (with_selectors p.settings.not_found_variation_selector) ∷ always (ignorables_hidden p.settings.flags p.settings.invisible p.font) ∷ postprocessing_stage p ∷ always with_flags_spread ∷ always (final_view p.direction) ∷ []) unturned_chain
    ((selectors_stay p.settings.not_found_variation_selector).kept.unturned, ((ignorables_stay p.settings.flags p.settings.invisible p.font).kept.unturned, ((h.rules.postprocesses p.font p.settings).unturned, (spread_stays.kept.unturned, (final_unturned, tt)))))
  where
    final_unturned : StaysUnturned (always (final_view p.direction))
    final_unturned v r level mono e = at_read (λ q. IsUnturned (q.events level)) (final_view p.direction v) r e tt

after_draws : (p : Shaping) → ShapingKeepsParts p → RulesKeepDirection p.rules → DrawsInLine (after_ranges p)
unfolding after_ranges
after_draws p h d =
    fall_then_draws (glyphs_taken p) (in_order (glyphs_substituted p ∷ positioning_stage p ∷ text_ended p ∷ [])) (taken_have KeepsFall p (shaping_fall p h d))
    (fall_then_draws (glyphs_substituted p) (in_order (positioning_stage p ∷ text_ended p ∷ [])) (substituted_have KeepsFall p (shaping_fall p h d))
    (draws_then_unturned (positioning_stage p) (in_order (text_ended p ∷ [])) (positioning_draws p h d) (stages_stay_unturned (text_ended p) as_it_is (text_ended_unturned p h) same_unturned)))

shaping_draws : (p : Shaping) (clusters : List ℕ) → ShapingKeepsParts p → RulesKeepDirection p.rules → DrawsInLine (shaping_stage p clusters)
unfolding shaping_stage
shaping_draws p clusters h d =
    fall_then_draws (before_ranges p) (in_order (ranges_set p clusters ∷ after_ranges p ∷ [])) (before_have KeepsFall p h (shaping_fall p h d))
    (fall_then_draws (ranges_set p clusters) (in_order (after_ranges p ∷ [])) (ranges_have KeepsFall p clusters (shaping_fall p h d)) (last_draws (after_ranges p) (after_draws p h d)))

-- ---- a text

forward_falls : (d : Direction) → falls_on_line false d ≡ is_backward d
forward_falls d = by_test (is_backward d)
  where
    by_test : (b : Bool) → (if b then true else false) ≡ b
    by_test true = refl
    by_test false = refl

none_in_order : (falls : Bool) → IsInOrder falls []
none_in_order false = tt
none_in_order true = tt

pub no_origins : (os : List Origin) → length os ≡ 0 → os ≡ []
no_origins os e = nil_from_length os e

pub clusters_stand_in_line : ClustersStandInLine
unfolding text_reading
clusters_stand_in_line p text r h d o along e = by_test (length text.view.items == 0) refl e (texts_have_parts p text r false h o e)
  where
    by_test : (b : Bool) → (length text.view.items == 0) ≡ b → ◌≡◌ {A = Reading} (if b then Ok (unshaped_text text.view) else reading p text) (Ok r)
        → HaveParts false text.asks text.level (r.events text.level) text.origins × (length (state_after r text).origins ≡ length r.view.items)
        → IsInOrder (is_backward p.direction) (numbers (state_after r text).origins)
    by_test true none f k =
        let bare : text.origins ≡ [] = no_origins text.origins (o.counted ∙ eqb-true (length text.view.items) 0 none) in
        at_read (λ q. IsInOrder (is_backward p.direction) (numbers (origins_after text.asks text.level (q.events text.level) text.origins))) (unshaped_text text.view) r f
        (subst (λ (os : List Origin). IsInOrder (is_backward p.direction) (numbers os)) (sym bare) (none_in_order (is_backward p.direction)))
    by_test false some f k =
        let clusters = clusters_after (before_ranges p text.view) text in
        let drawn = shaping_draws p clusters h d text.view r text.level false o.level (sym (read_as p text) ∙ f) in
        let side : falls_after false (parts_of text.level (r.events text.level)) ≡ is_backward p.direction = drawn ∙ ap (falls_on_line false) along ∙ forward_falls p.direction in
        subst (λ (b : Bool). IsInOrder b (numbers (state_after r text).origins)) side k.0.line
