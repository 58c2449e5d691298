-- Plans of shapers that find no syllables keep the seam of two texts.
use Rattle.std.proofs.Common.{ℕ, ◌≡◌, ◌==◌, Bool, true, false, if◌then◌else◌, List, [], ◌∷◌, Option, Some, None, refl, sym, subst, ◌∙◌}
use Rattle.std.specs.Prelude.{⊤, codes, map, fold, ◌%◌}
use Rattle.buffer_common.specs.declared.script.Script.{Script}
use Rattle.buffer_unicode_tables.specs.Tables.{Tables}
use Rattle.buffer_glyphs.specs.Items.{Item}
use Rattle.buffer_glyphs.specs.LigatureWords.{is_multiplied, lig_comp}
use Rattle.buffer_stages.specs.LayoutStages.{item_not_substituted}
use Rattle.buffer_stages.specs.Settings.{TextSettings}
use Rattle.buffer_core.specs.Readings.{as_it_is}
use Rattle.layout_laws.specs.Breaks.Seams.{ArePausesAtSeam, IsPauseAtSeam, IsDivisibleAtSeam}
use Rattle.layout_laws.proofs.BreakLemmas.PositionStages.{requests_pause_no_positioning}
use Rattle.layout_laws.proofs.BreakLemmas.Seams.{item_maps_keep_seams, nothing_at_seam, substitution_keeps_seams}
use Rattle.layout_face.specs.declared.parts.FaceParts.{FaceParts}
use Rattle.layout_map.specs.Compiled.{MapRequests, OtMapValue, compiled_map}
use Rattle.layout_map.specs.Lookups.{stages_from, stage_ends}
use Rattle.layout_map.specs.Masks.{has_mask}
use Rattle.layout_map.specs.Requests.{with_map_request}
use Rattle.layout_map.specs.declared.stages.StageMap.{StageMap}
use Rattle.layout_map_features.specs.declared.lookup.lookup_map_t.{lookup_map_t}
use Rattle.layout_substitution.specs.Substituting.{substitution_stages}
use Rattle.script_arabic.specs.Tiles.{tile_recorded, tiles_recorded}
use Rattle.script_categories.specs.declared.arabic_action_t.TheConstants as action
use Rattle.script_categories.specs.declared.pause.hb_script_pause_t.{hb_script_pause_t}
use Rattle.script_categories.specs.declared.pause.hb_script_pause_t.TheVariants.{RecordStch, SetupSyllables, ReorderKhmer, ReorderMyanmar, ClearSyllables, ClearSubstitutionFlags, RecordRphf, RecordPref, ReorderUse, InitialReordering, FinalReordering}
use Rattle.script_categories.specs.declared.shaper.hb_ot_script_shaper_t.{hb_ot_script_shaper_t}
use Rattle.script_categories.specs.Pauses.{pause_of_number}
use Rattle.script_syllabic.specs.Syllables.{without_syllable}
use Rattle.script_dispatch.specs.Hooks.{Spans, pause_done, pause_if, pauses_by}
use Rattle.script_dispatch.specs.Requests.{has_rclt}
use Rattle.script_dispatch.specs.Rules.{rules_of}
use Rattle.script_dispatch.specs.Shapers.{shaper_features, shaper_overrides}
use Rattle.script_dispatch.specs.declared.any_shaper.hb_ot_any_shaper_t.{hb_ot_any_shaper_t}
use Rattle.script_dispatch.specs.declared.any_shaper.hb_ot_any_shaper_t.TheVariants as any
use Rattle.script_plan.specs.Common.{common_features_after, first_requests, request_of}
use Rattle.script_plan.specs.Plans.{nothing_asked}
use Rattle.script_plan.specs.declared.plan.hb_script_plan_t.{hb_script_plan_t}
use Rattle.shape_laws.specs.Breaks.Pauses.{IsItemwise, IsItemwiseIfAny, EndsItemwise, EndItemwise}
use Rattle.shape_laws.specs.Breaks.Seams.{EndPlainly}
use Rattle.shape_laws.specs.Breaks.SeamPlans.{ItemwisePausesKeepSeams, PlannedSubstitutionKeepsSeams, PlannedPositioningEndsPlainly}
use Rattle.shape_laws.proofs.BreakLemmas.Pauses.{tile_spares, syllable_spares, flag_spares}
use Rattle.shape_laws.proofs.BreakLemmas.PlannedPauses.{planned_pauses_are_itemwise}

-- ---- pauses

tile_kept : (x : Item) → (tile_recorded x).lig_props ≡ x.lig_props
tile_kept x = by_test (is_multiplied x)
  where
    by_test : (t : Bool) → (if t then record x { auxiliary = if lig_comp x % 2 == 1 then action.STRETCHING_REPEATING else action.STRETCHING_FIXED } else x).lig_props ≡ x.lig_props
    by_test true = refl
    by_test false = refl

tiles_at_seam : (falls has_stch : Bool) → IsDivisibleAtSeam falls (tiles_recorded has_stch) (tiles_recorded has_stch) (tiles_recorded has_stch)
tiles_at_seam falls true = item_maps_keep_seams falls tile_recorded tile_spares tile_kept
tiles_at_seam falls false = nothing_at_seam falls

done_at_seam : (falls : Bool) (shaper : hb_ot_script_shaper_t) (m : OtMapValue) (script : Option Script) (font : FaceParts) (spans : Spans) (settings early late : TextSettings) (pause : hb_script_pause_t) → IsItemwise pause
    → IsDivisibleAtSeam falls (pause_done shaper m script font spans settings pause) (pause_done shaper m script font spans early pause) (pause_done shaper m script font spans late pause)
done_at_seam falls shaper m script font spans settings early late RecordStch h = tiles_at_seam falls (has_mask (codes "stch") m)
done_at_seam falls shaper m script font spans settings early late ClearSyllables h = item_maps_keep_seams falls without_syllable syllable_spares (λ x. refl)
done_at_seam falls shaper m script font spans settings early late ClearSubstitutionFlags h = item_maps_keep_seams falls item_not_substituted flag_spares (λ x. refl)
done_at_seam falls shaper m script font spans settings early late SetupSyllables h = absurd h
done_at_seam falls shaper m script font spans settings early late ReorderKhmer h = absurd h
done_at_seam falls shaper m script font spans settings early late ReorderMyanmar h = absurd h
done_at_seam falls shaper m script font spans settings early late RecordRphf h = absurd h
done_at_seam falls shaper m script font spans settings early late RecordPref h = absurd h
done_at_seam falls shaper m script font spans settings early late ReorderUse h = absurd h
done_at_seam falls shaper m script font spans settings early late InitialReordering h = absurd h
done_at_seam falls shaper m script font spans settings early late FinalReordering h = absurd h

any_at_seam : (falls : Bool) (shaper : hb_ot_script_shaper_t) (m : OtMapValue) (script : Option Script) (font : FaceParts) (spans : Spans) (settings early late : TextSettings) (pause : Option hb_script_pause_t) → IsItemwiseIfAny pause
    → IsDivisibleAtSeam falls (pause_if shaper m script font spans settings pause) (pause_if shaper m script font spans early pause) (pause_if shaper m script font spans late pause)
any_at_seam falls shaper m script font spans settings early late None h = nothing_at_seam falls
any_at_seam falls shaper m script font spans settings early late (Some pause) h = done_at_seam falls shaper m script font spans settings early late pause h

abbrev AreAtSeam : Bool → (shaper : hb_ot_script_shaper_t) (m : OtMapValue) (script : Option Script) (font : FaceParts) (spans : Spans) (settings early late : TextSettings) → List StageMap → Type 0
AreAtSeam falls shaper m script font spans settings early late stages = ArePausesAtSeam falls (pauses_by shaper m script font spans settings) (pauses_by shaper m script font spans early) (pauses_by shaper m script font spans late) stages

stage_before : (falls : Bool) (shaper : hb_ot_script_shaper_t) (m : OtMapValue) (script : Option Script) (font : FaceParts) (spans : Spans) (settings early late : TextSettings) (last : ℕ) (o : Option ℕ) (stages : List StageMap) → EndsItemwise o
    → AreAtSeam falls shaper m script font spans settings early late stages → AreAtSeam falls shaper m script font spans settings early late (record { last_lookup = last; pause = o } ∷ stages)
stage_before falls shaper m script font spans settings early late last None stages h k = (tt, k)
stage_before falls shaper m script font spans settings early late last (Some n) stages h k = (any_at_seam falls shaper m script font spans settings early late (pause_of_number n) h, k)

pub itemwise_pauses_keep_seams : ItemwisePausesKeepSeams
itemwise_pauses_keep_seams falls shaper m script font spans settings early late [] h = tt
itemwise_pauses_keep_seams falls shaper m script font spans settings early late (s ∷ stages) h =
    stage_before falls shaper m script font spans settings early late s.last_lookup s.pause stages h.0 (itemwise_pauses_keep_seams falls shaper m script font spans settings early late stages h.1)

-- ---- substitution by a plan

plain_at_seam : (falls : Bool) (stages : List StageMap) → ArePausesAtSeam falls (λ n. as_it_is) (λ n. as_it_is) (λ n. as_it_is) stages
plain_at_seam falls [] = tt
plain_at_seam falls (s ∷ stages) = (by_pause s.pause, plain_at_seam falls stages)
  where
    by_pause : (o : Option ℕ) → IsPauseAtSeam falls (λ n. as_it_is) (λ n. as_it_is) (λ n. as_it_is) o
    by_pause None = tt
    by_pause (Some n) = nothing_at_seam falls

abbrev Substitutes : Bool → hb_ot_any_shaper_t → hb_script_plan_t ⊤ → FaceParts → Tables → Spans → (settings early late : TextSettings) → Type 0
Substitutes falls shaper plan font t spans settings early late =
    IsDivisibleAtSeam falls (substitution_stages font plan.map ((rules_of shaper plan).pauses font t spans settings)) (substitution_stages font plan.map ((rules_of shaper plan).pauses font t spans early)) (substitution_stages font plan.map ((rules_of shaper plan).pauses font t spans late))

substitutes : (falls : Bool) (shaper : hb_ot_any_shaper_t) (plan : hb_script_plan_t ⊤) (font : FaceParts) (t : Tables) (spans : Spans) (settings early late : TextSettings) → EndItemwise plan.map.tables.gsub.stages → Substitutes falls shaper plan font t spans settings early late
substitutes falls any.Default plan font t spans settings early late h = substitution_keeps_seams falls font plan.map (λ n. as_it_is) (λ n. as_it_is) (λ n. as_it_is) (plain_at_seam falls plan.map.tables.gsub.stages)
substitutes falls any.Dumber plan font t spans settings early late h = substitution_keeps_seams falls font plan.map (λ n. as_it_is) (λ n. as_it_is) (λ n. as_it_is) (plain_at_seam falls plan.map.tables.gsub.stages)
substitutes falls (any.Script shaper) plan font t spans settings early late h =
    substitution_keeps_seams falls font plan.map (pauses_by shaper plan.map plan.script font spans settings) (pauses_by shaper plan.map plan.script font spans early) (pauses_by shaper plan.map plan.script font spans late)
    (itemwise_pauses_keep_seams falls shaper plan.map plan.script font spans settings early late plan.map.tables.gsub.stages h)

pub planned_substitution_keeps_seams : PlannedSubstitutionKeepsSeams
planned_substitution_keeps_seams falls shaper plan font languages direction script features t spans settings early late h is =
    substitutes falls shaper plan font t spans settings early late (subst (λ (m : OtMapValue). EndItemwise m.tables.gsub.stages) (sym is) (planned_pauses_are_itemwise shaper font languages direction script features h))

-- ---- positioning by a plan

ends_plainly : (lookups : ℕ → List lookup_map_t) (numbers : List ℕ) → numbers ≡ [] → EndPlainly (stage_ends 0 (stages_from lookups 0 numbers))
ends_plainly lookups numbers e = subst (λ (ns : List ℕ). EndPlainly (stage_ends 0 (stages_from lookups 0 ns))) (sym e) (refl, tt)

compiled_plainly : (b : MapRequests) → b.pauses.gpos ≡ [] → EndPlainly (compiled_map b).tables.gpos.stages
compiled_plainly b e = ends_plainly _ b.pauses.gpos e

pub planned_positioning_ends_plainly : PlannedPositioningEndsPlainly
planned_positioning_ends_plainly shaper font languages direction script features =
    let none : MapRequests = nothing_asked font script languages in
    let first : MapRequests = fold with_map_request none (first_requests direction) in
    let own : MapRequests = fold with_map_request first (shaper_features shaper script (has_rclt first)) in
    let common : MapRequests = fold with_map_request own (common_features_after direction) in
    let user : MapRequests = fold with_map_request common (map request_of features) in
    compiled_plainly (fold with_map_request user (shaper_overrides shaper))
    (requests_pause_no_positioning user (shaper_overrides shaper)
    ∙ requests_pause_no_positioning common (map request_of features)
    ∙ requests_pause_no_positioning own (common_features_after direction)
    ∙ requests_pause_no_positioning first (shaper_features shaper script (has_rclt first))
    ∙ requests_pause_no_positioning none (first_requests direction))
