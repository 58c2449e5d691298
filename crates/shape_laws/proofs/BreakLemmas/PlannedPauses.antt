-- Plans of the shapers whose pauses change each item by itself.
use Rattle.std.proofs.Common.{ℕ, ◌==◌, Bool, true, false, if◌then◌else◌, List, [], ◌∷◌, ◌++◌, Option, Some, None, sym, subst}
use Rattle.std.specs.Prelude.{⊤, codes, map, fold}
use Rattle.buffer_common.specs.declared.direction.Direction.{Direction}
use Rattle.buffer_common.specs.declared.direction.Direction.TheVariants.{LeftToRight, RightToLeft, TopToBottom, BottomToTop, Invalid}
use Rattle.buffer_common.specs.declared.script.Script.{Script}
use Rattle.buffer_tags.specs.declared.feature.Feature.{Feature as UserFeature}
use Rattle.buffer_unicode_tables.specs.Tables.{Tables}
use Rattle.buffer_stages.specs.Settings.{TextSettings}
use Rattle.buffer_core.specs.Readings.{as_it_is}
use Rattle.buffer_parts.specs.Breaks.Divisible.{IsDivisible}
use Rattle.layout_face.specs.declared.parts.FaceParts.{FaceParts}
use Rattle.layout_map.specs.Compiled.{MapRequests, OtMapValue}
use Rattle.layout_map_features.specs.declared.flags.TheConstants.{F_MANUAL_ZWJ}
use Rattle.layout_map.specs.Requests.{enabled_feature, with_map_request}
use Rattle.layout_map.specs.declared.request.MapRequest.{MapRequest}
use Rattle.layout_map.specs.declared.request.MapRequest.TheVariants.{Feature, GsubPause}
use Rattle.layout_map.specs.declared.stages.StageMap.{StageMap}
use Rattle.layout_map_features.specs.declared.request.FeatureRequest.{FeatureRequest}
use Rattle.layout_substitution.specs.Substituting.{substitution_stages}
use Rattle.layout_laws.specs.Breaks.Stages.{IsPauseDivisible, ArePausesDivisible}
use Rattle.layout_laws.proofs.BreakLemmas.InOrder.{nothing_divisible}
use Rattle.layout_laws.proofs.BreakLemmas.Stages.{substitution_is_divisible}
use Rattle.script_categories.specs.declared.shaper.hb_ot_script_shaper_t.TheVariants.{ARABIC_SHAPER, HANGUL_SHAPER, HEBREW_SHAPER, INDIC_SHAPER, KHMER_SHAPER, MYANMAR_SHAPER, MYANMAR_ZAWGYI_SHAPER, THAI_SHAPER, UNIVERSAL_SHAPER}
use Rattle.script_categories.specs.Pauses.{pause_of_number}
use Rattle.script_arabic.specs.Requests.{arabic_features, arabic_forms, arabic_ligatures, is_arabic, required_contexts, stage_end_if}
use Rattle.script_plan.specs.Common.{common_features_after, first_requests, of_line, of_side, request_of}
use Rattle.script_plan.specs.Plans.{nothing_asked}
use Rattle.script_plan.specs.Rules.{Spans}
use Rattle.script_plan.specs.declared.plan.hb_script_plan_t.{hb_script_plan_t}
use Rattle.script_dispatch.specs.Requests.{has_rclt}
use Rattle.script_dispatch.specs.Shapers.{shaper_features, shaper_overrides}
use Rattle.script_dispatch.specs.Rules.{rules_of}
use Rattle.script_dispatch.specs.declared.any_shaper.hb_ot_any_shaper_t.{hb_ot_any_shaper_t}
use Rattle.script_dispatch.specs.declared.any_shaper.hb_ot_any_shaper_t.TheVariants as any
use Rattle.shape_laws.specs.Breaks.Pauses.{IsItemwiseIfAny, AreItemwise, EndItemwise}
use Rattle.shape_laws.specs.Breaks.PlannedPauses.{IsItemwiseRequest, AreItemwiseRequests, FindsNoSyllables, PlannedPausesAreItemwise, PlannedSubstitutionIsDivisible}
use Rattle.shape_laws.proofs.BreakLemmas.Pauses.{compiled_pauses_are_itemwise, itemwise_substitution_is_divisible}

-- ---- requests

one_more : (ns : List ℕ) (n : ℕ) → AreItemwise ns → IsItemwiseIfAny (pause_of_number n) → AreItemwise (ns ++ n ∷ [])
one_more [] n h k = (k, tt)
one_more (m ∷ ns) n h k = (h.0, one_more ns n h.1 k)

request_kept : (b : MapRequests) (r : MapRequest) → AreItemwise b.pauses.gsub → IsItemwiseRequest r → AreItemwise (with_map_request b r).pauses.gsub
request_kept b (GsubPause n) h k = one_more b.pauses.gsub n h k
request_kept b (Feature tag flags value) h k = by_test (tag.0 == 0) _
  where
    by_test : (t : Bool) (requests : List FeatureRequest) → AreItemwise (if t then b else record b { requests = requests }).pauses.gsub
    by_test true requests = h
    by_test false requests = h

requests_kept : (b : MapRequests) (requests : List MapRequest) → AreItemwise b.pauses.gsub → AreItemwiseRequests requests → AreItemwise (fold with_map_request b requests).pauses.gsub
requests_kept b [] h k = h
requests_kept b (r ∷ requests) h k = requests_kept (with_map_request b r) requests (request_kept b r h k.0) k.1

both_itemwise : (rs qs : List MapRequest) → AreItemwiseRequests rs → AreItemwiseRequests qs → AreItemwiseRequests (rs ++ qs)
both_itemwise [] qs h k = k
both_itemwise (r ∷ rs) qs h k = (h.0, both_itemwise rs qs h.1 k)

-- ---- the requests of a plan

side_itemwise : (d : Direction) → AreItemwiseRequests (of_side d)
side_itemwise LeftToRight = (tt, (tt, tt))
side_itemwise RightToLeft = (tt, (tt, tt))
side_itemwise TopToBottom = tt
side_itemwise BottomToTop = tt
side_itemwise Invalid = tt

first_itemwise : (d : Direction) → AreItemwiseRequests (first_requests d)
first_itemwise d = (tt, (tt, both_itemwise (of_side d) _ (side_itemwise d) (tt, (tt, (tt, (tt, (tt, (tt, (tt, tt)))))))))

line_itemwise : (d : Direction) → AreItemwiseRequests (of_line d)
line_itemwise LeftToRight = (tt, (tt, (tt, (tt, (tt, (tt, (tt, tt)))))))
line_itemwise RightToLeft = (tt, (tt, (tt, (tt, (tt, (tt, (tt, tt)))))))
line_itemwise TopToBottom = (tt, tt)
line_itemwise BottomToTop = (tt, tt)
line_itemwise Invalid = (tt, tt)

common_itemwise : (d : Direction) → AreItemwiseRequests (common_features_after d)
common_itemwise d = (tt, (tt, (tt, (tt, (tt, (tt, (tt, (tt, (tt, line_itemwise d)))))))))

user_itemwise : (features : List UserFeature) → AreItemwiseRequests (map request_of features)
user_itemwise [] = tt
user_itemwise (f ∷ features) = (tt, user_itemwise features)

end_itemwise : (t : Bool) → AreItemwiseRequests (stage_end_if t)
end_itemwise true = (tt, tt)
end_itemwise false = tt

contexts_itemwise : (t : Bool) → AreItemwiseRequests (required_contexts t)
contexts_itemwise true = tt
contexts_itemwise false = (tt, (tt, tt))

arabic_itemwise : (arabic own : Bool) → AreItemwiseRequests (arabic_features arabic own)
arabic_itemwise arabic own =
    let joins : List MapRequest = enabled_feature (codes "calt") F_MANUAL_ZWJ ∷ required_contexts own in
    let forms : AreItemwiseRequests (arabic_forms arabic) = (tt, (tt, (tt, (tt, (tt, (tt, (tt, (tt, (tt, (tt, (tt, (tt, (tt, (tt, (tt, (tt, (tt, (tt, (tt, (tt, tt)))))))))))))))))))) in
    let ligatures : AreItemwiseRequests arabic_ligatures = (tt, (tt, (tt, tt))) in
    let joining : AreItemwiseRequests joins = (tt, contexts_itemwise own) in
    both_itemwise (arabic_forms arabic ++ stage_end_if arabic ++ joins) arabic_ligatures
    (both_itemwise (arabic_forms arabic ++ stage_end_if arabic) joins (both_itemwise (arabic_forms arabic) (stage_end_if arabic) forms (end_itemwise arabic)) joining) ligatures

shaper_itemwise : (shaper : hb_ot_any_shaper_t) (script : Option Script) (has_rclt : Bool) → FindsNoSyllables shaper → AreItemwiseRequests (shaper_features shaper script has_rclt)
shaper_itemwise any.Default script has_rclt h = tt
shaper_itemwise any.Dumber script has_rclt h = tt
shaper_itemwise (any.Script ARABIC_SHAPER) script has_rclt h = arabic_itemwise (is_arabic script) has_rclt
shaper_itemwise (any.Script HANGUL_SHAPER) script has_rclt h = (tt, (tt, (tt, tt)))
shaper_itemwise (any.Script HEBREW_SHAPER) script has_rclt h = tt
shaper_itemwise (any.Script MYANMAR_ZAWGYI_SHAPER) script has_rclt h = tt
shaper_itemwise (any.Script THAI_SHAPER) script has_rclt h = tt
shaper_itemwise (any.Script INDIC_SHAPER) script has_rclt h = absurd h
shaper_itemwise (any.Script KHMER_SHAPER) script has_rclt h = absurd h
shaper_itemwise (any.Script MYANMAR_SHAPER) script has_rclt h = absurd h
shaper_itemwise (any.Script UNIVERSAL_SHAPER) script has_rclt h = absurd h

overrides_itemwise : (shaper : hb_ot_any_shaper_t) → FindsNoSyllables shaper → AreItemwiseRequests (shaper_overrides shaper)
overrides_itemwise any.Default h = tt
overrides_itemwise any.Dumber h = tt
overrides_itemwise (any.Script ARABIC_SHAPER) h = tt
overrides_itemwise (any.Script HANGUL_SHAPER) h = (tt, tt)
overrides_itemwise (any.Script HEBREW_SHAPER) h = tt
overrides_itemwise (any.Script MYANMAR_ZAWGYI_SHAPER) h = tt
overrides_itemwise (any.Script THAI_SHAPER) h = tt
overrides_itemwise (any.Script INDIC_SHAPER) h = absurd h
overrides_itemwise (any.Script KHMER_SHAPER) h = absurd h
overrides_itemwise (any.Script MYANMAR_SHAPER) h = absurd h
overrides_itemwise (any.Script UNIVERSAL_SHAPER) h = absurd h

pub planned_pauses_are_itemwise : PlannedPausesAreItemwise
planned_pauses_are_itemwise shaper font languages direction script features h =
    let none : MapRequests = nothing_asked font script languages in
    let first : MapRequests = fold with_map_request none (first_requests direction) in
    let own : MapRequests = fold with_map_request first (shaper_features shaper script (has_rclt first)) in
    let common : MapRequests = fold with_map_request own (common_features_after direction) in
    let user : MapRequests = fold with_map_request common (map request_of features) in
    compiled_pauses_are_itemwise (fold with_map_request user (shaper_overrides shaper))
    (requests_kept user (shaper_overrides shaper)
    (requests_kept common (map request_of features)
    (requests_kept own (common_features_after direction)
    (requests_kept first (shaper_features shaper script (has_rclt first))
    (requests_kept none (first_requests direction) tt (first_itemwise direction))
    (shaper_itemwise shaper script (has_rclt first) h))
    (common_itemwise direction))
    (user_itemwise features))
    (overrides_itemwise shaper h))

-- ---- substitution by a plan

plain_divisible : (falls : Bool) (stages : List StageMap) → ArePausesDivisible falls (λ n. as_it_is) (λ n. as_it_is) (λ n. as_it_is) stages
plain_divisible falls [] = tt
plain_divisible falls (s ∷ stages) = (by_pause s.pause, plain_divisible falls stages)
  where
    by_pause : (o : Option ℕ) → IsPauseDivisible falls (λ n. as_it_is) (λ n. as_it_is) (λ n. as_it_is) o
    by_pause None = tt
    by_pause (Some n) = nothing_divisible falls

abbrev Substitutes : Bool → hb_ot_any_shaper_t → hb_script_plan_t ⊤ → FaceParts → Tables → Spans → (settings early late : TextSettings) → Type 0
Substitutes falls shaper plan font t spans settings early late =
    IsDivisible falls falls (substitution_stages font plan.map ((rules_of shaper plan).pauses font t spans settings)) (substitution_stages font plan.map ((rules_of shaper plan).pauses font t spans early)) (substitution_stages font plan.map ((rules_of shaper plan).pauses font t spans late))

substitutes : (falls : Bool) (shaper : hb_ot_any_shaper_t) (plan : hb_script_plan_t ⊤) (font : FaceParts) (t : Tables) (spans : Spans) (settings early late : TextSettings) → EndItemwise plan.map.tables.gsub.stages → Substitutes falls shaper plan font t spans settings early late
substitutes falls any.Default plan font t spans settings early late h = substitution_is_divisible falls font plan.map (λ n. as_it_is) (λ n. as_it_is) (λ n. as_it_is) (plain_divisible falls plan.map.tables.gsub.stages)
substitutes falls any.Dumber plan font t spans settings early late h = substitution_is_divisible falls font plan.map (λ n. as_it_is) (λ n. as_it_is) (λ n. as_it_is) (plain_divisible falls plan.map.tables.gsub.stages)
substitutes falls (any.Script shaper) plan font t spans settings early late h = itemwise_substitution_is_divisible falls shaper plan.map plan.script font spans settings early late h

pub planned_substitution_is_divisible : PlannedSubstitutionIsDivisible
planned_substitution_is_divisible falls shaper plan font languages direction script features t spans settings early late h is =
    substitutes falls shaper plan font t spans settings early late (subst (λ (m : OtMapValue). EndItemwise m.tables.gsub.stages) (sym is) (planned_pauses_are_itemwise shaper font languages direction script features h))
