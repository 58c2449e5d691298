-- Pauses that change each item by itself are divisible.
use Rattle.std.proofs.Common.{ℕ, ◌≡◌, ◌==◌, ◌+◌, Bool, true, false, if◌then◌else◌, List, [], ◌∷◌, Option, Some, None, length, refl, ap}
use Rattle.std.specs.Prelude.{◌%◌, codes}
use Rattle.buffer_common.specs.declared.script.Script.{Script}
use Rattle.buffer_glyphs.specs.Items.{Item}
use Rattle.buffer_glyphs.specs.LigatureWords.{is_multiplied, lig_comp, lig_id}
use Rattle.buffer_stages.specs.LayoutStages.{item_not_substituted}
use Rattle.buffer_stages.specs.Settings.{TextSettings}
use Rattle.buffer_parts.specs.Breaks.Divisible.{IsDivisible}
use Rattle.buffer_parts.specs.Breaks.Fragments.{with_ligature_renamed}
use Rattle.layout_face.specs.declared.parts.FaceParts.{FaceParts}
use Rattle.layout_map.specs.Compiled.{OtMapValue}
use Rattle.layout_map.specs.Lookups as map_stages
use Rattle.layout_map.specs.Masks.{has_mask}
use Rattle.layout_map.specs.declared.stages.StageMap.{StageMap}
use Rattle.layout_map_features.specs.declared.lookup.lookup_map_t.{lookup_map_t}
use Rattle.layout_laws.specs.Breaks.ItemMaps.{SparesNumbers}
use Rattle.layout_laws.specs.Breaks.Stages.{ArePausesDivisible}
use Rattle.layout_laws.proofs.BreakLemmas.InOrder.{nothing_divisible}
use Rattle.layout_laws.proofs.BreakLemmas.ItemMaps.{item_maps_are_divisible}
use Rattle.layout_laws.proofs.BreakLemmas.Stages.{substitution_is_divisible}
use Rattle.layout_laws.proofs.BreakLemmas.Words.{component_named}
use Rattle.script_categories.specs.declared.arabic_action_t.TheConstants as action
use Rattle.script_categories.specs.declared.pause.hb_script_pause_t.{hb_script_pause_t}
use Rattle.script_categories.specs.declared.pause.hb_script_pause_t.TheVariants.{RecordStch, SetupSyllables, ReorderKhmer, ReorderMyanmar, ClearSyllables, ClearSubstitutionFlags, RecordRphf, RecordPref, ReorderUse, InitialReordering, FinalReordering}
use Rattle.script_categories.specs.declared.shaper.hb_ot_script_shaper_t.{hb_ot_script_shaper_t}
use Rattle.script_categories.specs.Pauses.{pause_of_number}
use Rattle.script_arabic.specs.Tiles.{tile_recorded}
use Rattle.script_syllabic.specs.Syllables.{without_syllable}
use Rattle.script_dispatch.specs.Hooks.{Spans, pause_done, pause_if, pauses_by}
use Rattle.shape_laws.specs.Breaks.Pauses.{IsItemwise, IsItemwiseIfAny, AreItemwise, EndsItemwise, EndItemwise, TileRecordsAreDivisible, ItemwisePausesAreDivisible, CompiledPausesAreItemwise, ItemwiseSubstitutionIsDivisible}

-- ---- changes of an item

-- a tile by the component that it is
abbrev tile_of : ℕ → Item → Item
tile_of component x = record x { auxiliary = if component % 2 == 1 then action.STRETCHING_REPEATING else action.STRETCHING_FIXED }

pub tile_spares : SparesNumbers tile_recorded
tile_spares = record {
  renamed = λ name x. same name x (is_multiplied x);
  kept = λ x. still x (is_multiplied x);
}
  where
    same : (name : ℕ → ℕ) (x : Item) (t : Bool) → (if t then tile_of (lig_comp (with_ligature_renamed name x)) (with_ligature_renamed name x) else with_ligature_renamed name x) ≡ with_ligature_renamed name (if t then tile_of (lig_comp x) x else x)
    same name x true = ap (λ (n : ℕ). tile_of n (with_ligature_renamed name x)) (component_named name x)
    same name x false = refl

    still : (x : Item) (t : Bool) → lig_id (if t then tile_of (lig_comp x) x else x) ≡ lig_id x
    still x true = refl
    still x false = refl

pub syllable_spares : SparesNumbers without_syllable
syllable_spares = record { renamed = λ name x. refl; kept = λ x. refl }

pub flag_spares : SparesNumbers item_not_substituted
flag_spares = record { renamed = λ name x. refl; kept = λ x. refl }

-- ---- pauses

pub tile_records_are_divisible : TileRecordsAreDivisible
tile_records_are_divisible falls true = item_maps_are_divisible falls tile_recorded tile_spares
tile_records_are_divisible falls false = nothing_divisible falls

done_divisible : (falls : Bool) (shaper : hb_ot_script_shaper_t) (m : OtMapValue) (script : Option Script) (font : FaceParts) (spans : Spans) (settings early late : TextSettings) (pause : hb_script_pause_t) → IsItemwise pause
    → IsDivisible falls falls (pause_done shaper m script font spans settings pause) (pause_done shaper m script font spans early pause) (pause_done shaper m script font spans late pause)
done_divisible falls shaper m script font spans settings early late RecordStch h = tile_records_are_divisible falls (has_mask (codes "stch") m)
done_divisible falls shaper m script font spans settings early late ClearSyllables h = item_maps_are_divisible falls without_syllable syllable_spares
done_divisible falls shaper m script font spans settings early late ClearSubstitutionFlags h = item_maps_are_divisible falls item_not_substituted flag_spares
done_divisible falls shaper m script font spans settings early late SetupSyllables h = absurd h
done_divisible falls shaper m script font spans settings early late ReorderKhmer h = absurd h
done_divisible falls shaper m script font spans settings early late ReorderMyanmar h = absurd h
done_divisible falls shaper m script font spans settings early late RecordRphf h = absurd h
done_divisible falls shaper m script font spans settings early late RecordPref h = absurd h
done_divisible falls shaper m script font spans settings early late ReorderUse h = absurd h
done_divisible falls shaper m script font spans settings early late InitialReordering h = absurd h
done_divisible falls shaper m script font spans settings early late FinalReordering h = absurd h

any_divisible : (falls : Bool) (shaper : hb_ot_script_shaper_t) (m : OtMapValue) (script : Option Script) (font : FaceParts) (spans : Spans) (settings early late : TextSettings) (pause : Option hb_script_pause_t) → IsItemwiseIfAny pause
    → IsDivisible falls falls (pause_if shaper m script font spans settings pause) (pause_if shaper m script font spans early pause) (pause_if shaper m script font spans late pause)
any_divisible falls shaper m script font spans settings early late None h = nothing_divisible falls
any_divisible falls shaper m script font spans settings early late (Some pause) h = done_divisible falls shaper m script font spans settings early late pause h

abbrev EndsDivisible : Bool → (shaper : hb_ot_script_shaper_t) (m : OtMapValue) (script : Option Script) (font : FaceParts) (spans : Spans) (settings early late : TextSettings) → List StageMap → Type 0
EndsDivisible falls shaper m script font spans settings early late stages = ArePausesDivisible falls (pauses_by shaper m script font spans settings) (pauses_by shaper m script font spans early) (pauses_by shaper m script font spans late) stages

stage_before : (falls : Bool) (shaper : hb_ot_script_shaper_t) (m : OtMapValue) (script : Option Script) (font : FaceParts) (spans : Spans) (settings early late : TextSettings) (last : ℕ) (o : Option ℕ) (stages : List StageMap) → EndsItemwise o
    → EndsDivisible falls shaper m script font spans settings early late stages → EndsDivisible falls shaper m script font spans settings early late (record { last_lookup = last; pause = o } ∷ stages)
stage_before falls shaper m script font spans settings early late last None stages h k = (tt, k)
stage_before falls shaper m script font spans settings early late last (Some n) stages h k = (any_divisible falls shaper m script font spans settings early late (pause_of_number n) h, k)

pub itemwise_pauses_are_divisible : ItemwisePausesAreDivisible
itemwise_pauses_are_divisible falls shaper m script font spans settings early late [] h = tt
itemwise_pauses_are_divisible falls shaper m script font spans settings early late (s ∷ stages) h =
    stage_before falls shaper m script font spans settings early late s.last_lookup s.pause stages h.0 (itemwise_pauses_are_divisible falls shaper m script font spans settings early late stages h.1)

pub itemwise_substitution_is_divisible : ItemwiseSubstitutionIsDivisible
itemwise_substitution_is_divisible falls shaper m script font spans settings early late h =
    substitution_is_divisible falls font m (pauses_by shaper m script font spans settings) (pauses_by shaper m script font spans early) (pauses_by shaper m script font spans late) (itemwise_pauses_are_divisible falls shaper m script font spans settings early late m.tables.gsub.stages h)

-- ---- the stages of a map

ends_itemwise : (lookups : ℕ → List lookup_map_t) (stage before : ℕ) (pauses : List ℕ) → AreItemwise pauses → EndItemwise (map_stages.stage_ends before (map_stages.stages_from lookups stage pauses))
ends_itemwise lookups stage before [] h = (tt, tt)
ends_itemwise lookups stage before (pause ∷ pauses) h = (h.0, ends_itemwise lookups (stage + 1) (before + length (lookups stage)) pauses h.1)

pub compiled_pauses_are_itemwise : CompiledPausesAreItemwise
compiled_pauses_are_itemwise b h = ends_itemwise _ 0 0 b.pauses.gsub h
