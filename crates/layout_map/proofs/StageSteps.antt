-- Stages one after another.
use Rattle.std.proofs.Common.{ℕ, ◌≡◌, ◌<◌, ◌+◌, List, [], ◌∷◌, ◌++◌, length, drop, get_or, Some, refl, sym, ap, ◌∙◌, add-one, append_assoc}
use Rattle.std.specs.List.{flat_map}
use Rattle.std.proofs.Math.Seq.{drop-cons}
use Rattle.std.proofs.lemmas.List.{length-append}
use Rattle.layout_map_features.specs.declared.per_table.TableIndex.{TableIndex}
use Rattle.layout_map_features.specs.declared.lookup.lookup_map_t.{lookup_map_t}
use Rattle.layout_map.specs.declared.chosen_feature.feature_map_t.{feature_map_t}
use Rattle.layout_map.specs.declared.stages.StageMap.{StageMap}
use Rattle.layout_map.specs.Chosen.{ChosenTable}
use Rattle.layout_map.specs.Lookups.{Stage, feature_lookups, stages_from, stage_ends}

-- the lookups of one feature come first, and then those of the features after it
pub use_step : (table : TableIndex) (t : ChosenTable) (stage : ℕ) (fs : List feature_map_t) (i : ℕ) (f : feature_map_t) (old new whole : List lookup_map_t)
    → i < length fs → get_or fs i f ≡ f
    → old ++ flat_map (feature_lookups table t stage) (drop i fs) ≡ whole
    → new ≡ old ++ feature_lookups table t stage f
    → new ++ flat_map (feature_lookups table t stage) (drop (i + 1) fs) ≡ whole
use_step table t stage fs i f old new whole lt at before is =
    let front : drop i fs ≡ f ∷ drop (i + 1) fs = rw (drop-cons fs i f lt, at, add-one) refl in
    ap (λ us. us ++ flat_map (feature_lookups table t stage) (drop (i + 1) fs)) is
    ∙ append_assoc old (feature_lookups table t stage f) (flat_map (feature_lookups table t stage) (drop (i + 1) fs))
    ∙ ap (λ rest. old ++ flat_map (feature_lookups table t stage) rest) (sym front) ∙ before

-- the stage that a pause ends comes first
pub next_stage : (lookups : ℕ → List lookup_map_t) (pauses : List ℕ) (i pause : ℕ) → i < length pauses → get_or pauses i 0 ≡ pause
    → stages_from lookups i (drop i pauses) ≡ record { lookups = lookups i; pause = Some pause } ∷ stages_from lookups (i + 1) (drop (i + 1) pauses)
next_stage lookups pauses i pause lt at =
    let front : drop i pauses ≡ pause ∷ drop (i + 1) pauses = rw (drop-cons pauses i 0 lt, at, add-one) refl in
    rw front refl

pub lookups_step : (lookups : ℕ → List lookup_map_t) (pauses : List ℕ) (i pause : ℕ) (old new whole : List lookup_map_t) → i < length pauses → get_or pauses i 0 ≡ pause
    → old ++ flat_map (λ (s : Stage). s.lookups) (stages_from lookups i (drop i pauses)) ≡ whole
    → new ≡ old ++ lookups i
    → new ++ flat_map (λ (s : Stage). s.lookups) (stages_from lookups (i + 1) (drop (i + 1) pauses)) ≡ whole
lookups_step lookups pauses i pause old new whole lt at before is =
    let rest = flat_map (λ (s : Stage). s.lookups) (stages_from lookups (i + 1) (drop (i + 1) pauses)) in
    ap (λ ls. ls ++ rest) is ∙ append_assoc old (lookups i) rest
    ∙ ap (λ ss. old ++ flat_map (λ (s : Stage). s.lookups) ss) (sym (next_stage lookups pauses i pause lt at)) ∙ before

pub ends_step : (lookups : ℕ → List lookup_map_t) (pauses : List ℕ) (i pause : ℕ) (old new : List lookup_map_t) (ends more whole : List StageMap) → i < length pauses → get_or pauses i 0 ≡ pause
    → ends ++ stage_ends (length old) (stages_from lookups i (drop i pauses)) ≡ whole
    → new ≡ old ++ lookups i
    → more ≡ ends ++ record { last_lookup = length old + length (lookups i); pause = Some pause } ∷ []
    → more ++ stage_ends (length new) (stages_from lookups (i + 1) (drop (i + 1) pauses)) ≡ whole
ends_step lookups pauses i pause old new ends more whole lt at before is grown =
    let len : length new ≡ length old + length (lookups i) = ap length is ∙ length-append old (lookups i) in
    let rest = stage_ends (length old + length (lookups i)) (stages_from lookups (i + 1) (drop (i + 1) pauses)) in
    let end : List StageMap = record { last_lookup = length old + length (lookups i); pause = Some pause } ∷ [] in
    ap (λ n. more ++ stage_ends n (stages_from lookups (i + 1) (drop (i + 1) pauses))) len
    ∙ ap (λ es. es ++ rest) grown ∙ append_assoc ends end rest
    ∙ ap (λ ss. ends ++ stage_ends (length old) ss) (sym (next_stage lookups pauses i pause lt at)) ∙ before
