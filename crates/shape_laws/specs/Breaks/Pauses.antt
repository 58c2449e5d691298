-- Pauses between GSUB stages that change each item by itself.
use Rattle.std.specs.Prelude.{ℕ, Bool, List, [], ◌∷◌, Option, Some, None}
use Rattle.buffer_common.specs.declared.script.Script.{Script}
use Rattle.buffer_stages.specs.Settings.{TextSettings}
use Rattle.buffer_parts.specs.Breaks.Divisible.{IsDivisible}
use Rattle.layout_face.specs.declared.parts.FaceParts.{FaceParts}
use Rattle.layout_map.specs.Compiled.{MapRequests, OtMapValue, compiled_map}
use Rattle.layout_map.specs.declared.stages.StageMap.{StageMap}
use Rattle.layout_substitution.specs.Substituting.{substitution_stages}
use Rattle.layout_laws.specs.Breaks.Stages.{ArePausesDivisible}
use Rattle.script_categories.specs.declared.pause.hb_script_pause_t.{hb_script_pause_t}
use Rattle.script_categories.specs.declared.pause.hb_script_pause_t.TheVariants.{RecordStch, SetupSyllables, ReorderKhmer, ReorderMyanmar, ClearSyllables, ClearSubstitutionFlags, RecordRphf, RecordPref, ReorderUse, InitialReordering, FinalReordering}
use Rattle.script_categories.specs.declared.shaper.hb_ot_script_shaper_t.{hb_ot_script_shaper_t}
use Rattle.script_categories.specs.Pauses.{pause_of_number}
use Rattle.script_arabic.specs.Tiles.{tiles_recorded}
use Rattle.script_dispatch.specs.Hooks.{Spans, pauses_by}

-- a pause changes each item by itself: it records the tiles of stretched words, or clears syllables or flags; the others find syllables, or
-- change items by their syllable
abbrev pub IsItemwise : hb_script_pause_t → Type 0
IsItemwise RecordStch = Unit {0}
IsItemwise ClearSyllables = Unit {0}
IsItemwise ClearSubstitutionFlags = Unit {0}
IsItemwise SetupSyllables = ⊥
IsItemwise ReorderKhmer = ⊥
IsItemwise ReorderMyanmar = ⊥
IsItemwise RecordRphf = ⊥
IsItemwise RecordPref = ⊥
IsItemwise ReorderUse = ⊥
IsItemwise InitialReordering = ⊥
IsItemwise FinalReordering = ⊥

-- so does the pause of a number, if there is one
abbrev pub IsItemwiseIfAny : Option hb_script_pause_t → Type 0
IsItemwiseIfAny None = Unit {0}
IsItemwiseIfAny (Some pause) = IsItemwise pause

-- the pauses of some numbers do
abbrev pub AreItemwise : List ℕ → Type 0
AreItemwise [] = Unit {0}
AreItemwise (n ∷ numbers) = IsItemwiseIfAny (pause_of_number n) × AreItemwise numbers

-- the pause that ends a stage does, if there is one
abbrev pub EndsItemwise : Option ℕ → Type 0
EndsItemwise None = Unit {0}
EndsItemwise (Some n) = IsItemwiseIfAny (pause_of_number n)

-- the pauses that end some stages do
abbrev pub EndItemwise : List StageMap → Type 0
EndItemwise [] = Unit {0}
EndItemwise (s ∷ stages) = EndsItemwise s.pause × EndItemwise stages

-- law: recording the tiles of stretched words is divisible
abbrev pub TileRecordsAreDivisible : Type 0
TileRecordsAreDivisible = (falls has_stch : Bool) → IsDivisible falls falls (tiles_recorded has_stch) (tiles_recorded has_stch) (tiles_recorded has_stch)

-- law: such pauses are divisible, whatever the settings of the text and of its fragments
abbrev pub ItemwisePausesAreDivisible : Type 0
ItemwisePausesAreDivisible = (falls : Bool) (shaper : hb_ot_script_shaper_t) (m : OtMapValue) (script : Option Script) (font : FaceParts) (spans : Spans) (settings early late : TextSettings) (stages : List StageMap) → EndItemwise stages
    → ArePausesDivisible falls (pauses_by shaper m script font spans settings) (pauses_by shaper m script font spans early) (pauses_by shaper m script font spans late) stages

-- law: the stages of a compiled map end so where each pause that was requested does
abbrev pub CompiledPausesAreItemwise : Type 0
CompiledPausesAreItemwise = (b : MapRequests) → AreItemwise b.pauses.gsub → EndItemwise (compiled_map b).tables.gsub.stages

-- law: all substitution by a map whose stages end so is divisible
abbrev pub ItemwiseSubstitutionIsDivisible : Type 0
ItemwiseSubstitutionIsDivisible = (falls : Bool) (shaper : hb_ot_script_shaper_t) (m : OtMapValue) (script : Option Script) (font : FaceParts) (spans : Spans) (settings early late : TextSettings) → EndItemwise m.tables.gsub.stages
    → IsDivisible falls falls (substitution_stages font m (pauses_by shaper m script font spans settings)) (substitution_stages font m (pauses_by shaper m script font spans early)) (substitution_stages font m (pauses_by shaper m script font spans late))
