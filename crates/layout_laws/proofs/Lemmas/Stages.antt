-- What holds of all stages of lookups, by what holds of their rules.
use Rattle.std.proofs.Common.{ℕ, ◌+◌, Bool, true, false, if◌then◌else◌, List, [], ◌∷◌, Option, Some, None}
use Rattle.std.specs.Prelude.{slice_get}
use Rattle.buffer_common.specs.declared.direction.Direction.{Direction}
use Rattle.buffer_core.specs.Readings.{Stage, and_then, as_it_is}
use Rattle.layout_face.specs.Lookups.{is_reverse}
use Rattle.layout_face.specs.declared.parts.FaceParts.{FaceParts}
use Rattle.layout_face.specs.declared.positioning.PositioningLookup.{PositioningLookup}
use Rattle.layout_face.specs.declared.substitution.SubstLookup.{SubstLookup}
use Rattle.layout_map.specs.Compiled.{OtMapValue, TableStages, lookups_of_stage}
use Rattle.layout_map.specs.declared.stages.StageMap.{StageMap}
use Rattle.layout_map_features.specs.declared.lookup.lookup_map_t.{lookup_map_t}
use Rattle.buffer_stages.specs.Actions.{Action}
use Rattle.buffer_stages.specs.Pauses.{Pauses, pause_stage, with_own_random}
use Rattle.layout_match.specs.Applied.{ApplyContext}
use Rattle.layout_match.specs.Trying.{forward_pass}
use Rattle.layout_substitution.specs.Lookups as lookups
use Rattle.layout_substitution.specs.Substituting as substituting
use Rattle.layout_positioning.specs.Lookups as places
use Rattle.layout_positioning.specs.Positioning as positioning

-- a property of stages is kept by all ways in which stages of lookups are put together, of rules with a property
pub record IsOfStages (S : Stage → Type 0) (R : Action → Type 0) : Type 0 where
  pub same : S as_it_is
  pub both : (s t : Stage) → S s → S t → S (λ v. and_then (s v) t)
  pub up : (act : Action) → R act → S (forward_pass act)
  pub back : (act : Action) → R act → S (lookups.backward_pass act)
  -- a rule of positioning reads the direction of the text
  pub over : (act : Direction → Action) → ((d : Direction) → R (act d)) → S (λ v. places.positioning_pass (act v.direction) v)
  pub own : (s : Stage) → S s → S (with_own_random s)

pause_has : (S : Stage → Type 0) (R : Action → Type 0) → IsOfStages S R → (pauses : Pauses) → ((n : ℕ) → S (pauses n)) → (o : Option ℕ) → S (pause_stage pauses o)
pause_has S R ways pauses k None = ways.same
pause_has S R ways pauses k (Some n) = ways.own (pauses n) (k n)

-- ---- substitution

-- rules of lookups of substitution have a property
pub record AreSubstituting (R : Action → Type 0) : Type 0 where
  pub up : (table : List SubstLookup) (a : ApplyContext) (lookup : SubstLookup) → R (lookups.lookup_action table a lookup)
  pub back : (a : ApplyContext) (lookup : SubstLookup) → R (lookups.reverse_action a lookup)

applied_has : (S : Stage → Type 0) (R : Action → Type 0) → IsOfStages S R → AreSubstituting R → (table : List SubstLookup) (a : ApplyContext) (lookup : SubstLookup) → S (lookups.lookup_applied table a lookup)
applied_has S R ways rules table a lookup = by_test (is_reverse lookup.subtables)
  where
    by_test : (t : Bool) → S (λ v. if t then lookups.backward_pass (lookups.reverse_action a lookup) v else forward_pass (lookups.lookup_action table a lookup) v)
    by_test true = ways.back (lookups.reverse_action a lookup) (rules.back a lookup)
    by_test false = ways.up (lookups.lookup_action table a lookup) (rules.up table a lookup)

substitution_has : (S : Stage → Type 0) (R : Action → Type 0) → IsOfStages S R → AreSubstituting R → (font : FaceParts) (table : List SubstLookup) (o : Option SubstLookup) (m : lookup_map_t) → S (lookups.lookup_stage font table o m)
substitution_has S R ways rules font table None m = ways.same
substitution_has S R ways rules font table (Some lookup) m = applied_has S R ways rules table (lookups.lookup_context font lookup m) lookup

substitutions_have : (S : Stage → Type 0) (R : Action → Type 0) → IsOfStages S R → AreSubstituting R → (font : FaceParts) (table : List SubstLookup) (maps : List lookup_map_t) → S (lookups.lookups_stage font table maps)
substitutions_have S R ways rules font table [] = ways.same
substitutions_have S R ways rules font table (m ∷ maps) =
    ways.both (lookups.lookup_stage font table (slice_get table m.index) m) (lookups.lookups_stage font table maps) (substitution_has S R ways rules font table (slice_get table m.index) m) (substitutions_have S R ways rules font table maps)

substituting_has : (S : Stage → Type 0) (R : Action → Type 0) → IsOfStages S R → AreSubstituting R → (font : FaceParts) (table : List SubstLookup) (t : TableStages) (pauses : Pauses) (i : ℕ) (stages : List StageMap) → ((n : ℕ) → S (pauses n))
    → S (substituting.table_stages font table t pauses i stages)
substituting_has S R ways rules font table t pauses i [] k = ways.same
substituting_has S R ways rules font table t pauses i (s ∷ stages) k =
    ways.both (substituting.table_stage font table t pauses i s.pause) (substituting.table_stages font table t pauses (i + 1) stages)
    (ways.both (lookups.lookups_stage font table (lookups_of_stage t i)) (pause_stage pauses s.pause) (substitutions_have S R ways rules font table (lookups_of_stage t i)) (pause_has S R ways pauses k s.pause))
    (substituting_has S R ways rules font table t pauses (i + 1) stages k)

pub substituted_has : (S : Stage → Type 0) (R : Action → Type 0) → IsOfStages S R → AreSubstituting R → (font : FaceParts) (m : OtMapValue) (pauses : Pauses) → ((n : ℕ) → S (pauses n)) → S (substituting.substitution_stages font m pauses)
substituted_has S R ways rules font m pauses k =
    ways.own (substituting.table_stages font (substituting.substitution_lookups font) m.tables.gsub pauses 0 m.tables.gsub.stages) (substituting_has S R ways rules font (substituting.substitution_lookups font) m.tables.gsub pauses 0 m.tables.gsub.stages k)

-- ---- positioning

-- rules of lookups of positioning have a property
pub record ArePositioning (R : Action → Type 0) : Type 0 where
  pub over : (table : List PositioningLookup) (d : Direction) (a : ApplyContext) (lookup : PositioningLookup) → R (places.lookup_action table d a lookup)

position_has : (S : Stage → Type 0) (R : Action → Type 0) → IsOfStages S R → ArePositioning R → (font : FaceParts) (table : List PositioningLookup) (o : Option PositioningLookup) (m : lookup_map_t) → S (places.lookup_stage font table o m)
position_has S R ways rules font table None m = ways.same
position_has S R ways rules font table (Some lookup) m =
    ways.over (λ d. places.lookup_action table d (places.lookup_context font lookup m) lookup) (λ d. rules.over table d (places.lookup_context font lookup m) lookup)

positions_have : (S : Stage → Type 0) (R : Action → Type 0) → IsOfStages S R → ArePositioning R → (font : FaceParts) (table : List PositioningLookup) (maps : List lookup_map_t) → S (positioning.lookups_stage font table maps)
positions_have S R ways rules font table [] = ways.same
positions_have S R ways rules font table (m ∷ maps) =
    ways.both (places.lookup_stage font table (slice_get table m.index) m) (positioning.lookups_stage font table maps) (position_has S R ways rules font table (slice_get table m.index) m) (positions_have S R ways rules font table maps)

positioning_has : (S : Stage → Type 0) (R : Action → Type 0) → IsOfStages S R → ArePositioning R → (font : FaceParts) (table : List PositioningLookup) (t : TableStages) (pauses : Pauses) (i : ℕ) (stages : List StageMap) → ((n : ℕ) → S (pauses n))
    → S (positioning.table_stages font table t pauses i stages)
positioning_has S R ways rules font table t pauses i [] k = ways.same
positioning_has S R ways rules font table t pauses i (s ∷ stages) k =
    ways.both (positioning.table_stage font table t pauses i s.pause) (positioning.table_stages font table t pauses (i + 1) stages)
    (ways.both (positioning.lookups_stage font table (lookups_of_stage t i)) (pause_stage pauses s.pause) (positions_have S R ways rules font table (lookups_of_stage t i)) (pause_has S R ways pauses k s.pause))
    (positioning_has S R ways rules font table t pauses (i + 1) stages k)

pub positioned_has : (S : Stage → Type 0) (R : Action → Type 0) → IsOfStages S R → ArePositioning R → (font : FaceParts) (m : OtMapValue) (pauses : Pauses) → ((n : ℕ) → S (pauses n)) → S (positioning.positioning_stages font m pauses)
positioned_has S R ways rules font m pauses k = positioning_has S R ways rules font (positioning.positioning_lookups font) m.tables.gpos pauses 0 m.tables.gpos.stages k
