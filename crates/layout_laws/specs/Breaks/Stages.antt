-- The stages of substitution, with pauses between them.
use Rattle.std.specs.Prelude.{ℕ, Bool, List, [], ◌∷◌, Option, Some, None}
use Rattle.buffer_core.specs.Readings.{Stage}
use Rattle.buffer_stages.specs.Pauses.{Pauses, with_own_random}
use Rattle.buffer_parts.specs.Breaks.Divisible.{IsDivisible}
use Rattle.layout_face.specs.declared.parts.FaceParts.{FaceParts}
use Rattle.layout_face.specs.declared.substitution.SubstLookup.{SubstLookup}
use Rattle.layout_map.specs.declared.stages.StageMap.{StageMap}
use Rattle.layout_map.specs.Compiled.{OtMapValue, TableStages}
use Rattle.layout_substitution.specs.Substituting.{table_stages, substitution_stages}

-- a pause of a text, if there is one, is divisible: it does to the text what the pauses of the same number do to its fragments
abbrev pub IsPauseDivisible : Bool → Pauses → Pauses → Pauses → Option ℕ → Type 0
IsPauseDivisible falls pauses early late None = Unit {0}
IsPauseDivisible falls pauses early late (Some n) = IsDivisible falls falls (pauses n) (early n) (late n)

-- the pauses that end some stages are
abbrev pub ArePausesDivisible : Bool → Pauses → Pauses → Pauses → List StageMap → Type 0
ArePausesDivisible falls pauses early late [] = Unit {0}
ArePausesDivisible falls pauses early late (s ∷ stages) = IsPauseDivisible falls pauses early late s.pause × ArePausesDivisible falls pauses early late stages

-- law: a divisible stage is divisible where it draws from a random state of its own
abbrev pub OwnRandomIsDivisible : Type 0
OwnRandomIsDivisible = (falls turned : Bool) (stage early late : Stage) → IsDivisible falls turned stage early late → IsDivisible falls turned (with_own_random stage) (with_own_random early) (with_own_random late)

-- law: the lookups of GSUB stages, from one stage on, with the pauses between them, are divisible where the pauses are
abbrev pub TableStagesAreDivisible : Type 0
TableStagesAreDivisible = (falls : Bool) (font : FaceParts) (table : List SubstLookup) (t : TableStages) (pauses early late : Pauses) (i : ℕ) (stages : List StageMap) → ArePausesDivisible falls pauses early late stages
    → IsDivisible falls falls (table_stages font table t pauses i stages) (table_stages font table t early i stages) (table_stages font table t late i stages)

-- law: all substitution by a map is divisible where the pauses are: what GSUB does to a text that may be broken at a cluster, it does to the
-- two fragments of the text
abbrev pub SubstitutionIsDivisible : Type 0
SubstitutionIsDivisible = (falls : Bool) (font : FaceParts) (m : OtMapValue) (pauses early late : Pauses) → ArePausesDivisible falls pauses early late m.tables.gsub.stages
    → IsDivisible falls falls (substitution_stages font m pauses) (substitution_stages font m early) (substitution_stages font m late)
