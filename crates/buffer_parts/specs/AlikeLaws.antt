-- What holds of stages that depend on no limit of length.
use Rattle.std.specs.Prelude.{◌≡◌, Bool, List, Ok}
use Rattle.buffer_glyphs.specs.declared.level.BufferClusterLevel.{BufferClusterLevel}
use Rattle.buffer_core.specs.Readings.{View, Read, Stage, and_then}
use Rattle.buffer_parts.specs.Chains.{in_order, only_if}
use Rattle.buffer_parts.specs.Alike.{SeenAlike, DependsOnNoLength, AllDependOnNoLength}

-- from views seen alike such a stage leads to the same items, positions and events, where it refuses neither
abbrev pub AlikeAreRead : Type 0
AlikeAreRead = (stage : Stage) (a b : View) (r s : Read) → DependsOnNoLength stage → SeenAlike a b → stage a ≡ Ok r → stage b ≡ Ok s
    → SeenAlike r.view s.view × (r.view.items ≡ s.view.items) × (r.view.positions ≡ s.view.positions) × ((level : BufferClusterLevel) → r.events level ≡ s.events level)

-- a stage after another depends on no length where both depend on none
abbrev pub TwoDependOnNoLength : Type 0
TwoDependOnNoLength = (s t : Stage) → DependsOnNoLength s → DependsOnNoLength t → DependsOnNoLength (λ v. and_then (s v) t)

-- stages one after another depend on no length where each depends on none
abbrev pub ChainsDependOnNoLength : Type 0
ChainsDependOnNoLength = (stages : List Stage) → AllDependOnNoLength stages → DependsOnNoLength (in_order stages)

-- a stage that depends on no length does so too where it is done only by a condition
abbrev pub WantedDependOnNoLength : Type 0
WantedDependOnNoLength = (wanted : Bool) (stage : Stage) → DependsOnNoLength stage → DependsOnNoLength (only_if wanted stage)
