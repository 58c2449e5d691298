-- The lookups of a text depend on no limit of length, and count the budget of nested lookups.
use Rattle.std.specs.Prelude.{ℕ}
use Rattle.layout_face.specs.declared.parts.FaceParts.{FaceParts}
use Rattle.layout_map.specs.Compiled.{OtMapValue}
use Rattle.buffer_stages.specs.Pauses.{Pauses}
use Rattle.layout_substitution.specs.Substituting.{substitution_stages}
use Rattle.layout_positioning.specs.Positioning.{positioning_stages}
use Rattle.buffer_parts.specs.Alike.{DependsOnNoLength}
use Rattle.buffer_parts.specs.Counting.{CountsBudget}

-- substitution depends on no limit of length where no pause does
abbrev pub SubstitutionDependsOnNoLength : Type 0
SubstitutionDependsOnNoLength = (font : FaceParts) (m : OtMapValue) (pauses : Pauses) → ((n : ℕ) → DependsOnNoLength (pauses n)) → DependsOnNoLength (substitution_stages font m pauses)

-- positioning depends on no limit of length where no pause does
abbrev pub PositioningDependsOnNoLength : Type 0
PositioningDependsOnNoLength = (font : FaceParts) (m : OtMapValue) (pauses : Pauses) → ((n : ℕ) → DependsOnNoLength (pauses n)) → DependsOnNoLength (positioning_stages font m pauses)

-- substitution only counts the budget down where each pause does
abbrev pub SubstitutionCountsBudget : Type 0
SubstitutionCountsBudget = (font : FaceParts) (m : OtMapValue) (pauses : Pauses) → ((n : ℕ) → CountsBudget (pauses n)) → CountsBudget (substitution_stages font m pauses)

-- positioning only counts the budget down where each pause does
abbrev pub PositioningCountsBudget : Type 0
PositioningCountsBudget = (font : FaceParts) (m : OtMapValue) (pauses : Pauses) → ((n : ℕ) → CountsBudget (pauses n)) → CountsBudget (positioning_stages font m pauses)
