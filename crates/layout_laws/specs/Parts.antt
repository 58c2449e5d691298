-- The lookups of a text keep its parts.
use Rattle.std.specs.Prelude.{ℕ}
use Rattle.layout_face.specs.declared.parts.FaceParts.{FaceParts}
use Rattle.layout_map.specs.Compiled.{OtMapValue}
use Rattle.buffer_stages.specs.Pauses.{Pauses}
use Rattle.layout_substitution.specs.Substituting.{substitution_stages}
use Rattle.layout_positioning.specs.Positioning.{positioning_stages}
use Rattle.buffer_parts.specs.Stages.{KeepsParts, StaysUnturned}

-- substitution keeps the parts of a text where each pause does
abbrev pub SubstitutionKeepsParts : Type 0
SubstitutionKeepsParts = (font : FaceParts) (m : OtMapValue) (pauses : Pauses) → ((n : ℕ) → KeepsParts (pauses n)) → KeepsParts (substitution_stages font m pauses)

-- positioning keeps the parts of a text where each pause does
abbrev pub PositioningKeepsParts : Type 0
PositioningKeepsParts = (font : FaceParts) (m : OtMapValue) (pauses : Pauses) → ((n : ℕ) → KeepsParts (pauses n)) → KeepsParts (positioning_stages font m pauses)

-- substitution reverses no list where no pause does
abbrev pub SubstitutionStaysUnturned : Type 0
SubstitutionStaysUnturned = (font : FaceParts) (m : OtMapValue) (pauses : Pauses) → ((n : ℕ) → StaysUnturned (pauses n)) → StaysUnturned (substitution_stages font m pauses)

-- positioning reverses no list where no pause does
abbrev pub PositioningStaysUnturned : Type 0
PositioningStaysUnturned = (font : FaceParts) (m : OtMapValue) (pauses : Pauses) → ((n : ℕ) → StaysUnturned (pauses n)) → StaysUnturned (positioning_stages font m pauses)
