-- Where two texts, one after the other, are positioned each by itself.
use Rattle.std.specs.Prelude.{◌≡◌, Bool, true, false, not, List, [], ◌∷◌, reverse, Option, None, Some}
use Rattle.buffer_glyphs.specs.Items.{Item}
use Rattle.buffer_glyphs.specs.Parts.{first_of}
use Rattle.layout_laws.specs.Breaks.Positioned.{continues}
use Rattle.layout_laws.specs.Breaks.Seams.{IsDivisibleAtSeam}
use Rattle.layout_map.specs.declared.stages.StageMap.{StageMap}
use Rattle.layout_substitution.specs.Substituting.{substitution_stages}
use Rattle.shape_pipeline.specs.Shaping.{Shaping, pauses_of}
use Rattle.shape_laws.specs.Breaks.Apart.{PositionsApart, Seam, SubstitutesApart}
use Rattle.shape_laws.specs.Breaks.Texts.{AreBrokenShapings}

-- whether the second of two items is no later component of what the first one belongs to, if there are both
abbrev pub begins_apart : Option Item → Option Item → Bool
begins_apart None x = true
begins_apart (Some y) None = true
begins_apart (Some y) (Some x) = not (continues y x)

-- whether the first item of the later text is no later component of what the last one of the earlier text belongs to
abbrev pub are_apart : Seam
are_apart earlier later = begins_apart (first_of (reverse earlier)) (first_of later)

-- stages of lookups end without pauses
abbrev pub EndPlainly : List StageMap → Type 0
EndPlainly [] = Unit {0}
EndPlainly (s ∷ stages) = (s.pause ≡ None) × EndPlainly stages

-- law: the glyphs of two texts are positioned apart, where GPOS has no pauses
abbrev pub GlyphsArePositionedApart : Type 0
GlyphsArePositionedApart = (p p1 p2 : Shaping) → AreBrokenShapings p p1 p2 → EndPlainly p.map.tables.gpos.stages → PositionsApart are_apart p p1 p2

-- law: the glyphs of two texts are substituted apart, where GSUB is divisible at the seam: the first item of the later text
-- stays its own
abbrev pub GlyphsAreSubstitutedApart : Type 0
GlyphsAreSubstitutedApart = (p p1 p2 : Shaping) → AreBrokenShapings p p1 p2
    → IsDivisibleAtSeam false (substitution_stages p.font p.map (pauses_of p)) (substitution_stages p1.font p1.map (pauses_of p1)) (substitution_stages p2.font p2.map (pauses_of p2)) → SubstitutesApart are_apart p p1 p2
