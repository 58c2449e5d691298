-- A font's character map (OpenType, chapter 5, cmap) where a character, or a variation sequence, has another glyph or none.
use Rattle.std.specs.Prelude.{ℕ, ◌≡◌, ◌==◌, ◌&&◌, ◌||◌, if◌then◌else◌, Bool, List, [], ◌∷◌, ◌++◌, filter, nat_lt, Option, Some, None}
use Rattle.layout_face.specs.Glyphs.{nominal_glyph, variation_glyph}
use Rattle.layout_face.specs.declared.parts.CharacterRow.{CharacterRow}
use Rattle.layout_face.specs.declared.parts.FaceParts.{FaceParts}
use Rattle.layout_face.specs.declared.parts.VariationRow.{VariationRow}

-- the row of a character and its glyph, none without a glyph
abbrev pub character_rows : ℕ → Option ℕ → List CharacterRow
character_rows c None = []
character_rows c (Some glyph) = record { character = c; glyph = glyph } ∷ []

-- the rows with a character's glyph: those of lesser characters, its own, and those of greater characters
abbrev pub with_character : ℕ → Option ℕ → List CharacterRow → List CharacterRow
with_character c glyph rows = filter (λ r. nat_lt r.character c) rows ++ character_rows c glyph ++ filter (λ r. nat_lt c r.character) rows

-- a font where a character has a glyph, or none
abbrev pub with_nominal_glyph : ℕ → Option ℕ → FaceParts → FaceParts
with_nominal_glyph c glyph font = record font { cmap = with_character c glyph font.cmap }

-- whether a character with a selector precedes another one with its own
abbrev pub precedes : ℕ → ℕ → ℕ → ℕ → Bool
precedes c selector d other = nat_lt c d || (c == d && nat_lt selector other)

-- the row of a variation sequence, a character and a selector, and of its glyph, none without a glyph
abbrev pub variation_rows : ℕ → ℕ → Option ℕ → List VariationRow
variation_rows c selector None = []
variation_rows c selector (Some glyph) = record { character = c; selector = selector; glyph = glyph } ∷ []

-- the rows with a variation sequence's glyph: those of the sequences that precede it, its own, and those that it precedes
abbrev pub with_variation : ℕ → ℕ → Option ℕ → List VariationRow → List VariationRow
with_variation c selector glyph rows =
    filter (λ r. precedes r.character r.selector c selector) rows
    ++ variation_rows c selector glyph
    ++ filter (λ r. precedes c selector r.character r.selector) rows

-- a font where a variation sequence has a glyph, or none
abbrev pub with_variation_glyph : ℕ → ℕ → Option ℕ → FaceParts → FaceParts
with_variation_glyph c selector glyph font = record font { variants = with_variation c selector glyph font.variants }

-- ---- laws

-- the character has the glyph that is set, and each other one its own
abbrev pub NominalGlyphIsSet : Type 0
NominalGlyphIsSet = (font : FaceParts) (c d : ℕ) (glyph : Option ℕ) → nominal_glyph d (with_nominal_glyph c glyph font) ≡ (if d == c then glyph else nominal_glyph d font)

-- the variation sequence has the glyph that is set, and each other one its own
abbrev pub VariationGlyphIsSet : Type 0
VariationGlyphIsSet = (font : FaceParts) (c selector d other : ℕ) (glyph : Option ℕ)
    → variation_glyph d other (with_variation_glyph c selector glyph font) ≡ (if d == c && other == selector then glyph else variation_glyph d other font)
