-- Laws of how many rows are read of a font file.
use Rattle.std.specs.Prelude.{◌≡◌, ℕ, ◌+◌, ◌*◌, ◌≤◌, List, length, Option, Ok}
use Rattle.layout_face.specs.declared.parts.CharacterRow.{CharacterRow}
use Rattle.layout_face.specs.declared.parts.FaceParts.{FaceParts}
use Rattle.layout_face.specs.declared.parts.GlyphDefinition.{GlyphDefinition}
use Rattle.layout_face.specs.declared.positioning.PositioningTable.{PositioningTable}
use Rattle.layout_face.specs.declared.substitution.SubstitutionTable.{SubstitutionTable}
use Rattle.font_kern.specs.Kern.{gpos_with_kern}
use Rattle.font_layout.specs.Layout.{gpos_at, gsub_at}
use Rattle.font_lists.specs.Definition.{definition_at}
use Rattle.font_file.specs.declared.parts.FontParts.{FontParts}
use Rattle.font_file.specs.Characters.{Characters, rows_of_table}
use Rattle.font_file.specs.Face.{face_in}
use Rattle.font_file.specs.Rooms.{character_room}
use Rattle.font_laws.specs.RowCounts.{optional_row_count}
use Rattle.font_laws.specs.Lists.{definition_row_count}
use Rattle.font_laws.specs.Substitutions.{substitution_row_count}
use Rattle.font_laws.specs.Positions.{positioning_row_count}
use Rattle.font_laws.specs.Bounds.{AreBytes, IsBounded}

-- the characters and variants of a table cmap are at most as many as its room, and the 256 codes of an encoding other than
-- Unicode
abbrev pub CharactersAreBounded : Type 0
CharactersAreBounded = (table : List ℕ) (rows : Characters) → rows_of_table table ≡ Ok rows → length rows.0 + length rows.1 ≤ character_room + 256

-- the rows of GDEF, and the room that they leave, fit the room that there was
abbrev pub DefinitionsAreBounded : Type 0
DefinitionsAreBounded = (room : ℕ) (table : List ℕ) (definition : GlyphDefinition) (left : ℕ)
    → definition_at room table ≡ Ok (definition, left) → definition_row_count definition + left ≤ room

-- the rows of GSUB, and the room that they leave, fit the room that there was
abbrev pub SubstitutionsAreBounded : Type 0
SubstitutionsAreBounded = (set_count room : ℕ) (table : List ℕ) (gsub : SubstitutionTable) (left : ℕ)
    → gsub_at set_count room table ≡ Ok (gsub, left) → substitution_row_count gsub + left ≤ room

-- the rows of GPOS, and the room that they leave, fit the room that there was
abbrev pub PositionsAreBounded : Type 0
PositionsAreBounded = (set_count room : ℕ) (table : List ℕ) (gpos : PositioningTable) (left : ℕ)
    → gpos_at set_count room table ≡ Ok (gpos, left) → positioning_row_count gpos + left ≤ room

-- GPOS with the table kern: the rows that it had, its scripts and the copies of one for 35 others with a feature more in each
-- language system, and three rows for each that kern takes of its room
abbrev pub KernIsBounded : Type 0
KernIsBounded = (room : ℕ) (table : List ℕ) (characters : List CharacterRow) (gpos with_kern : Option PositioningTable) (left : ℕ)
    → gpos_with_kern room table characters gpos ≡ Ok (with_kern, left)
    → optional_row_count positioning_row_count with_kern + 3 * left ≤ 72 * optional_row_count positioning_row_count gpos + 3 * room

-- each face that is read of a file's bytes is bounded
abbrev pub FacesAreBounded : Type 0
FacesAreBounded = (parts : FontParts) (bytes : List ℕ) (index : ℕ) (face : FaceParts) → AreBytes bytes → face_in parts bytes index ≡ Ok face → IsBounded face
