-- How large a face is that was read of a font file.
use Rattle.std.specs.Prelude.{ℕ, ◌+◌, ◌*◌, ◌<◌, ◌≤◌, List, length}
use Rattle.std.specs.List.{All}
use Rattle.layout_face.specs.declared.parts.FaceParts.{FaceParts}
use Rattle.font_file.specs.Rooms.{character_room, layout_room}
use Rattle.font_laws.specs.RowCounts.{optional_row_count}
use Rattle.font_laws.specs.Lists.{definition_row_count}
use Rattle.font_laws.specs.Substitutions.{substitution_row_count}
use Rattle.font_laws.specs.Positions.{positioning_row_count}

-- the bytes of a file
abbrev pub AreBytes : List ℕ → Type 0
AreBytes bytes = All (λ b. b < 256) bytes

-- no list of a face is longer than its limit: characters and variants fit the room of cmap and the 256 codes of an encoding
-- other than Unicode; no list by glyphs has more than there are glyph numbers; GDEF and GSUB fit a room each; GPOS fits one
-- but for the table kern, whose scripts may each be a copy of GPOS's usual script
pub record IsBounded (face : FaceParts) : Type 0 where
  pub characters : length face.cmap + length face.variants ≤ character_room + 256
  pub h : length face.h ≤ 65536
  pub v : length face.v ≤ 65536
  pub origins : length face.origins ≤ 65536
  pub extents : length face.extents ≤ 65536
  pub names : length face.names ≤ 65536
  pub definitions : definition_row_count face.gdef ≤ layout_room
  pub substitutions : optional_row_count substitution_row_count face.gsub ≤ layout_room
  pub positions : optional_row_count positioning_row_count face.gpos ≤ 75 * layout_room
