-- What holds of carets, slices and selections.
use Rattle.std.specs.Prelude.{ℕ, ◌≡◌, ◌≢◌, ◌<◌, not, IsTrue, List, [], Some, slice_get, Contains}
use Rattle.std.specs.Str.{IsUtf8}
use Rattle.kuspveli.specs.buffer_common.declared.direction.Direction.{Direction}
use Rattle.kuspveli.specs.buffer_common.declared.tag.Tag.{Tag}
use Rattle.kuspveli.specs.buffer_glyphs.Order.{has_number}
use Rattle.kuspveli.specs.buffer_parts.Slices.{IsIn}
use Rattle.kuspveli.specs.buffer_tags.declared.feature.Feature.{Feature}
use Rattle.kuspveli.specs.buffer_unicode_tables.Tables.{Tables}
use Rattle.kuspveli.specs.layout_face.declared.parts.FaceParts.{FaceParts}
use Rattle.kuspveli.specs.script_shapers.script_plan.Rules.{Spans}
use Rattle.kuspveli.specs.shape_parts.SourceTexts.{IsSourceText}
use Rattle.kuspveli.specs.shape_pipeline.Results.{IsShapedBy}
use Rattle.kuspveli.specs.shape_pipeline.Shaped.{by_text}
use Rattle.kuspveli.specs.shape_slices.declared.slices.SourceSlice.{SourceSlice}
use Rattle.kuspveli.specs.shape_slices.Fitting.{character_starts}
use Rattle.kuspveli.specs.shape_slices.Runs.{byte_range}
use Rattle.kuspveli.specs.shaping_buffer.buffer_core.Segment.{after_guess_segment_properties}
use Rattle.kuspveli.specs.shaping_buffer.buffer_core.Sides.{Sides, all_glyphs}
use Rattle.caret_model.specs.declared.carets.Caret.{Caret}
use Rattle.caret_model.specs.declared.carets.Selection.{Selection}
use Rattle.caret_model.specs.Lines.{HasLine, IsLine, IsLineOf, Line}
use Rattle.caret_model.specs.Moves.{IsClosest, IsNearest, caret_at, index_at, next_visual, previous_visual}
use Rattle.caret_model.specs.Selections.{AreSideBySide, selection_of, selections_joined}

-- exactly one slice has a byte
pub record IsInOneSlice (ss : List SourceSlice) (byte : ℕ) : Type 0 where
  pub index : ℕ
  pub slice : SourceSlice
  pub is : slice_get ss index ≡ Some slice
  pub has : IsIn (byte_range slice) byte
  pub alone : (k : ℕ) (s : SourceSlice) → slice_get ss k ≡ Some s → IsIn (byte_range s) byte → k ≡ index

-- law: each byte of a text is in exactly one slice of its line
abbrev pub BytesAreInOneSlice : Type 0
BytesAreInOneSlice = (l : Line) (byte : ℕ) → IsLine l → byte < l.end → IsInOneSlice l.slices byte

-- law: the byte at which a character of a text begins is in exactly one slice of the text's line
abbrev pub StartsAreInOneSlice : Type 0
StartsAreInOneSlice = (d : Direction) (result : Sides) (text : List ℕ) (l : Line) (start : ℕ) → IsUtf8 text → IsLineOf d result text l → IsTrue (has_number (character_starts text) start) → IsInOneSlice l.slices start

-- the byte of a caret leads back to its index and to itself; its position leads to a caret at that position, and to itself where no other caret is at that position
pub record LeadsBack (l : Line) (i : ℕ) (c : Caret) : Type 0 where
  pub index : index_at l.carets c.byte ≡ Some i
  pub caret : caret_at l.carets c.byte ≡ Some c
  pub position : (near : Caret) → IsNearest c.position l.carets near → near.position ≡ c.position
  pub only : (near : Caret) → IsNearest c.position l.carets near → ((d : Caret) → Contains l.carets d → d.position ≡ c.position → d ≡ c) → near ≡ c

-- law: carets lead back to themselves by their bytes and by their positions
abbrev pub CaretsLeadBack : Type 0
CaretsLeadBack = (l : Line) (i : ℕ) (c : Caret) → IsLine l → slice_get l.carets i ≡ Some c → LeadsBack l i c

-- the carets beside one are its neighbours in the order of the text too: on a forward line the one to the right is the next one, on a backward line the previous one
pub record HasNeighbours (l : Line) (c : Caret) : Type 0 where
  pub right : IsClosest l.backward c.byte l.carets (next_visual l.carets c.byte)
  pub left : IsClosest (not l.backward) c.byte l.carets (previous_visual l.carets c.byte)

-- law: the carets beside each caret are its neighbours in the order of the text
abbrev pub CaretsHaveNeighbours : Type 0
CaretsHaveNeighbours = (l : Line) (c : Caret) → IsLine l → Contains l.carets c → HasNeighbours l c

-- law: the selections of two ranges of bytes that join are side by side, and together they are the selection of the whole
abbrev pub SelectionsJoin : Type 0
SelectionsJoin = (l : Line) (from mid to : ℕ) (s t : Selection) → selection_of l from mid ≡ Some s → selection_of l mid to ≡ Some t
    → AreSideBySide l.backward s t × (selection_of l from to ≡ Some (selections_joined l.backward s t))

-- law: while a glyph is left, the result of a text has a line along its direction
abbrev pub ResultsHaveLines : Spans → Type 0
ResultsHaveLines spans = (font : FaceParts) (tables : Tables) (tags : List ℕ → List Tag) (features : List Feature) (bytes : List ℕ) (text result : Sides)
    → IsSourceText font tables tags bytes (after_guess_segment_properties text)
    → IsShapedBy (by_text font tables tags spans features (after_guess_segment_properties text)) (after_guess_segment_properties text) result
    → all_glyphs result ≢ []
    → HasLine (by_text font tables tags spans features (after_guess_segment_properties text)).direction result bytes
