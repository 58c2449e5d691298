-- Fonts as C keeps them, and what a call gives.
use Rattle.std.specs.Prelude.{ℕ, ◌≡◌, ◌⊎◌, if◌then◌else◌, List, [], map, Option, Some, None, Ok, Err}
use Rattle.std.specs.Option.{option_map, option_map_or}
use Rattle.buffer_core.specs.Segment.{after_guess_segment_properties}
use Rattle.buffer_core.specs.Sides.{Sides, all_glyphs, empty_buffer}
use Rattle.buffer_glyphs.specs.declared.cause.ShapeCause.{ShapeCause}
use Rattle.buffer_tags.specs.declared.feature.Feature.{Feature}
use Rattle.buffer_tags.specs.LanguageTable.{tags_of_table}
use Rattle.script_categories.specs.LongestMatch.{syllable_at}
use Rattle.shape_pipeline.specs.Results.{IsRefusedBy, IsShapedBy}
use Rattle.shape_pipeline.specs.Shaped.{by_text}
use Rattle.shape_pipeline.specs.Shaping.{Shaping}
use Rattle.font_carets.specs.File.{ligature_carets}
use Rattle.font_carets.specs.declared.rows.LigatureCarets.{LigatureCarets}
use Rattle.font_file.specs.declared.parts.FontParts.{FontParts}
use Rattle.layout_face.specs.declared.parts.FaceParts.{FaceParts}
use Rattle.shell_fonts.specs.Fonts.{AreLibraryTables, font_of}
use Rattle.shell_readers.specs.declared.fault.RunFault.{RunFault}
use Rattle.shell_readers.specs.declared.input.RunInput.{RunInput}
use Rattle.shell_readers.specs.Fault.{fault_of_cause}
use Rattle.shell_readers.specs.Input.{IsInput, font_in, input_value}
use Rattle.shell_readers.specs.declared.tables.TextTables.{TextTables}
use Rattle.shell_readers.specs.Tables.{AreLawfulTables, tables_value}
use Rattle.c_text.specs.declared.line_spacing.LineSpacing.{LineSpacing}
use Rattle.c_text.specs.declared.replacements.ReplacementGlyphs.{ReplacementGlyphs}
use Rattle.c_text.specs.declared.replacements.TheConstants.{NO_REPLACEMENTS}
use Rattle.c_text.specs.declared.scale.Scale.{Scale}
use Rattle.c_text.specs.declared.scale.TheConstants.{NO_SCALE}
use Rattle.c_text.specs.declared.segment.Segment.{Segment}
use Rattle.c_text.specs.declared.segment.TheConstants.{NO_SEGMENT}
use Rattle.c_text.specs.declared.types.kus_character_glyph_t.{kus_character_glyph_t}
use Rattle.c_text.specs.declared.types.kus_glyph_advance_t.{kus_glyph_advance_t}
use Rattle.c_text.specs.declared.types.kus_glyph_position_t.{kus_glyph_position_t}
use Rattle.c_text.specs.declared.types.kus_text_t.{kus_text_t}
use Rattle.c_text.specs.Advances.{advances_refusal, with_advances}
use Rattle.c_text.specs.CharacterGlyphs.{AreSetAtFront, glyphs_refusal, with_glyphs}
use Rattle.c_text.specs.LineSpacing.{spacing_in}
use Rattle.c_text.specs.Numbers.{fault_number}
use Rattle.c_text.specs.Replacements.{with_replacements}
use Rattle.c_text.specs.Scale.{is_set, multipliers, scaled_positions}
use Rattle.c_text.specs.Texts.{IsTextOf, features_of, text_fault}
use Rattle.c_text.specs.Written.{position_of}

-- a font with its tables, the metrics of its lines, the ligatures for which its file gives carets, the scale of its positions and
-- the glyphs for default ignorables and characters that it lacks, and of the last text that was shaped in it the glyphs, the
-- direction and the script
pub record KeptFont : Type 0 where
  pub input : RunInput
  pub line : Option LineSpacing
  pub ligatures : List LigatureCarets
  pub scale : Scale
  pub replacements : ReplacementGlyphs
  pub glyphs : Sides
  pub segment : Segment

-- a font in font units in which no text was shaped, without what a font file alone gives
abbrev pub new_font : RunInput → KeptFont
new_font input = record { input = input; line = None; ligatures = []; scale = NO_SCALE; replacements = NO_REPLACEMENTS; glyphs = empty_buffer; segment = NO_SEGMENT }

-- a font of a font file in which no text was shaped
abbrev pub file_font : List ℕ → ℕ → RunInput → KeptFont
file_font bytes index input = record (new_font input) { line = spacing_in bytes index; ligatures = ligature_carets bytes index }

-- a font without the last text
abbrev pub without_text : KeptFont → KeptFont
without_text f = record f { glyphs = empty_buffer; segment = NO_SEGMENT }

-- a font with a client's advances of glyphs; the glyphs of the last text stay as they are
abbrev pub font_with_advances : List kus_glyph_advance_t → KeptFont → KeptFont
font_with_advances given f = record f { input = record f.input { face = with_advances given f.input.face } }

-- a font with a client's glyphs of characters and variation sequences; the glyphs of the last text stay as they are
abbrev pub font_with_glyphs : List kus_character_glyph_t → KeptFont → KeptFont
font_with_glyphs given f = record f { input = record f.input { face = with_glyphs given f.input.face } }

-- a font with another glyph for default ignorables, 0 for the space, in the texts that are shaped from then on
abbrev pub font_with_invisible : ℕ → KeptFont → KeptFont
font_with_invisible glyph f = record f { replacements = record f.replacements { invisible = glyph } }

-- a font with another glyph for characters that it lacks in the texts that are shaped from then on
abbrev pub font_with_not_found : ℕ → KeptFont → KeptFont
font_with_not_found glyph f = record f { replacements = record f.replacements { not_found = glyph } }

-- the positions of the glyphs of a font's last text: in the scale that is set, else in font units
abbrev pub positions_in : KeptFont → List kus_glyph_position_t
positions_in f =
    if is_set f.scale then scaled_positions (multipliers f.input.face.upem f.scale) (all_glyphs f.glyphs) f.glyphs.positions
    else map position_of f.glyphs.positions

-- the glyphs of a font's last text; none where there is no font
abbrev pub glyphs_of : Option KeptFont → Sides
glyphs_of None = empty_buffer
glyphs_of (Some f) = f.glyphs

-- the positions of the glyphs of a font's last text; none where there is no font
abbrev pub positions_of : Option KeptFont → List kus_glyph_position_t
positions_of None = []
positions_of (Some f) = positions_in f

-- the ligatures for which a font's file gives carets; none where there is no font
abbrev pub ligatures_of : Option KeptFont → List LigatureCarets
ligatures_of None = []
ligatures_of (Some f) = f.ligatures

-- what was read of the font, if there is one
abbrev pub input_of : Option KeptFont → Option RunInput
input_of font = option_map (λ (f : KeptFont). f.input) font

-- a font without the last text, if there is one: what no text changes
abbrev pub textless : Option KeptFont → Option KeptFont
textless font = option_map without_text font

-- the direction and the script by which a font's last text was shaped; none where there is no font or no text
abbrev pub segment_in : Option KeptFont → Segment
segment_in font = option_map_or (λ (f : KeptFont). f.segment) font NO_SEGMENT

-- a font is what the reader answers to the bytes of tables and of a font
pub record HasRead (tables font : List ℕ) (kept : Option KeptFont) : Type 0 where
  pub input : RunInput
  pub read : IsInput tables font (Ok (input_value input))
  pub new : kept ≡ Some (new_font input)

-- a font is what the reader answers to its bytes, over tables that are there
pub record HasReadOver (shared : Option TextTables) (font : List ℕ) (kept : Option KeptFont) : Type 0 where
  pub input : RunInput
  pub tables : shared ≡ Some input.tables
  pub read : font_in font ≡ Ok input.face
  pub new : kept ≡ Some (new_font input)

-- tables are lawful, and what the reader answers to bytes
pub record HasReadTables (bytes : List ℕ) (kept : Option TextTables) : Type 0 where
  pub tables : TextTables
  pub read : AreLawfulTables bytes (Ok (tables_value tables))
  pub same : kept ≡ Some tables

-- tables are those that the library has
pub record HasLibraryTables (kept : Option TextTables) : Type 0 where
  pub tables : TextTables
  pub read : AreLibraryTables (Ok (tables_value tables))
  pub same : kept ≡ Some tables

-- a font is what the reader answers to parts of a font of a font file, over tables that are there
pub record HasReadFileOver (shared : Option TextTables) (parts : FontParts) (bytes : List ℕ) (index : ℕ) (kept : Option KeptFont) : Type 0 where
  pub input : RunInput
  pub tables : shared ≡ Some input.tables
  pub read : font_of parts bytes index ≡ Ok input.face
  pub new : kept ≡ Some (file_font bytes index input)

-- a font is what the reader answers to parts of a font of a font file, over the tables that the library has
pub record HasReadFile (parts : FontParts) (bytes : List ℕ) (index : ℕ) (kept : Option KeptFont) : Type 0 where
  pub input : RunInput
  pub tables : AreLibraryTables (Ok (tables_value input.tables))
  pub read : font_of parts bytes index ≡ Ok input.face
  pub new : kept ≡ Some (file_font bytes index input)

-- the fault of a font file that is read over the tables that the library has: that of these, else the font's
abbrev pub IsFaultOfFile : FontParts → List ℕ → ℕ → RunFault → Type 0
IsFaultOfFile parts bytes index e = AreLibraryTables (Err e) ⊎ (font_of parts bytes index ≡ Err e)

-- ---- texts

-- the `Shaping` of a text with features, by what was read
abbrev pub shaping : RunInput → List Feature → Sides → Shaping
shaping input features text =
    by_text input.face input.tables.characters (tags_of_table input.tables.languages) (syllable_at input.tables.syllables) features text

-- glyphs, their positions, clusters and flags are those of a buffer's reading, with its script and direction guessed where
-- they are not set
abbrev pub AreShaped : RunInput → List Feature → Sides → Sides → Type 0
AreShaped input features text glyphs =
    IsShapedBy (shaping input features (after_guess_segment_properties text)) (after_guess_segment_properties text) glyphs

-- a fault names the cause for which a buffer's reading is refused
pub record IsUnshaped (input : RunInput) (features : List Feature) (text : Sides) (e : RunFault) : Type 0 where
  pub cause : ShapeCause
  pub refused : IsRefusedBy (shaping input features (after_guess_segment_properties text)) (after_guess_segment_properties text) cause
  pub named : e ≡ fault_of_cause cause

-- glyphs are those of a text of C, with the features that it requests, where replacements are set
pub record AreGlyphsOf (input : RunInput) (r : ReplacementGlyphs) (t : kus_text_t) (glyphs : Sides) : Type 0 where
  pub buffer : Sides
  pub of_text : IsTextOf t buffer
  pub shaped : AreShaped input (features_of t) (with_replacements r buffer) glyphs

-- a text of C has a direction and a script: those that it sets, else those that its characters have
pub record HasSegmentOf (t : kus_text_t) (segment : Segment) : Type 0 where
  pub buffer : Sides
  pub of_text : IsTextOf t buffer
  pub direction : segment.direction ≡ (after_guess_segment_properties buffer).direction
  pub script : segment.script ≡ (after_guess_segment_properties buffer).script

-- a text of C has a buffer, whose reading is refused with a fault where replacements are set
pub record IsUnshapedText (input : RunInput) (r : ReplacementGlyphs) (t : kus_text_t) (e : RunFault) : Type 0 where
  pub buffer : Sides
  pub of_text : IsTextOf t buffer
  pub unshaped : IsUnshaped input (features_of t) (with_replacements r buffer) e

-- the fault of a text of C: that of its bytes, or the one with which its reading is refused
abbrev pub IsFaultOf : RunInput → ReplacementGlyphs → kus_text_t → RunFault → Type 0
IsFaultOf input r t e = (text_fault t ≡ Some e) ⊎ IsUnshapedText input r t e

-- a number is that of a fault for which something holds
pub record IsNumberOf (Holds : RunFault → Type 0) (number : ℕ) : Type 0 where
  pub fault : RunFault
  pub same : number ≡ fault_number fault
  pub holds : Holds fault

-- ---- settings

-- the number of why a font doesn't take a list of advances, beside that other handles share it: that of the first advance that it doesn't take; 16 where there is no font
abbrev pub advances_refusal_in : Option KeptFont → List kus_glyph_advance_t → ℕ
advances_refusal_in None given = 16
advances_refusal_in (Some f) given = advances_refusal f.input.face given

-- the number of why a font doesn't take a list of characters' glyphs, beside that other handles share it and that memory is short: that of the first that it doesn't take; 16 where there is no font
abbrev pub glyphs_refusal_in : Option KeptFont → List kus_character_glyph_t → ℕ
glyphs_refusal_in None given = 16
glyphs_refusal_in (Some f) given = glyphs_refusal given

-- of a list of characters' glyphs those at the front are set in a font
pub record AreSetAtFrontIn (given : List kus_character_glyph_t) (f : KeptFont) (new : Option KeptFont) : Type 0 where
  pub face : FaceParts
  pub front : AreSetAtFront given f.input.face face
  pub same : new ≡ Some (record f { input = record f.input { face = face } })
