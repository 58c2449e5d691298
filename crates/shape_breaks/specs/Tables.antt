-- What stands for a character in tables and font, as the law of safe breaks asks it: each test is of all characters.
use Rattle.std.specs.Prelude.{ℕ, ◌≡◌, ◌<◌, ◌==◌, ◌||◌, Bool, true, None, not}
use Rattle.std.specs.List.{list_all}
use lib.Utf8.{scalar}
use Rattle.buffer_unicode.specs.Character.{is_variation_selector_character}
use Rattle.buffer_unicode_tables.specs.Tables.{Tables, class_of, counterpart_in, first_row_fault, split_of, thai_of}
use Rattle.buffer_properties.specs.Properties.{is_mark_character}
use Rattle.layout_face.specs.declared.parts.FaceParts.{FaceParts}
use Rattle.layout_face.specs.declared.parts.VariationRow.{VariationRow}
use Rattle.script_categories.specs.declared.joining_types.hb_arabic_joining_type_t.TheVariants.{T}
use Rattle.script_joining.specs.Types.{type_of_character}
use Rattle.shape_laws.specs.Breaks.Characters.{CounterpartKeepsMarks, HalvesKeepMarks}
use Rattle.shape_laws.specs.Breaks.ThaiCharacters.{PrivateKeepsMarks}
use Rattle.shape_laws.specs.Breaks.Types.{CounterpartKeepsType, HalvesKeepType, joins_nothing}

-- each character passes
abbrev pub EachCharacter : (ℕ → Type 0) → Type 0
EachCharacter P = (u : ℕ) → scalar u ≡ true → P u

-- the rows of tables have no fault: each is of characters, and none names a number out of its range
abbrev pub HaveNoFault : Tables → Type 0
HaveNoFault t = first_row_fault t ≡ None

-- ---- marks

-- what may stand for a character begins with a mark only where the character is one, and is U+034F only where it is that:
-- its canonical decomposition (UAX 15, D68), its mirror image (UAX 9) and its vertical form
pub record KeepsMarksAt (t : Tables) (u : ℕ) : Type 0 where
  pub halves : HalvesKeepMarks u (split_of t u)
  pub mirrored : CounterpartKeepsMarks u (counterpart_in t.mirrored u)
  pub vertical : CounterpartKeepsMarks u (counterpart_in t.vertical u)

-- whether a row is of another character than U+034F
abbrev pub is_of_other : VariationRow → Bool
is_of_other r = not (r.character == 0x34F)

-- U+034F COMBINING GRAPHEME JOINER is a mark of class 0, and the font lists no variant of it (OpenType, cmap format 14)
pub record KeepsJoiner (t : Tables) (font : FaceParts) : Type 0 where
  pub mark : is_mark_character 0x34F ≡ true
  pub class : class_of t 0x34F ≡ 0
  pub stays : list_all is_of_other font.variants ≡ true

-- tables and a font keep marks: what may stand for a character, and U+034F
pub record KeepMarks (t : Tables) (font : FaceParts) : Type 0 where
  pub each : EachCharacter (KeepsMarksAt t)
  pub joiner : KeepsJoiner t font

-- ---- joining types

-- what may stand for a character is to the letters beside it as the character is (Unicode core specification, 'Arabic',
-- cursive joining): its decomposition, its mirror image, its vertical form. A variation selector is transparent, and a
-- character that canonical ordering may move (UAX 15, D109) is transparent or non-joining
pub record KeepsTypeAt (t : Tables) (u : ℕ) : Type 0 where
  pub halves : HalvesKeepType t (type_of_character t u) (split_of t u)
  pub mirrored : CounterpartKeepsType t u (counterpart_in t.mirrored u)
  pub vertical : CounterpartKeepsType t u (counterpart_in t.vertical u)
  pub selectors : is_variation_selector_character u ≡ true → type_of_character t u ≡ T
  pub ordered : (class_of t u == 0 || joins_nothing (type_of_character t u)) ≡ true

-- tables keep joining types, and U+25CC DOTTED CIRCLE joins nothing
pub record KeepTypes (t : Tables) : Type 0 where
  pub each : EachCharacter (KeepsTypeAt t)
  pub circle : joins_nothing (type_of_character t 0x25CC) ≡ true

-- ---- private forms of Thai

-- the private forms of a character by each of the four actions, where it has some, are marks only where the character is
-- one, and no U+034F
abbrev pub KeepsPrivateMarksAt : Tables → ℕ → Type 0
KeepsPrivateMarksAt t u = (action : ℕ) → action < 4 → PrivateKeepsMarks u (thai_of t u action)

-- tables keep marks in the private forms of Thai
abbrev pub KeepPrivateMarks : Tables → Type 0
KeepPrivateMarks t = EachCharacter (KeepsPrivateMarksAt t)
