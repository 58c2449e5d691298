-- A text whose characters have their properties.
use Rattle.std.specs.Prelude.{ℕ, ◌≡◌, Bool, true, false, if◌then◌else◌, fold, List, [], ◌∷◌, Option, Some, None}
use Rattle.std.specs.Int.RustNames.{bit_or}
use Rattle.std.specs.List.{list_all}
use lib.Utf8.{scalar}
use Rattle.buffer_glyphs.specs.declared.info.hb_glyph_info_t.{hb_glyph_info_t}
use Rattle.buffer_unicode_tables.specs.Tables.{Tables}
use Rattle.buffer_properties.specs.Properties.{CONTINUATION, properties_of, character_class, scratch_flags_of}
use Rattle.buffer_glyphs.specs.Items.{Item}
use Rattle.buffer_core.specs.Readings.{View, Read, with_events}
use Rattle.buffer_core.specs.Sides.{Sides, items_of}
use Rattle.buffer_stages.specs.Ready.{IsReady}
use Rattle.shape_text.specs.declared.graphemes.Before.{Before}
use Rattle.shape_text.specs.Graphemes.{continues}

-- the property word of a character, with the continuation bit
abbrev pub property_word_of : Bool → ℕ → ℕ
property_word_of is_continuation u = if is_continuation then bit_or (properties_of u) CONTINUATION else properties_of u

-- an item with its property word and combining class
abbrev pub prepared_item : Tables → Bool → Item → Item
prepared_item t is_continuation x = record x { unicode_props = property_word_of is_continuation x.number; class = character_class t x.number }

-- an item's number is a Unicode scalar value
abbrev pub is_character : Item → Bool
is_character x = scalar x.number

-- all items are characters
abbrev pub are_characters : List Item → Bool
are_characters xs = list_all is_character xs

-- a ready buffer that holds characters
pub record HoldsCharacters (s : Sides) : Type 0 where
  pub ready : IsReady s
  pub characters : are_characters (items_of s) ≡ true

-- a text before it is shaped: no output is open, no call was refused for length, and there are characters
pub record IsUnshaped (s : Sides) : Type 0 where
  pub closed : s.is_open ≡ false
  pub unrefused : s.has_refused ≡ false
  pub characters : are_characters (items_of s) ≡ true

-- what the next character reads of a character: it, and whether it continues a grapheme
abbrev pub next_before : Tables → Option Before → ℕ → Before
next_before t before u = record { character = u; continues = continues t before u }

-- the items with their properties, by the character before them
abbrev pub items_prepared : Tables → Option Before → List Item → List Item
items_prepared t before [] = []
items_prepared t before (x ∷ xs) = prepared_item t (continues t before x.number) x ∷ items_prepared t (Some (next_before t before x.number)) xs

-- the scratch flags that a text's characters set
abbrev pub scratch_flags_of_items : List Item → ℕ → ℕ
scratch_flags_of_items xs scratch_flags = fold (λ (f : ℕ) (x : Item). bit_or f (scratch_flags_of x.number)) scratch_flags xs

-- the view with the properties of its characters (HarfBuzz: hb_set_unicode_props)
abbrev pub with_properties : Tables → View → Read
with_properties t v = with_events [] (record v { items = items_prepared t None v.items; scratch_flags = scratch_flags_of_items v.items v.scratch_flags })

-- ---- glyph records

-- a glyph record with the properties of its character
abbrev pub glyph_prepared : Tables → Bool → hb_glyph_info_t → hb_glyph_info_t
glyph_prepared t is_continuation g = record g { unicode_props = record { 0 = property_word_of is_continuation g.glyph_id }; modified_combining_class = character_class t g.glyph_id }

-- glyph records with the properties of their characters
abbrev pub glyphs_prepared : Tables → Option Before → List hb_glyph_info_t → List hb_glyph_info_t
glyphs_prepared t before [] = []
glyphs_prepared t before (g ∷ gs) = glyph_prepared t (continues t before g.glyph_id) g ∷ glyphs_prepared t (Some (next_before t before g.glyph_id)) gs

-- the scratch flags that glyph records' characters set
abbrev pub scratch_flags_of_glyphs : List hb_glyph_info_t → ℕ → ℕ
scratch_flags_of_glyphs gs scratch_flags = fold (λ (f : ℕ) (g : hb_glyph_info_t). bit_or f (scratch_flags_of g.glyph_id)) scratch_flags gs
