-- The property word and the class of a glyph record, as the calls of the glyph's word read and write them (HarfBuzz:
-- hb-ot-layout.hh, `_hb_glyph_info_`).
use Rattle.std.specs.Prelude.{ℕ, Bool, ◌+◌, ◌&&◌, if◌then◌else◌}
use Rattle.std.specs.Int.RustNames.{bit_and, bit_or}
use Rattle.ucd_category.specs.declared.GeneralCategory.{GeneralCategory}
use Rattle.ucd_category.specs.declared.GeneralCategory.TheVariants.{Format, NonspacingMark}
use Rattle.buffer_unicode.specs.Category.{category_number}
use Rattle.buffer_properties.specs.Properties.{CF_VS, CF_ZWJ, CF_ZWNJ, CONTINUATION, IGNORABLE, without_bits}
use Rattle.buffer_properties.specs.Characters.{is_mark, is_space}
use Rattle.buffer_properties.specs.Categories.{has_category}
use Rattle.buffer_glyphs.specs.declared.info.hb_glyph_info_t.{hb_glyph_info_t}
use Rattle.buffer_glyphs.specs.Items.{Item, item_of}
use Rattle.buffer_glyphs.specs.LigatureWords.{has_bits}

-- ---- what the words say of an item

-- the type of an item that is a space (Zs), by which it gets a width where the font lacks it; 0 for any other item
abbrev pub space_type : Item → ℕ
space_type x = if is_space x then x.class else 0

-- whether an item is a format character (Cf) whose property word has a bit
abbrev pub is_format_with : ℕ → Item → Bool
is_format_with bit x = has_category Format x && has_bits bit x.unicode_props

-- whether an item is the joiner U+200D
abbrev pub is_zwj : Item → Bool
is_zwj x = is_format_with CF_ZWJ x

-- whether an item is the non-joiner U+200C
abbrev pub is_zwnj : Item → Bool
is_zwnj x = is_format_with CF_ZWNJ x

-- whether an item is a variation selector that the font didn't join with the character before it
abbrev pub is_unjoined_selector : Item → Bool
is_unjoined_selector x = is_format_with CF_VS x

-- whether an item belongs to the grapheme of the character before it
abbrev pub is_continuation : Item → Bool
is_continuation x = has_bits CONTINUATION x.unicode_props

-- ---- records with other words

-- a record with another property word
abbrev pub with_properties : ℕ → hb_glyph_info_t → hb_glyph_info_t
with_properties word g = record g { unicode_props = record { 0 = word } }

-- a property word with another general category: of its bits those of ignorables, hidden ones and continuations stay,
-- and those of particular format characters are cleared
abbrev pub recategorized_word : GeneralCategory → ℕ → ℕ
recategorized_word c word = bit_and word 0xE0 + category_number c

-- the property word of a variation selector that the font didn't join, or, where it is none any longer, of the
-- non-spacing mark (Mn) that it is by itself
abbrev pub selector_word : Bool → ℕ → ℕ
selector_word customize word =
    if customize then bit_or (recategorized_word Format word) CF_VS else recategorized_word NonspacingMark word

-- a record with another modified combining class, where it is a combining mark
abbrev pub with_mark_class : ℕ → hb_glyph_info_t → hb_glyph_info_t
with_mark_class n g = if is_mark (item_of g) then record g { modified_combining_class = n } else g

-- a record with another type of space, where it is a space (Zs)
abbrev pub with_space_type : ℕ → hb_glyph_info_t → hb_glyph_info_t
with_space_type n g = if is_space (item_of g) then record g { modified_combining_class = n } else g

-- a record that belongs to the grapheme of the character before it
abbrev pub with_continuation : hb_glyph_info_t → hb_glyph_info_t
with_continuation g = with_properties (bit_or g.unicode_props.0 CONTINUATION) g

-- a record that is no default ignorable
abbrev pub without_ignorable : hb_glyph_info_t → hb_glyph_info_t
without_ignorable g = with_properties (without_bits IGNORABLE g.unicode_props.0) g
