-- The properties of a character, as a glyph record and an item have them.
use Rattle.std.specs.Prelude.{ℕ, Bool, ◌==◌, ◌+◌, ◌-◌, nat_le, if◌then◌else◌, List, [], ◌∷◌}
use Rattle.std.specs.Int.RustNames.{bit_and}
use Rattle.std.specs.List.{list_any}
use Rattle.unicode.specs.GeneralCategory.{general_category}
use Rattle.buffer_unicode.specs.Category.{category_number, is_mark_category}
use Rattle.buffer_unicode.specs.Character.{is_in_range, is_default_ignorable_character}
use Rattle.buffer_unicode_tables.specs.Tables.{Tables, class_of}
use Rattle.buffer_glyphs.specs.declared.info.hb_glyph_info_t.{hb_glyph_info_t}
use Rattle.buffer_common.specs.declared.constants.TheConstants.{HB_BUFFER_SCRATCH_FLAG_HAS_NON_ASCII, HB_BUFFER_SCRATCH_FLAG_HAS_DEFAULT_IGNORABLES, HB_BUFFER_SCRATCH_FLAG_HAS_CGJ}

-- ---- the bits of a property word above the general category, by their names in `UnicodeProps`

-- the bit of a default ignorable
abbrev pub IGNORABLE : ℕ
IGNORABLE = 0x20

-- the bit of a hidden default ignorable
abbrev pub HIDDEN : ℕ
HIDDEN = 0x40

-- the bit of a continuation of a grapheme
abbrev pub CONTINUATION : ℕ
CONTINUATION = 0x80

-- the bit of the joiner U+200D
abbrev pub CF_ZWJ : ℕ
CF_ZWJ = 0x100

-- the bit of the non-joiner U+200C
abbrev pub CF_ZWNJ : ℕ
CF_ZWNJ = 0x200

-- the bit of a variation selector that the font didn't join with the character before it
abbrev pub CF_VS : ℕ
CF_VS = 0x400

-- a bit where the test holds, else 0
abbrev pub bit_if : Bool → ℕ → ℕ
bit_if b n = if b then n else 0

-- ---- characters

-- whether a character is of general category Mc, Me or Mn
abbrev pub is_mark_character : ℕ → Bool
is_mark_character u = is_mark_category (general_category u)

-- the Mongolian variation selectors, the tags and the grapheme joiner
abbrev pub hidden_ranges : List (ℕ × ℕ)
hidden_ranges = (0x180B, 0x180D) ∷ (0x180F, 0x180F) ∷ (0xE0020, 0xE007F) ∷ (0x034F, 0x034F) ∷ []

-- whether a character is a hidden default ignorable
abbrev pub is_hidden_character : ℕ → Bool
is_hidden_character u = list_any (is_in_range u) hidden_ranges

-- the property word of a character: its category, and whether it is ignorable, hidden, a joiner or a non-joiner. The
-- continuation flag is no part of it once the text is in its native order
unfoldable pub properties_of : ℕ → ℕ
properties_of u =
    category_number (general_category u)
    + (bit_if (is_default_ignorable_character u) IGNORABLE
    + (bit_if (is_hidden_character u) HIDDEN
    + (bit_if (u == 0x200D) CF_ZWJ + bit_if (u == 0x200C) CF_ZWNJ)))

-- the property word of a character of a text: a combining mark is a continuation of the grapheme before it
abbrev pub text_properties_of : ℕ → ℕ
text_properties_of u = properties_of u + bit_if (is_mark_character u) CONTINUATION

-- the modified combining class of a character by the tables; 0 for a character that is no combining mark
unfoldable pub character_class : Tables → ℕ → ℕ
character_class t u = if is_mark_character u then class_of t u else 0

-- the scratch flags that a character sets: non-ASCII characters, default ignorables, a grapheme joiner
abbrev pub scratch_flags_of : ℕ → ℕ
scratch_flags_of u =
    bit_if (nat_le 0x80 u) HB_BUFFER_SCRATCH_FLAG_HAS_NON_ASCII
    + (bit_if (is_default_ignorable_character u) HB_BUFFER_SCRATCH_FLAG_HAS_DEFAULT_IGNORABLES
    + bit_if (u == 0x034F) HB_BUFFER_SCRATCH_FLAG_HAS_CGJ)

-- ---- records

-- a record with the properties and the class of its character
abbrev pub with_text_properties : Tables → hb_glyph_info_t → hb_glyph_info_t
with_text_properties t g = record g {
  unicode_props = record { 0 = text_properties_of g.glyph_id };
  modified_combining_class = character_class t g.glyph_id;
}

-- a number without some bits
abbrev pub without_bits : ℕ → ℕ → ℕ
without_bits bits props = props - bit_and props bits

-- a record without the continuation flag
abbrev pub without_continuation : hb_glyph_info_t → hb_glyph_info_t
without_continuation g = record g { unicode_props = record { 0 = without_bits CONTINUATION g.unicode_props.0 } }
