-- The characters that continue the grapheme of the one before (UAX 29, extended grapheme clusters), as far as shaping
-- requires.
use Rattle.std.specs.Prelude.{ℕ, ◌==◌, ◌&&◌, ◌||◌, not, Bool, nat_le, Option, Some, None}
use Rattle.unicode.specs.GeneralCategory.{general_category}
use Rattle.ucd_category.specs.declared.GeneralCategory.TheVariants.{ModifierSymbol}
use Rattle.buffer_unicode.specs.Category.{category_number}
use Rattle.buffer_unicode_tables.specs.Tables.{Tables, is_pictographic}
use Rattle.buffer_properties.specs.Properties.{is_mark_character}
use Rattle.shape_text.specs.declared.graphemes.Before.{Before}

-- the emoji modifiers U+1F3FB to U+1F3FF (UAX 29 GB9, Extend)
abbrev pub is_emoji_modifier : ℕ → Bool
is_emoji_modifier u = nat_le 0x1F3FB u && nat_le u 0x1F3FF && category_number (general_category u) == category_number ModifierSymbol

-- the regional indicators, two of which are a flag (UAX 29 GB12, GB13)
abbrev pub is_regional_indicator : ℕ → Bool
is_regional_indicator u = nat_le 0x1F1E6 u && nat_le u 0x1F1FF

-- the halfwidth sound marks and the tags, which extend a grapheme and are no marks (UAX 29 GB9)
abbrev pub is_other_extender : ℕ → Bool
is_other_extender u = (nat_le 0xFF9E u && nat_le u 0xFF9F) || (nat_le 0xE0020 u && nat_le u 0xE007F)

-- a character that continues any grapheme (UAX 29 GB9, GB9a)
abbrev pub is_extender : ℕ → Bool
is_extender u = is_mark_character u || is_emoji_modifier u || (u == 0x200D) || is_other_extender u

-- a character continues the grapheme of the one before it: the second of two regional indicators (UAX 29 GB12, GB13),
-- or a pictographic character after a joiner (GB11)
abbrev pub is_joined : Tables → Before → ℕ → Bool
is_joined t before u =
    (is_regional_indicator u && is_regional_indicator before.character && not before.continues)
    || (is_pictographic t u && before.character == 0x200D)

-- a character continues the grapheme of the one before, if there is one
abbrev pub continues : Tables → Option Before → ℕ → Bool
continues t None u = is_extender u
continues t (Some before) u = is_extender u || is_joined t before u
