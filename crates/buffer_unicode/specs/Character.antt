-- Properties of a character that need no tables.
use Rattle.std.specs.Prelude.{ℕ, Bool, ◌==◌, ◌&&◌, nat_le, List, [], ◌∷◌, find}
use Rattle.std.specs.List.{list_any}
use Rattle.std.specs.Option.{option_map_or}
use Rattle.buffer_unicode.specs.declared.space.TheConstants.{NOT_SPACE, SPACE, SPACE_EM, SPACE_EM_2, SPACE_EM_3, SPACE_EM_4, SPACE_EM_5, SPACE_EM_6, SPACE_EM_16, SPACE_4_EM_18, SPACE_FIGURE, SPACE_PUNCTUATION, SPACE_NARROW}

-- whether a code point is from the first to the last of a range
abbrev pub is_in_range : ℕ → ℕ × ℕ → Bool
is_in_range c (first, last) = nat_le first c && nat_le c last

-- the default ignorable code points that shaping hides (HarfBuzz: `is_default_ignorable`)
abbrev pub default_ignorable_ranges : List (ℕ × ℕ)
default_ignorable_ranges =
    (0x00AD, 0x00AD) ∷ (0x034F, 0x034F) ∷ (0x061C, 0x061C) ∷ (0x17B4, 0x17B5) ∷ (0x180B, 0x180F) ∷ (0x200B, 0x200F) ∷ (0x202A, 0x202E)
    ∷ (0x2060, 0x206F) ∷ (0xFE00, 0xFE0F) ∷ (0xFEFF, 0xFEFF) ∷ (0xFFF0, 0xFFF8) ∷ (0x1D173, 0x1D17A) ∷ (0xE0000, 0xE0FFF) ∷ []

-- whether a code point is one of them
abbrev pub is_default_ignorable_character : ℕ → Bool
is_default_ignorable_character c = list_any (is_in_range c) default_ignorable_ranges

-- the variation selectors of the blocks Variation Selectors and Variation Selectors Supplement
abbrev pub variation_selector_ranges : List (ℕ × ℕ)
variation_selector_ranges = (0xFE00, 0xFE0F) ∷ (0xE0100, 0xE01EF) ∷ []

-- whether a code point is a variation selector
abbrev pub is_variation_selector_character : ℕ → Bool
is_variation_selector_character c = list_any (is_in_range c) variation_selector_ranges

-- the spaces with their types
abbrev pub space_types : List (ℕ × ℕ)
space_types =
    (0x0020, SPACE) ∷ (0x00A0, SPACE) ∷ (0x2000, SPACE_EM_2) ∷ (0x2001, SPACE_EM) ∷ (0x2002, SPACE_EM_2) ∷ (0x2003, SPACE_EM)
    ∷ (0x2004, SPACE_EM_3) ∷ (0x2005, SPACE_EM_4) ∷ (0x2006, SPACE_EM_6) ∷ (0x2007, SPACE_FIGURE) ∷ (0x2008, SPACE_PUNCTUATION)
    ∷ (0x2009, SPACE_EM_5) ∷ (0x200A, SPACE_EM_16) ∷ (0x202F, SPACE_NARROW) ∷ (0x205F, SPACE_4_EM_18) ∷ (0x3000, SPACE_EM) ∷ []

-- the type of a space, by which it gets a width where the font lacks it
abbrev pub space_fallback_of : ℕ → ℕ
space_fallback_of c = option_map_or (λ (row : ℕ × ℕ). row.1) (find (λ (row : ℕ × ℕ). row.0 == c) space_types) NOT_SPACE
