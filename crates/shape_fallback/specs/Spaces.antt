-- The widths of spaces that a font may lack (The Unicode Standard, section 6.2, space characters).
use Rattle.std.specs.Prelude.{ℕ, ℤ, pos, neg_ℤ, ◌+◌, ◌*◌, ◌/◌, ◌==◌, ◌&&◌, not, Bool, if◌then◌else◌, List, [], ◌∷◌, Option, Some, None, bit_and}
use Rattle.std.specs.Option.{option_or}
use Rattle.std.specs.List.{list_any}
use Rattle.std.specs.Int.RustNames.{int_div}
use Rattle.buffer_common.specs.declared.direction.Direction.{Direction}
use Rattle.buffer_common.specs.Direction.{is_horizontal}
use Rattle.buffer_unicode.specs.declared.space.TheConstants.{SPACE_EM, SPACE_EM_2, SPACE_EM_3, SPACE_EM_4, SPACE_EM_5, SPACE_EM_6, SPACE_EM_16, SPACE_4_EM_18, SPACE_FIGURE, SPACE_PUNCTUATION, SPACE_NARROW}
use Rattle.layout_face.specs.declared.parts.FaceParts.{FaceParts}
use Rattle.layout_face.specs.Glyphs.{nominal_glyph, width_of, height_of}
use Rattle.buffer_glyphs.specs.Items.{Item, Position}
use Rattle.buffer_core.specs.Readings.{View, Read}
use Rattle.buffer_properties.specs.Characters.{is_space}
use Rattle.buffer_stages.specs.PositionMaps.{with_positions_mapped}

-- a position with another advance along the line, negative in a vertical text
abbrev pub position_with_advance : Direction → ℤ → Position → Position
position_with_advance d a p = if is_horizontal d then record p { x_advance = a } else record p { y_advance = a }

-- a position whose advance is a length
abbrev pub of_length : Direction → ℕ → Position → Position
of_length d n p = position_with_advance d (if is_horizontal d then pos n else neg_ℤ (pos n)) p

-- a position whose advance is a glyph's
abbrev pub of_glyph : Direction → FaceParts → ℕ → Position → Position
of_glyph d font glyph p = of_length d (if is_horizontal d then width_of glyph font else height_of glyph font) p

-- the glyph of the first character of a list that the font has
abbrev pub first_glyph : List ℕ → FaceParts → Option ℕ
first_glyph [] font = None
first_glyph (c ∷ cs) font = option_or (nominal_glyph c font) (first_glyph cs font)

-- a position whose advance is that of a glyph, if there is one
abbrev pub of_found : Direction → FaceParts → Option ℕ → Position → Position
of_found d font None p = p
of_found d font (Some glyph) p = of_glyph d font glyph p

-- the digits 0 to 9, for the figure space
abbrev pub digits : List ℕ
digits = 0x30 ∷ 0x31 ∷ 0x32 ∷ 0x33 ∷ 0x34 ∷ 0x35 ∷ 0x36 ∷ 0x37 ∷ 0x38 ∷ 0x39 ∷ []

-- the full stop and the comma, for the punctuation space
abbrev pub stops : List ℕ
stops = 0x2E ∷ 0x2C ∷ []

-- a space type that is a fraction of an em: its number is the denominator
abbrev pub is_part_of_em : ℕ → Bool
is_part_of_em type = list_any (λ t. type == t) (SPACE_EM ∷ SPACE_EM_2 ∷ SPACE_EM_3 ∷ SPACE_EM_4 ∷ SPACE_EM_5 ∷ SPACE_EM_6 ∷ SPACE_EM_16 ∷ [])

-- a position with half the advance, rounded toward 0
abbrev pub half : Direction → Position → Position
half d p = position_with_advance d (int_div (if is_horizontal d then p.x_advance else p.y_advance) (pos 2)) p

-- the position of a space of a type: a fraction of an em, rounded; four eighteenths of an em; a digit's or a full
-- stop's advance; half its own advance; others are unchanged
abbrev pub space_of_type : Direction → FaceParts → ℕ → Position → Position
space_of_type d font type p =
    if is_part_of_em type then of_length d ((font.upem + type / 2) / type) p
    else if type == SPACE_4_EM_18 then of_length d (font.upem * 4 / 18) p
    else if type == SPACE_FIGURE then of_found d font (first_glyph digits font) p
    else if type == SPACE_PUNCTUATION then of_found d font (first_glyph stops font) p
    else if type == SPACE_NARROW then half d p
    else p

-- a space that is not part of a ligature; its type is in its combining class field
abbrev pub is_own_space : Item → Bool
is_own_space x = is_space x && bit_and x.glyph_props 32 == 0

-- a space with a type, which the normalizer gives to one that the font lacks
abbrev pub is_typed_space : Item → Bool
is_typed_space x = not (x.class == 0) && is_own_space x

-- the position of an item, adjusted if it is a space
abbrev pub space_position : Direction → FaceParts → Item → Position → Position
space_position d font x p = if is_own_space x then space_of_type d font x.class p else p

-- the view with adjusted spaces (HarfBuzz: _hb_ot_shape_fallback_spaces)
abbrev pub with_spaces : FaceParts → View → Read
with_spaces font v = with_positions_mapped (space_position v.direction font) v
