-- The dotted circle before a text that begins with a mark.
use Rattle.std.specs.Prelude.{ℕ, ◌+◌, ◌==◌, ◌&&◌, not, Bool, false, nat_le, if◌then◌else◌, is_some, List, [], ◌∷◌, length, Ok, Err}
use Rattle.std.specs.Int.RustNames.{bit_and, bit_or}
use Rattle.buffer_glyphs.specs.declared.cause.ShapeCause.TheVariants.{TooLong}
use Rattle.buffer_common.specs.declared.constants.BufferFlags.{BufferFlags}
use Rattle.buffer_unicode_tables.specs.Tables.{Tables}
use Rattle.layout_face.specs.declared.parts.FaceParts.{FaceParts}
use Rattle.layout_face.specs.Glyphs.{nominal_glyph}
use Rattle.buffer_properties.specs.Properties.{text_properties_of, character_class, scratch_flags_of}
use Rattle.buffer_glyphs.specs.declared.info.hb_glyph_info_t.{hb_glyph_info_t}
use Rattle.buffer_glyphs.specs.Items.{Item}
use Rattle.buffer_glyphs.specs.Events.{Circle}
use Rattle.buffer_core.specs.Readings.{Stage, with_events, as_it_is}
use Rattle.buffer_core.specs.Sides.{Sides, all_glyphs, zero_positions}
use Rattle.buffer_properties.specs.Characters.{is_mark}

-- U+25CC DOTTED CIRCLE
abbrev pub DOTTED_CIRCLE : ℕ
DOTTED_CIRCLE = 0x25CC

-- BEGINNING_OF_TEXT is set, and DO_NOT_INSERT_DOTTED_CIRCLE is not
abbrev pub flags_want_circle : BufferFlags → Bool
flags_want_circle flags = bit_and flags.0 1 == 1 && not (bit_and flags.0 16 == 16)

-- the first item is a mark
abbrev pub begins_with_mark : List Item → Bool
begins_with_mark [] = false
begins_with_mark (x ∷ xs) = is_mark x

-- a text gets a circle: the flags require it, there is no context before, it begins with a mark, and the font has the
-- glyph
abbrev pub needs_circle : BufferFlags → List ℕ → FaceParts → List Item → Bool
needs_circle flags context font xs = flags_want_circle flags && length context == 0 && begins_with_mark xs && is_some (nominal_glyph DOTTED_CIRCLE font)

-- the circle before a character, with its mask
abbrev pub circle_like : Tables → Item → Item
circle_like t x = record {
  number = DOTTED_CIRCLE;
  glyph_index = 0;
  unicode_props = text_properties_of DOTTED_CIRCLE;
  class = character_class t DOTTED_CIRCLE;
  glyph_props = 0;
  lig_props = 0;
  syllable = 0;
  category = 0;
  auxiliary = 0;
  mask = x.mask;
}

-- a list with a circle before its first item
abbrev pub circled_items : Tables → List Item → List Item
circled_items t [] = []
circled_items t (x ∷ xs) = circle_like t x ∷ x ∷ xs

-- the stage that inserts a circle before the first character, with its cluster
abbrev pub with_circle : Tables → Stage
with_circle t v = if nat_le (length v.items + 1) v.max_len
    then Ok (with_events (Circle false 0 0 ∷ []) (record v { items = circled_items t v.items; positions = zero_positions (length v.items + 1); scratch_flags = bit_or v.scratch_flags (scratch_flags_of DOTTED_CIRCLE) }))
    else Err TooLong

-- the stage that inserts a circle before a text that begins with a mark (HarfBuzz: hb_insert_dotted_circle)
abbrev pub first_circle : Tables → FaceParts → BufferFlags → List ℕ → Stage
first_circle t font flags context v = if needs_circle flags context font v.items then with_circle t v else as_it_is v

-- ---- glyph records

-- the glyph record of a circle before a character
abbrev pub glyph_circle : Tables → hb_glyph_info_t → hb_glyph_info_t
glyph_circle t g = record {
  glyph_id = DOTTED_CIRCLE;
  glyph_index = 0;
  mask = g.mask;
  cluster = g.cluster;
  unicode_props = record { 0 = text_properties_of DOTTED_CIRCLE };
  modified_combining_class = character_class t DOTTED_CIRCLE;
  glyph_props = record { 0 = 0 };
  lig_props = 0;
  syllable = 0;
  category = 0;
  auxiliary = 0;
}

-- glyph records with a circle before the first
abbrev pub glyphs_circled : Tables → List hb_glyph_info_t → List hb_glyph_info_t
glyphs_circled t [] = []
glyphs_circled t (g ∷ gs) = glyph_circle t g ∷ g ∷ gs

-- a buffer with a circle before its first glyph
abbrev pub with_circle_put : Tables → Sides → Sides
with_circle_put t s = record s { behind = []; is_apart = false; ahead = glyphs_circled t (all_glyphs s); positions = zero_positions (length (all_glyphs s) + 1); scratch_flags = bit_or s.scratch_flags (scratch_flags_of DOTTED_CIRCLE) }
