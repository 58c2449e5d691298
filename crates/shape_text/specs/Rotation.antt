-- Characters that are mirrored in right-to-left text or have a vertical form.
use Rattle.std.specs.Prelude.{ℕ, ◌&&◌, Bool, not, if◌then◌else◌, is_some, [], Option, Some, None}
use Rattle.std.specs.Int.RustNames.{bit_or}
use lib.Utf8.{scalar}
use Rattle.buffer_common.specs.Direction.{is_backward, is_vertical}
use Rattle.buffer_common.specs.declared.direction.Direction.{Direction}
use Rattle.buffer_unicode_tables.specs.Tables.{Tables, counterpart_in}
use Rattle.layout_face.specs.declared.parts.FaceParts.{FaceParts}
use Rattle.layout_face.specs.Glyphs.{nominal_glyph}
use Rattle.buffer_glyphs.specs.declared.info.hb_glyph_info_t.{hb_glyph_info_t}
use Rattle.buffer_glyphs.specs.Items.{Item, without_flags}
use Rattle.buffer_core.specs.Readings.{View, Read, then_read, with_events}
use Rattle.buffer_stages.specs.Stages.{with_items_mapped}

-- a character, if the font has it
abbrev pub if_known : FaceParts → Option ℕ → Option ℕ
if_known font None = None
if_known font (Some c) = if is_some (nominal_glyph c font) then Some c else None

-- the mirror image of a character, if the font has it
abbrev pub mirror_image : Tables → FaceParts → ℕ → Option ℕ
mirror_image t font u = if scalar u then if_known font (counterpart_in t.mirrored u) else None

-- the vertical form of a character, if the font has it
abbrev pub vertical_form : Tables → FaceParts → ℕ → Option ℕ
vertical_form t font u = if scalar u then if_known font (counterpart_in t.vertical u) else None

-- an item with another character, or else with the mask of rtlm
abbrev pub mirrored_or : ℕ → Item → Option ℕ → Item
mirrored_or mask x None = record x { mask = without_flags (bit_or x.mask mask) }
mirrored_or mask x (Some c) = record x { number = c }

-- a glyph record with a mask added
abbrev pub glyph_with_mask : ℕ → hb_glyph_info_t → hb_glyph_info_t
glyph_with_mask mask g = record g { mask = bit_or g.mask mask }

-- an item of a backward text: its mirror image, or the mask of rtlm; its properties are unchanged
abbrev pub mirrored_item : Tables → FaceParts → ℕ → Item → Item
mirrored_item t font mask x = mirrored_or mask x (mirror_image t font x.number)

-- an item with its vertical form, if there is one
abbrev pub upright_or : Item → Option ℕ → Item
upright_or x None = x
upright_or x (Some c) = record x { number = c }

-- an item of a vertical text, with its vertical form; its properties are unchanged
abbrev pub with_vertical_form : Tables → FaceParts → Item → Item
with_vertical_form t font x = upright_or x (vertical_form t font x.number)

-- the view with each item mapped, if a condition holds
abbrev pub mapped_where : Bool → (Item → Item) → View → Read
mapped_where b k v = if b then with_items_mapped k v else with_events [] v

-- the view with characters mirrored where the direction is backward, and with vertical forms where it is vertical and
-- the font lacks vert (HarfBuzz: hb_ot_rotate_chars)
abbrev pub with_rotated_characters : Tables → FaceParts → Direction → ℕ → Bool → View → Read
with_rotated_characters t font target mask has_vert v =
    let m = mapped_where (is_backward target) (mirrored_item t font mask) v in
    then_read m (mapped_where (is_vertical target && not has_vert) (with_vertical_form t font) m.view)
