-- Glyphs before they have their forms: each stores its joining type in the field of its form.
use Rattle.std.specs.Prelude.{ℕ, ◌≡◌, bit_and, Bool, true, false, List, [], ◌∷◌, Option, None, Some, find, slice_get, unwrap_or, map, bit_or}
use Rattle.script_categories.specs.declared.joining_types.hb_arabic_joining_type_t.TheVariants.{U, L, R, D, GroupAlaph, GroupDalathRish, T, X}
use Rattle.script_categories.specs.Joining.{joining_types}
use Rattle.buffer_unicode_tables.specs.Tables.{Tables}
use Rattle.buffer_glyphs.specs.declared.info.TheConstants.{DEFINED}
use Rattle.buffer_glyphs.specs.declared.info.hb_glyph_info_t.{hb_glyph_info_t}
use Rattle.buffer_glyphs.specs.Items.{Item, item_of}
use Rattle.script_joining.specs.Types.{JoiningType, type_of_item}
use Rattle.script_joining.specs.Forms.{letter_form}
pub use Rattle.script_joining.specs.Joining.{mask_of, nearest_past}
use Rattle.script_joining.specs.Joining.{is_letter, form_after}

-- the number of a joining type
abbrev pub number_of : JoiningType → ℕ
number_of U = 0
number_of L = 1
number_of R = 2
number_of D = 3
number_of GroupAlaph = 4
number_of GroupDalathRish = 5
number_of T = 6
number_of X = 7

-- the joining type of a number
abbrev pub type_numbered : ℕ → JoiningType
type_numbered n = unwrap_or (slice_get joining_types n) U

-- an item that stores its joining type
abbrev pub item_typed : Tables → Item → Item
item_typed t x = record x { auxiliary = number_of (type_of_item t x) }

-- the joining type that a glyph stores
abbrev pub type_kept : hb_glyph_info_t → JoiningType
type_kept g = type_numbered g.auxiliary

-- the type of the nearest letter, with the given one for the letter after the end
abbrev pub nearest_or : JoiningType → List JoiningType → JoiningType
nearest_or beyond ts = unwrap_or (find is_letter ts) beyond

-- a glyph with a form
abbrev pub glyph_formed : ℕ → hb_glyph_info_t → hb_glyph_info_t
glyph_formed form g = record g { auxiliary = form }

-- glyphs with their forms, between the letters before and after them
abbrev pub glyphs_formed : JoiningType → JoiningType → List hb_glyph_info_t → List hb_glyph_info_t
glyphs_formed before after [] = []
glyphs_formed before after (g ∷ gs) =
    glyph_formed (letter_form before (type_kept g) (nearest_or after (map type_kept gs))) g ∷ glyphs_formed (nearest_past before (type_kept g)) after gs

-- glyphs whose Mongolian variation selectors have the form before them
abbrev pub glyphs_copied : Option ℕ → List hb_glyph_info_t → List hb_glyph_info_t
glyphs_copied before [] = []
glyphs_copied before (g ∷ gs) = let form : ℕ = form_after before (item_of g) g.auxiliary in glyph_formed form g ∷ glyphs_copied (Some form) gs

-- glyphs whose selectors have the form before them, in Mongolian only
abbrev pub glyphs_settled : Bool → List hb_glyph_info_t → List hb_glyph_info_t
glyphs_settled true gs = glyphs_copied None gs
glyphs_settled false gs = gs

-- a glyph with the mask of its form's feature
abbrev pub glyph_joined : List ℕ → hb_glyph_info_t → hb_glyph_info_t
glyph_joined masks g = record g { mask = bit_or g.mask (mask_of masks g.auxiliary) }

-- no mask of the list has a glyph flag's bit
abbrev pub AreFlagless : List ℕ → Type 0
AreFlagless [] = Unit {0}
AreFlagless (m ∷ ms) = (bit_and m DEFINED ≡ 0) × AreFlagless ms
