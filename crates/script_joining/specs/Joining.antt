-- The forms of a text's letters, their masks, and the flags between neighbouring letters.
use Rattle.std.specs.Prelude.{ℕ, ◌+◌, ◌==◌, ◌&&◌, ◌||◌, not, Bool, true, false, nat_le, if◌then◌else◌, List, [], ◌∷◌, ◌++◌, Option, None, Some, find, slice_get, unwrap_or, map, bit_or}
use Rattle.script_categories.specs.declared.joining_types.hb_arabic_joining_type_t.TheVariants.{U, L, R, D, GroupAlaph, GroupDalathRish, T, X}
use Rattle.buffer_unicode_tables.specs.Tables.{Tables}
use Rattle.buffer_glyphs.specs.Items.{Item, without_flags}
use Rattle.buffer_glyphs.specs.Events.{Event, Concat, StrictBreak, Tatweel}
use Rattle.buffer_common.specs.declared.script.Script.{Script}
use Rattle.buffer_common.specs.declared.script.TheConstants as script
use Rattle.buffer_core.specs.Readings.{Stage, View, Read, always, with_events}
use Rattle.script_joining.specs.declared.flags.Letter.{Letter}
use Rattle.script_joining.specs.Types.{JoiningType, type_of_item, type_of_character}
use Rattle.script_joining.specs.Forms.{letter_form}

-- a type is that of a letter: all but transparent ones are; a non-joining character counts as a letter that doesn't
-- join
abbrev pub is_letter : JoiningType → Bool
is_letter U = true
is_letter L = true
is_letter R = true
is_letter D = true
is_letter GroupAlaph = true
is_letter GroupDalathRish = true
is_letter T = false
is_letter X = true

-- the type of the first letter among some characters, non-joining where there is none
abbrev pub nearest : List JoiningType → JoiningType
nearest ts = unwrap_or (find is_letter ts) U

-- the forms of characters by the nearest letters on both sides: `before` lists the characters before them, nearest
-- first, `after` those after them
abbrev pub forms : List JoiningType → List JoiningType → List JoiningType → List ℕ
forms before [] after = []
forms before (t ∷ ts) after = letter_form (nearest before) t (nearest (ts ++ after)) ∷ forms (t ∷ before) ts after

-- the form of a letter depends on the letter before it
abbrev pub depends_on : JoiningType → JoiningType → Bool
depends_on before t = not (letter_form before t U == letter_form U t U)

-- the flags of a letter whose form depends on one that it leaves as it is, as Alaph's does, and of all from an index on
-- before it: the context of a text that begins between them may be too short to show that one
abbrev pub form_events : JoiningType → ℕ → JoiningType → ℕ → List Event
form_events before from t at = if depends_on before t then StrictBreak from (at + 1) ∷ [] else []

-- the flags of two neighbouring letters: safe to insert a tatweel where the second changes the first's form, else
-- unsafe to concat
abbrev pub neighbours_events : Letter → JoiningType → ℕ → List Event
neighbours_events p t at =
    if letter_form p.before p.joining t == letter_form p.before p.joining U
    then Concat p.at (at + 1) ∷ form_events p.joining p.at t at
    else Tatweel p.at (at + 1) ∷ []

-- the flags of a letter and the previous letter of the text; of the first letter by the type before it, of the context
abbrev pub events_after : JoiningType → Option Letter → JoiningType → ℕ → List Event
events_after before None t at = form_events before 0 t at
events_after before (Some p) t at = neighbours_events p t at

-- the flags at a character, which has none where it is transparent
abbrev pub events_at : JoiningType → Option Letter → JoiningType → ℕ → List Event
events_at before last t at = if is_letter t then events_after before last t at else []

-- the type of the nearest letter after one more character
abbrev pub nearest_past : JoiningType → JoiningType → JoiningType
nearest_past before t = if is_letter t then t else before

-- the last letter of the text after one more character
abbrev pub letter_after : JoiningType → Option Letter → JoiningType → ℕ → Option Letter
letter_after before last t at = if is_letter t then Some (record { at = at; joining = t; before = before }) else last

-- the flags of all neighbouring letters from an index on, by the type of the letter before and the last letter of the
-- text, if there is one
abbrev pub neighbour_events : JoiningType → Option Letter → ℕ → List JoiningType → List Event
neighbour_events before last at [] = []
neighbour_events before last at (t ∷ ts) = events_at before last t at ++ neighbour_events (nearest_past before t) (letter_after before last t at) (at + 1) ts

-- the Mongolian variation selectors U+180B to U+180D and U+180F
abbrev pub is_mongolian_selector : Item → Bool
is_mongolian_selector x = (nat_le 0x180B x.number && nat_le x.number 0x180D) || x.number == 0x180F

-- the form of an item: a selector has the form before it
abbrev pub form_after : Option ℕ → Item → ℕ → ℕ
form_after None x form = form
form_after (Some before) x form = if is_mongolian_selector x then before else form

-- the forms where each selector has the form before it
abbrev pub forms_copied : Option ℕ → List Item → List ℕ → List ℕ
forms_copied before [] fs = []
forms_copied before (x ∷ xs) [] = []
forms_copied before (x ∷ xs) (f ∷ fs) = let form : ℕ = form_after before x f in form ∷ forms_copied (Some form) xs fs

-- the forms of a text, copied to selectors in Mongolian only
abbrev pub settled_forms : Bool → List Item → List ℕ → List ℕ
settled_forms true xs fs = forms_copied None xs fs
settled_forms false xs fs = fs

-- the mask of a form's feature, 0 for a letter without a form
abbrev pub mask_of : List ℕ → ℕ → ℕ
mask_of masks form = unwrap_or (slice_get masks form) 0

-- an item with its form and the form's mask
abbrev pub with_form : List ℕ → Item → ℕ → Item
with_form masks x form = record x { auxiliary = form; mask = without_flags (bit_or x.mask (mask_of masks form)) }

-- items with their forms and masks
abbrev pub with_forms : List ℕ → List Item → List ℕ → List Item
with_forms masks [] fs = []
with_forms masks (x ∷ xs) [] = x ∷ xs
with_forms masks (x ∷ xs) (f ∷ fs) = with_form masks x f ∷ with_forms masks xs fs

-- the joining types of items
abbrev pub types_of_items : Tables → List Item → List JoiningType
types_of_items t xs = map (type_of_item t) xs

-- the joining types of characters
abbrev pub types_of_characters : Tables → List ℕ → List JoiningType
types_of_characters t us = map (type_of_character t) us

-- a text whose letters have their forms and masks, by the text and the contexts before and after it, nearest character
-- first
abbrev pub items_with_forms : Tables → Bool → List ℕ → List ℕ → List ℕ → List Item → List Item
items_with_forms t mongolian masks pre post xs =
    with_forms masks xs (settled_forms mongolian xs (forms (types_of_characters t pre) (types_of_items t xs) (types_of_characters t post)))

-- the view with letters in their forms and flags between neighbours (HarfBuzz: setup_masks_inner)
abbrev pub letters_with_forms : Tables → Bool → List ℕ → List ℕ → List ℕ → View → Read
letters_with_forms t mongolian masks pre post v =
    with_events (neighbour_events (nearest (types_of_characters t pre)) None 0 (types_of_items t v.items))
    (record v { items = items_with_forms t mongolian masks pre post v.items })

-- a text's script is Mongolian
abbrev pub is_mongolian : Option Script → Bool
is_mongolian None = false
is_mongolian (Some s) = s.0.0 == script.MONGOLIAN.0.0

-- the stage that sets letters' forms and their masks, by a text's script and the contexts before and after it
abbrev pub letters_joined : List ℕ → Option Script → Tables → List ℕ → List ℕ → Stage
letters_joined masks s t pre post = always (letters_with_forms t (is_mongolian s) masks pre post)
