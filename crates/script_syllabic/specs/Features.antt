-- The features that glyphs of a syllable get, and what a feature's glyphs are recorded as (OpenType specification,
-- Universal Shaping Engine).
use Rattle.std.specs.Prelude.{ℕ, ◌+◌, ◌-◌, ◌==◌, ◌&&◌, ◌||◌, not, Bool, true, false, min, if◌then◌else◌, List, [], ◌∷◌, ◌++◌, Option, Some, None, map, length, bit_and}
use Rattle.std.specs.Int.RustNames.{bit_or}
use Rattle.script_categories.specs.declared.category.TheConstants as category
use Rattle.script_categories.specs.declared.syllable_kinds.universal.TheConstants as universal
use Rattle.buffer_glyphs.specs.LigatureWords.{is_substituted}
use Rattle.buffer_glyphs.specs.Items.{Item, without_flags}
use Rattle.buffer_glyphs.specs.Events.{Event, StrictBreak}
use Rattle.buffer_glyphs.specs.Rewriting.{Arrangement, eventless_arrangement}
use Rattle.buffer_stages.specs.Rewriting.{within, in_syllables}
use Rattle.buffer_stages.specs.Parts.{items_with_features}
use Rattle.buffer_stages.specs.Bytes.{kind_of_byte}
use Rattle.script_syllabic.specs.declared.forms.FormMasks.{FormMasks}

-- ---- rphf

-- the number of items of a syllable that get the mask of rphf: one where the first is a reph, else up to three
abbrev pub reph_size : List Item → ℕ
reph_size [] = 0
reph_size (x ∷ xs) = if x.category == category.R then 1 else min 3 (1 + length xs)

-- a syllable whose first items have the mask of rphf (HarfBuzz: setup_rphf_mask)
abbrev pub rphf_masked : ℕ → List Item → Arrangement
rphf_masked mask xs = within 0 (reph_size xs) (items_with_features mask) xs

-- ---- records of substituted glyphs

-- an item with a category
abbrev pub with_category : ℕ → Item → Item
with_category c x = record x { category = c }

-- an item has a feature's mask; with no mask, each item has
abbrev pub has_feature : Option ℕ → Item → Bool
has_feature None x = true
has_feature (Some mask) x = not (bit_and x.mask mask == 0)

-- the list where the first substituted item, among the first ones that pass a test, has the category
abbrev pub with_first_recorded : (Item → Bool) → ℕ → List Item → List Item
with_first_recorded test c [] = []
with_first_recorded test c (x ∷ xs) =
    if not (test x) then x ∷ xs
    else if is_substituted x then with_category c x ∷ xs
    else x ∷ with_first_recorded test c xs

-- a syllable whose substituted reph has category R (HarfBuzz: record_rphf_use)
abbrev pub rphf_recorded : ℕ → List Item → Arrangement
rphf_recorded mask xs = eventless_arrangement (with_first_recorded (has_feature (Some mask)) category.R xs)

-- a syllable whose substituted pref glyph has category VPre (HarfBuzz: record_pref_use)
abbrev pub pref_recorded : List Item → Arrangement
pref_recorded xs = eventless_arrangement (with_first_recorded (has_feature None) category.VPre xs)

-- ---- forms of syllables

-- a kind of syllable connects to its neighbours: neither hieroglyphs nor non-clusters do
abbrev pub connects_by : ℕ → Bool
connects_by kind = not (kind == universal.HIEROGLYPH_CLUSTER || kind == universal.NON_CLUSTER)

-- a syllable connects to its neighbours, by the kind in its first item's byte
abbrev pub connects : List Item → Bool
connects [] = false
connects (x ∷ xs) = connects_by (kind_of_byte x.syllable)

-- the first syllable of a list of them connects
abbrev pub first_connects : List (List Item) → Bool
first_connects [] = false
first_connects (s ∷ ss) = connects s

-- the mask of the form of a joining syllable, by whether the previous and the next one join
abbrev pub form_of : FormMasks → Bool → Bool → ℕ
form_of masks true true = masks.medi
form_of masks true false = masks.fina
form_of masks false true = masks.init
form_of masks false false = masks.isol

-- the bits of all four forms
abbrev pub all_forms : FormMasks → ℕ
all_forms masks = bit_or (bit_or masks.isol masks.init) (bit_or masks.medi masks.fina)

-- the bits of all forms without the global bit and the glyph flags
abbrev pub form_bits : FormMasks → ℕ
form_bits masks = all_forms masks - bit_and (all_forms masks) 0x8000_0007

-- an item with the mask of one form, and without the others
abbrev pub with_form : FormMasks → ℕ → Item → Item
with_form masks form x = record x { mask = bit_or (x.mask - bit_and x.mask (form_bits masks)) (without_flags form) }

-- a syllable with its form, by whether the previous and the next one join
abbrev pub syllable_with_form : FormMasks → Bool → List Item → Bool → List Item
syllable_with_form masks before s behind = if connects s then map (with_form masks (form_of masks before behind)) s else s

-- the syllables with their forms: isol between syllables that don't join, then init, fina or medi
abbrev pub each_formed : FormMasks → Bool → List (List Item) → List Item
each_formed masks before [] = []
each_formed masks before (s ∷ ss) = syllable_with_form masks before s (first_connects ss) ++ each_formed masks (connects s) ss

-- the event of the seam before an index between two syllables: where both connect, each gives the other its form
abbrev pub seam_event : Bool → ℕ → List Event
seam_event connected at = if connected then StrictBreak (at - 1) (at + 1) ∷ [] else []

-- the events of the seams between syllables from an index on, by whether the one before connects
abbrev pub seam_events : Bool → ℕ → List (List Item) → List Event
seam_events before at [] = []
seam_events before at (s ∷ ss) = seam_event (before && connects s) at ++ seam_events (connects s) (at + length s) ss

-- the events of topographical forms: none where the font has none of the forms
abbrev pub topography_events : FormMasks → List (List Item) → List Event
topography_events masks ss = if all_forms masks == 0 then [] else seam_events false 0 ss

-- the stage that sets the masks of topographical forms (HarfBuzz: setup_topographical_masks)
abbrev pub topography : FormMasks → List Item → Arrangement
topography masks xs = record { items = each_formed masks false (in_syllables xs); events = topography_events masks (in_syllables xs) }
