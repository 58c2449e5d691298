-- A syllable before its forms are made: its items get their syllabic positions, are sorted by position, and get the
-- features of their positions (OpenType specification, script development for Indic scripts, initial reordering;
-- HarfBuzz: initial_reordering_consonant_syllable).
use Rattle.std.specs.Prelude.{ℕ, zero, suc, ◌+◌, ◌&&◌, ◌||◌, not, Bool, true, false, min, nat_lt, if◌then◌else◌, List, [], ◌∷◌, ◌++◌, filter, length, drop, take, Option, None, Some}
use Rattle.std.specs.List.{position_or_len}
use Rattle.script_categories.specs.declared.ot_position_t.TheConstants as position
use Rattle.buffer_glyphs.specs.Items.{Item}
use Rattle.buffer_glyphs.specs.Rewriting.{Arrangement, eventless_arrangement, and_arranged}
use Rattle.buffer_stages.specs.Rewriting.{within}
use Rattle.buffer_stages.specs.Ordering.{groups_reversed, auxiliary_order}
use Rattle.script_indic_reordering.specs.declared.script.RephMode.{RephMode}
use Rattle.script_indic_reordering.specs.declared.script.IndicMasks.{IndicMasks}
use Rattle.script_indic_reordering.specs.Glyphs.{is_attached, is_consonant, is_halant, is_left, is_left_matra, is_matra, is_zwnj, stands_at, with_position}
use Rattle.script_indic_reordering.specs.Indices.{first_at}
use Rattle.script_indic_reordering.specs.Masks.{after_masked, own_bits, pair_masked, part_masked, without_bits}
use Rattle.script_indic_reordering.specs.Base.{Forms, RephAndBase, reph_and_base}

-- ---- positions

-- an item before the base: its position is at most that of consonants before the base
abbrev pub before_base : Item → Item
before_base x = with_position (min position.POS_PRE_C x.auxiliary) x

-- a list in which the n items before the base have positions before it, and the next item is the base
abbrev pub base_placed : ℕ → List Item → List Item
base_placed n [] = []
base_placed zero (x ∷ xs) = with_position position.POS_BASE_C x ∷ xs
base_placed (suc n) (x ∷ xs) = before_base x ∷ base_placed n xs

-- a list whose first item becomes the reph, where there is a reph
abbrev pub reph_placed : Bool → List Item → List Item
reph_placed true (x ∷ xs) = with_position position.POS_RA_TO_BECOME_REPH x ∷ xs
reph_placed has_reph xs = xs

-- the position of an item after an item of a position: an attached one has the position of the item before it
abbrev pub attached_position : ℕ → Item → ℕ
attached_position before x = if is_attached x then before else x.auxiliary

-- a list in which attached items have the position of the item before them; the first has the given position
abbrev pub signs_attached : ℕ → List Item → List Item
signs_attached before [] = []
signs_attached before (x ∷ xs) = with_position (attached_position before x) x ∷ signs_attached (attached_position before x) xs

-- an item is a consonant or a matra: it decides the position of the signs before it
abbrev pub leads : Item → Bool
leads x = is_consonant x || is_matra x

-- the position that a consonant gives to the signs before it; a matra gives none
abbrev pub lead_position : Item → Option ℕ
lead_position x = if is_consonant x then Some x.auxiliary else None

-- the position that signs before an item get, by the position that the signs after it get
abbrev pub led_position_with : Option ℕ → Item → Option ℕ
led_position_with pos x = if leads x then lead_position x else pos

-- the position that signs get from the next consonant or matra of a list
abbrev pub led_position : List Item → Option ℕ
led_position [] = None
led_position (x ∷ xs) = led_position_with (led_position xs) x

-- an item with the position that the next consonant gives; syllable modifiers, and positions after theirs, stay
abbrev pub with_led_position : Option ℕ → Item → Item
with_led_position None x = x
with_led_position (Some pos) x = if nat_lt x.auxiliary position.POS_SMVD then with_position pos x else x

-- an item with the position that the next consonant gives, unless it is a consonant or a matra itself
abbrev pub led_item : Option ℕ → Item → Item
led_item pos x = if leads x then x else with_led_position pos x

-- a list in which the signs between a consonant or matra and the next consonant have the position of that next
-- consonant
abbrev pub all_led : List Item → List Item
all_led [] = []
all_led (x ∷ xs) = led_item (led_position xs) x ∷ all_led xs

-- a list in which signs after the base have the position of the next consonant, where no matra is between
abbrev pub all_led_after : ℕ → List Item → List Item
all_led_after base xs = take (base + 1) xs ++ all_led (drop (base + 1) xs)

-- a syllable with all its positions: before the base and at it, of the reph, of attached signs, of signs before a
-- later consonant
abbrev pub all_placed : RephAndBase → List Item → List Item
all_placed f xs = all_led_after f.base (signs_attached position.POS_START (reph_placed f.has_reph (base_placed f.base xs)))

-- ---- order

-- the index of the first left matra
abbrev pub first_left : List Item → ℕ
first_left xs = position_or_len is_left_matra xs

-- the number of items of the left matras, with the signs that are attached to them
abbrev pub left_count : List Item → ℕ
left_count xs = position_or_len (λ x. not (is_left x)) (drop (first_left xs) xs)

-- a list has two left matras or more
abbrev pub has_two_matras : List Item → Bool
has_two_matras xs = nat_lt 1 (length (filter is_left_matra xs))

-- a syllable in which two left matras or more are reversed, each with what follows it up to the next, and merge
abbrev pub matras_reversed : List Item → Arrangement
matras_reversed xs =
    if has_two_matras (take (left_count xs) (drop (first_left xs) xs)) then within (first_left xs) (first_left xs + left_count xs) (groups_reversed is_matra) xs else eventless_arrangement xs

-- ---- features

-- the index of the base of a sorted syllable, its length where there is none
abbrev pub base_in : List Item → ℕ
base_in xs = position_or_len (stands_at position.POS_BASE_C) xs

-- the number of items of the reph of a sorted syllable
abbrev pub reph_in : List Item → ℕ
reph_in xs = position_or_len (λ x. not (stands_at position.POS_RA_TO_BECOME_REPH x)) xs

-- a syllable in which the reph, the items before the base and the items after the base have the features of their
-- positions
abbrev pub masked_by_position : IndicMasks → List Item → List Item
masked_by_position m xs = after_masked (base_in xs + 1) m.after_base (part_masked 0 (base_in xs) m.before_base (part_masked 0 (reph_in xs) m.rphf xs))

-- a halant and the consonant after it for which the font has a form that moves before the base
abbrev pub form_pref : Forms → Item → Item → Bool
form_pref forms x y = is_halant x && is_consonant y && forms.pref (x.number ∷ y.number ∷ [])

-- a list begins with a halant and a consonant that the font makes a form of that moves before the base
abbrev pub forms_pref : Forms → List Item → Bool
forms_pref forms (x ∷ y ∷ zs) = form_pref forms x y
forms_pref forms xs = false

-- the index of the first pair after the base that the font makes such a form of
abbrev pub pref_pair : Forms → List Item → Option ℕ
pref_pair forms xs = first_at (forms_pref forms) (base_in xs + 1) (drop (base_in xs + 1) xs)

-- a syllable in which a pair has the feature pref, where there is a pair
abbrev pub pref_masked : ℕ → Option ℕ → List Item → List Item
pref_masked bits None xs = xs
pref_masked bits (Some i) xs = pair_masked i bits xs

-- a ZWNJ follows the item before, with no consonant between: by an item, and whether a ZWNJ so follows that item
abbrev pub continues : Item → Bool → Bool
continues x is_before = is_zwnj x || (not (is_consonant x) && is_before)

-- a list has a ZWNJ with no consonant before it
abbrev pub before_zwnj : List Item → Bool
before_zwnj [] = false
before_zwnj (x ∷ xs) = continues x (before_zwnj xs)

-- an item without some bits of its mask where a condition holds
abbrev pub without_bits_if : Bool → ℕ → Item → Item
without_bits_if is_before bits x = if is_before then without_bits bits x else x

-- a list in which the items before a ZWNJ, back to the nearest consonant, have lost some bits of their masks
abbrev pub cleared_before_zwnj : ℕ → List Item → List Item
cleared_before_zwnj bits [] = []
cleared_before_zwnj bits (x ∷ xs) = without_bits_if (before_zwnj xs) bits x ∷ cleared_before_zwnj bits xs

-- a syllable with the features of its positions, with the feature pref at a pair, and without the feature half before
-- a ZWNJ
abbrev pub masks_set : IndicMasks → Option ℕ → List Item → List Item
masks_set m pair xs = cleared_before_zwnj (own_bits m.half) (pref_masked m.pref pair (masked_by_position m xs))

-- ---- a syllable

-- a syllable whose items have positions, are sorted by them in stable order, have their left matras reversed, and
-- have the features of their positions
abbrev pub initial_reordered : RephMode → IndicMasks → Forms → List Item → Arrangement
initial_reordered mode m forms xs =
    and_arranged (and_arranged (and_arranged (eventless_arrangement (all_placed (reph_and_base mode forms xs) xs)) auxiliary_order) matras_reversed) (λ ys. eventless_arrangement (masks_set m (pref_pair forms ys) ys))
