-- Myanmar: the positions of the items of a syllable, and their order (OpenType specification, Creating fonts for
-- Myanmar).
use Rattle.std.specs.Prelude.{ℕ, ◌==◌, ◌&&◌, ◌||◌, Bool, nat_lt, if◌then◌else◌, List, [], ◌∷◌, ◌++◌, drop, filter, length, map, replicate, slice_get, take, Option, None, Some}
use Rattle.std.specs.List.{list_any, position_or_len, prefix_len}
use Rattle.script_categories.specs.declared.ot_category_t.TheConstants as category
use Rattle.script_categories.specs.declared.ot_position_t.TheConstants as position
use Rattle.script_categories.specs.declared.shaper.hb_ot_script_shaper_t.TheVariants.{MYANMAR_SHAPER}
use Rattle.script_categories.specs.Shapers.{is_reordered}
use Rattle.buffer_glyphs.specs.Items.{Item}
use Rattle.buffer_stages.specs.Pieces.{ArePermuted}
use Rattle.buffer_stages.specs.Ordering.{groups_reversed, auxiliary_order}
use Rattle.buffer_glyphs.specs.Rewriting.{Arrangement, eventless_arrangement, and_arranged}
use Rattle.buffer_stages.specs.Rewriting.{within, in_syllables, by_syllable}
use Rattle.buffer_stages.specs.Bytes.{kind_of_byte}

-- ---- positions, by the categories of a syllable's items

-- the categories of consonants and of what takes a consonant's role
abbrev pub base_categories : List ℕ
base_categories = category.OT_C ∷ category.OT_CS ∷ category.OT_Ra ∷ category.OT_V ∷ category.OT_PLACEHOLDER ∷ category.OT_DOTTEDCIRCLE ∷ []

-- a category is that of a base
abbrev pub is_base : ℕ → Bool
is_base c = list_any (λ b. c == b) base_categories

-- the position of an item in the below-base state of the walk
abbrev pub position_below : ℕ → ℕ
position_below c = if c == category.OT_A then position.POS_BEFORE_SUB else if c == category.OT_VBlw then position.POS_BELOW_C else position.POS_AFTER_SUB

-- the position of an item after the base that follows the others, by the position that the walk is in
abbrev pub position_there : ℕ → ℕ → ℕ
position_there now c =
    if now == position.POS_AFTER_MAIN && c == category.OT_VBlw then position.POS_BELOW_C else if now == position.POS_BELOW_C then position_below c else now

-- the position of an item after the base, by the position that the walk is in and that of the item before
abbrev pub position_of : ℕ → ℕ → ℕ → ℕ
position_of now before c =
    if c == category.OT_MR then position.POS_PRE_C
    else if c == category.OT_VPre then position.POS_PRE_M
    else if c == category.OT_VS then before
    else position_there now c

-- a category whose item leaves the walk's position unchanged
abbrev pub stays_apart : ℕ → Bool
stays_apart c = c == category.OT_MR || c == category.OT_VPre || c == category.OT_VS

-- the position that the walk is in after an item: an anusvara in the below-base state leaves it unchanged
abbrev pub position_after : ℕ → ℕ → ℕ
position_after now c = if stays_apart c then now else if now == position.POS_BELOW_C && c == category.OT_A then now else position_there now c

-- the positions of the items after the base
abbrev pub positions_after : ℕ → ℕ → List ℕ → List ℕ
positions_after now before [] = []
positions_after now before (c ∷ cs) = position_of now before c ∷ positions_after (position_after now c) (position_of now before c) cs

-- the number of items of the kinzi that a syllable may begin with
abbrev pub kinzi : List ℕ → ℕ
kinzi (a ∷ b ∷ c ∷ cs) = if a == category.OT_Ra && b == category.OT_As && c == category.OT_H then 3 else 0
kinzi cs = 0

-- the categories from the base on
abbrev pub from_base : List ℕ → List ℕ
from_base [] = []
from_base (c ∷ cs) = position.POS_BASE_C ∷ positions_after position.POS_AFTER_MAIN position.POS_BASE_C cs

-- the index of the base: the first consonant, else the first item
abbrev pub base_of : List ℕ → ℕ
base_of cs = if list_any is_base cs then position_or_len is_base cs else 0

-- the positions of the items after a kinzi: before the base, the base, after it
abbrev pub positions_by_base : List ℕ → List ℕ
positions_by_base cs = replicate (base_of cs) position.POS_PRE_C ++ from_base (drop (base_of cs) cs)

-- the positions of a syllable's items, by their categories
abbrev pub myanmar_positions : List ℕ → List ℕ
myanmar_positions cs = replicate (kinzi cs) position.POS_AFTER_MAIN ++ positions_by_base (drop (kinzi cs) cs)

-- an item with a position in its `auxiliary`
abbrev pub with_position : ℕ → Item → Item
with_position p x = record x { auxiliary = p }

-- items with positions
abbrev pub with_positions : List ℕ → List Item → List Item
with_positions [] xs = xs
with_positions (p ∷ ps) [] = []
with_positions (p ∷ ps) (x ∷ xs) = with_position p x ∷ with_positions ps xs

-- a syllable whose items have their positions
abbrev pub items_with_positions : List Item → Arrangement
items_with_positions xs = eventless_arrangement (with_positions (myanmar_positions (map (λ (x : Item). x.category) xs)) xs)

-- ---- order

-- an item is a left matra: a vowel sign that is shown before its base (OpenType specification, Creating fonts for
-- Myanmar: VPre)
abbrev pub is_pre_base_vowel : Item → Bool
is_pre_base_vowel x = x.category == category.OT_VPre

-- how many items in front are left matras with their selectors, once they are sorted
abbrev pub matras_of : List Item → ℕ
matras_of xs = prefix_len (λ (x : Item). x.auxiliary == position.POS_PRE_M) xs

-- a syllable has two left matras or more
abbrev pub has_two_matras : List Item → Bool
has_two_matras xs = nat_lt 1 (length (filter is_pre_base_vowel xs))

-- two or more left matras are reversed, each with what stands after it up to the next
abbrev pub matras_reversed : List Item → Arrangement
matras_reversed xs = if has_two_matras (take (matras_of xs) xs) then within 0 (matras_of xs) (groups_reversed is_pre_base_vowel) xs else eventless_arrangement xs

-- a Myanmar syllable in its order (HarfBuzz: initial_reordering_consonant_syllable)
abbrev pub myanmar_reordered : List Item → Arrangement
myanmar_reordered xs = and_arranged (and_arranged (items_with_positions xs) auxiliary_order) matras_reversed

-- a syllable, reordered if the kind in its first item's byte is reordered
abbrev pub myanmar_first : List Item → Option Item → Arrangement
myanmar_first xs None = eventless_arrangement xs
myanmar_first xs (Some x) = if is_reordered MYANMAR_SHAPER (kind_of_byte x.syllable) then myanmar_reordered xs else eventless_arrangement xs

-- the reading of one Myanmar syllable
abbrev pub myanmar_syllable : List Item → Arrangement
myanmar_syllable xs = myanmar_first xs (slice_get xs 0)

-- law: the reordering permutes each syllable by itself, by glyph numbers
abbrev pub MyanmarPermutes : Type 0
MyanmarPermutes = (xs : List Item)
    → ArePermuted (map (map (λ (x : Item). x.number)) (in_syllables xs)) (map (λ (x : Item). x.number) (by_syllable myanmar_syllable xs).items)
