-- The combining classes by which marks are positioned in fonts without mark positioning (Unicode Character Database,
-- Canonical_Combining_Class, 200 to 240).
use Rattle.std.specs.Prelude.{ℕ, ◌==◌, ◌&&◌, ◌||◌, Bool, nat_le, nat_lt, if◌then◌else◌, List, [], ◌∷◌}
use Rattle.std.specs.List.{list_any}
use Rattle.buffer_common.specs.declared.constants.TheConstants.{CCC10, CCC11, CCC12, CCC13, CCC14, CCC15, CCC16, CCC17, CCC18, CCC19, CCC20, CCC22, CCC23, CCC24, CCC25, CCC26, CCC27, CCC28, CCC29, CCC30, CCC31, CCC32, CCC33, CCC34, CCC35, CCC36, CCC103, CCC107, CCC118, CCC122, CCC129, CCC130, CCC132}
use Rattle.buffer_glyphs.specs.Items.{Item}
use Rattle.buffer_core.specs.Readings.{View, Read}
use Rattle.buffer_properties.specs.Categories.{is_nonspacing_mark}
use Rattle.buffer_stages.specs.Stages.{with_items_mapped}

-- a number is within a range
abbrev pub is_within : ℕ → ℕ → ℕ → Bool
is_within first last u = nat_le first u && nat_le u last

-- vowel signs of Thai and marks without a class that are above to the right
abbrev pub is_thai_above : ℕ → Bool
is_thai_above u = u == 0xE31 || is_within 0xE34 0xE37 u || u == 0xE47 || is_within 0xE4C 0xE4E u

-- vowel signs of Lao and marks without a class that are above
abbrev pub is_lao_above : ℕ → Bool
is_lao_above u = u == 0xEB1 || is_within 0xEB4 0xEB7 u || u == 0xEBB || is_within 0xECC 0xECD u

-- the class of a mark of class 0: above to the right (232), above (230), below (220: the semivowel sign lo), else 0
abbrev pub class_of_unclassed : ℕ → ℕ
class_of_unclassed u = if is_thai_above u then 232 else if is_lao_above u then 230 else if u == 0xEBC then 220 else 0

-- a number is in a list
abbrev pub is_one_of : List ℕ → ℕ → Bool
is_one_of classes class = list_any (λ c. class == c) classes

-- the classes of marks below: points of Hebrew, kasras of Arabic, signs of Lao and Tibetan
abbrev pub classes_below : List ℕ
classes_below = CCC10 ∷ CCC11 ∷ CCC12 ∷ CCC13 ∷ CCC14 ∷ CCC15 ∷ CCC16 ∷ CCC17 ∷ CCC18 ∷ CCC20 ∷ CCC22 ∷ CCC29 ∷ CCC32 ∷ CCC118 ∷ CCC129 ∷ CCC132 ∷ []

-- the classes of marks above: varika, other marks of Arabic and Syriac, signs of Lao and Tibetan
abbrev pub classes_above : List ℕ
classes_above = CCC26 ∷ CCC27 ∷ CCC28 ∷ CCC30 ∷ CCC31 ∷ CCC33 ∷ CCC34 ∷ CCC35 ∷ CCC36 ∷ CCC122 ∷ CCC130 ∷ []

-- the class of a mark with a fixed-position class: rafe is attached above (214), the points of shin and sin are to the
-- right and to the left; other classes are unchanged
abbrev pub class_of_class : ℕ → ℕ
class_of_class class =
    if is_one_of classes_below class then 220
    else if is_one_of classes_above class then 230
    else if class == CCC23 then 214
    else if is_one_of (CCC24 ∷ CCC107 ∷ []) class then 232
    else if is_one_of (CCC19 ∷ CCC25 ∷ []) class then 228
    else if class == CCC103 then 222
    else class

-- the class of a character with a class: the virama of Thai is below to the right (222)
abbrev pub class_of_mark : ℕ → ℕ → ℕ
class_of_mark u class = if class == 0 then class_of_unclassed u else if u == 0xE3A then 222 else class_of_class class

-- the class by which a mark is positioned; classes from 200 on are unchanged (HarfBuzz: recategorize_combining_class)
abbrev pub fallback_class : ℕ → ℕ → ℕ
fallback_class u class = if nat_lt class 200 then class_of_mark u class else class

-- an item with the class by which it is positioned, if it is a nonspacing mark
abbrev pub item_with_fallback_class : Item → Item
item_with_fallback_class x = if is_nonspacing_mark x then record x { class = fallback_class x.number x.class } else x

-- the view with such classes (HarfBuzz: _hb_ot_shape_fallback_mark_position_recategorize_marks)
abbrev pub with_fallback_classes : View → Read
with_fallback_classes v = with_items_mapped item_with_fallback_class v
