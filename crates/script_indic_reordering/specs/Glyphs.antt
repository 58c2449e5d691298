-- What the items of a syllable are to the Indic rules (OpenType specification, script development for Indic scripts).
use Rattle.std.specs.Prelude.{ℕ, ◌==◌, ◌&&◌, not, Bool, List, [], ◌∷◌}
use Rattle.std.specs.List.{list_any}
use Rattle.script_categories.specs.declared.ot_category_t.TheConstants as category
use Rattle.script_categories.specs.declared.ot_position_t.TheConstants as position
use Rattle.buffer_glyphs.specs.Items.{Item}
use Rattle.buffer_glyphs.specs.LigatureWords.{is_ligated}

-- ---- categories

-- the category of an item is one of a list
abbrev pub is_among : List ℕ → Item → Bool
is_among cs x = list_any (λ c. x.category == c) cs

-- the categories of consonants, and of what a sign may stand on in place of a consonant (HarfBuzz: is_consonant)
abbrev pub consonant_categories : List ℕ
consonant_categories = category.OT_C ∷ category.OT_CS ∷ category.OT_Ra ∷ category.OT_CM ∷ category.OT_V ∷ category.OT_PLACEHOLDER ∷ category.OT_DOTTEDCIRCLE ∷ []

-- an item is a consonant or stands for one (HarfBuzz: is_consonant)
abbrev pub is_consonant : Item → Bool
is_consonant x = is_among consonant_categories x

-- an item is ZWJ or ZWNJ (HarfBuzz: is_joiner)
abbrev pub is_joiner : Item → Bool
is_joiner x = is_among (category.OT_ZWNJ ∷ category.OT_ZWJ ∷ []) x

-- an item is a dependent vowel
abbrev pub is_matra : Item → Bool
is_matra x = is_among (category.OT_M ∷ category.OT_MPst ∷ []) x

-- an item is a halant (HarfBuzz: is_halant)
abbrev pub is_halant : Item → Bool
is_halant x = x.category == category.OT_H

-- an item is the letter Ra of its script
abbrev pub is_ra : Item → Bool
is_ra x = x.category == category.OT_Ra

-- an item is ZWJ
abbrev pub is_zwj : Item → Bool
is_zwj x = x.category == category.OT_ZWJ

-- an item is ZWNJ
abbrev pub is_zwnj : Item → Bool
is_zwnj x = x.category == category.OT_ZWNJ

-- an item has the syllabic position of the item before it: a joiner, nukta, register shifter, medial consonant or
-- halant
abbrev pub is_attached : Item → Bool
is_attached x = is_among (category.OT_ZWNJ ∷ category.OT_ZWJ ∷ category.OT_N ∷ category.OT_RS ∷ category.OT_CM ∷ category.OT_H ∷ []) x

-- an item is a nukta or a halant
abbrev pub is_nukta_or_halant : Item → Bool
is_nukta_or_halant x = is_among (category.OT_N ∷ category.OT_H ∷ []) x

-- an item is a halant that is no part of a ligature
abbrev pub is_free_halant : Item → Bool
is_free_halant x = is_halant x && not (is_ligated x)

-- ---- positions, which `auxiliary` holds

-- an item has a syllabic position, which the field `auxiliary` holds
abbrev pub stands_at : ℕ → Item → Bool
stands_at pos x = x.auxiliary == pos

-- an item with a syllabic position
abbrev pub with_position : ℕ → Item → Item
with_position pos x = record x { auxiliary = pos }

-- an item has the syllabic position below the base
abbrev pub is_below : Item → Bool
is_below x = stands_at position.POS_BELOW_C x

-- an item has the syllabic position after the base
abbrev pub is_post : Item → Bool
is_post x = stands_at position.POS_POST_C x

-- an item is a left matra, or attached to one: it has the syllabic position of left matras
abbrev pub is_left : Item → Bool
is_left x = stands_at position.POS_PRE_M x

-- an item is a left matra
abbrev pub is_left_matra : Item → Bool
is_left_matra x = is_left x && is_matra x
