-- What the characters of two texts, one after the other, have to be for each to be normalized by itself.
use Rattle.std.specs.Prelude.{ℕ, ◌≡◌, ◌==◌, ◌<◌, ◌⊎◌, ⊤, Bool, true, false, List, [], ◌∷◌, length, drop, map, Option, None, Some}
use Rattle.std.specs.List.{list_any}
use Rattle.buffer_glyphs.specs.Items.{Item}
use Rattle.buffer_glyphs.specs.Rewriting.{Arrangement}
use Rattle.buffer_properties.specs.Normalizer.{Normalizer}
use Rattle.buffer_properties.specs.Properties.{is_mark_character}
use Rattle.buffer_unicode_tables.specs.Tables.{Tables, class_of, counterpart_in}
use Rattle.buffer_core.specs.Readings.{as_it_is}
use Rattle.buffer_stages.specs.Settings.{TextSettings}
use Rattle.layout_face.specs.declared.parts.FaceParts.{FaceParts}
use Rattle.script_plan.specs.Rules.{ShaperRules}
use Rattle.shape_laws.specs.Breaks.Normalizing.{is_joiner}

-- ---- of texts

-- the characters of items
abbrev pub characters : List Item → List ℕ
characters xs = map (λ (x : Item). x.number) xs

-- both texts have a mark after their first character, or neither has a mark
abbrev pub HaveLikeMarks : List ℕ → List ℕ → Type 0
HaveLikeMarks us vs =
    ((list_any is_mark_character (drop 1 us) ≡ true) × (list_any is_mark_character (drop 1 vs) ≡ true))
    ⊎ ((list_any is_mark_character us ≡ false) × (list_any is_mark_character vs ≡ false))

-- whether the last of some characters is U+034F COMBINING GRAPHEME JOINER, by whether the one before them is
abbrev pub ends_with_joiner : Bool → List ℕ → Bool
ends_with_joiner before [] = before
ends_with_joiner before (u ∷ us) = ends_with_joiner (u == 0x34F) us

-- a text may be broken into two texts of some characters as far as normalizing is concerned: both have a mark after
-- their first character, or neither has a mark; and the earlier one doesn't end with U+034F
pub record MayBreak (us vs : List ℕ) : Type 0 where
  pub marks : HaveLikeMarks us vs
  pub ends : ends_with_joiner false us ≡ false

-- ---- of tables and the font

-- the halves of a character, where it has some, are no U+034F; where the character is no mark, the first half is none
abbrev pub HalvesKeepMarks : ℕ → Option (ℕ × ℕ) → Type 0
HalvesKeepMarks u None = ⊤
HalvesKeepMarks u (Some (a, b)) = (is_mark_character u ≡ false → is_mark_character a ≡ false) × (((a == 0x34F) ≡ false) × ((b == 0x34F) ≡ false))

-- a character's counterpart in another direction, where it has one, is no U+034F; where the character is no mark, it is
-- none
abbrev pub CounterpartKeepsMarks : ℕ → Option ℕ → Type 0
CounterpartKeepsMarks u None = ⊤
CounterpartKeepsMarks u (Some v) = (is_mark_character u ≡ false → is_mark_character v ≡ false) × ((v == 0x34F) ≡ false)

-- what stands for a character begins with a mark only where the character is one, and is U+034F only where it is that;
-- U+034F is a mark of class 0, and no variation selector changes it
pub record KeepsMarks (k : Normalizer) : Type 0 where
  pub halves : (u : ℕ) → HalvesKeepMarks u (k.splits u)
  pub mirrored : (u : ℕ) → CounterpartKeepsMarks u (counterpart_in k.tables.mirrored u)
  pub vertical : (u : ℕ) → CounterpartKeepsMarks u (counterpart_in k.tables.vertical u)
  pub joiner_is_mark : is_mark_character 0x34F ≡ true
  pub joiner_class : class_of k.tables 0x34F ≡ 0
  pub joiner_stays : (s : ℕ) → k.variant_of 0x34F s ≡ None

-- ---- of orders

-- whether the last of some items is U+034F, by whether the one before them is
abbrev pub last_joined : Bool → List Item → Bool
last_joined before [] = before
last_joined before (x ∷ xs) = last_joined (is_joiner x) xs

-- none of some items is U+034F
abbrev pub AreUnjoined : List Item → Type 0
AreUnjoined [] = Unit {0}
AreUnjoined (x ∷ xs) = (is_joiner x ≡ false) × AreUnjoined xs

-- an order of a run of marks without U+034F ends with none
abbrev pub OrderEndsUnjoined : (List Item → Arrangement) → Type 0
OrderEndsUnjoined reorders = (before : Bool) (run : List Item) → AreUnjoined run → 0 < length run → last_joined before (reorders run).items ≡ false

-- ---- of shapers

-- a shaper leaves texts as they are before they are normalized
abbrev pub PreprocessesNothing : ShaperRules → Type 0
PreprocessesNothing rules = (font : FaceParts) (t : Tables) (settings : TextSettings) → rules.preprocesses font t settings ≡ as_it_is
