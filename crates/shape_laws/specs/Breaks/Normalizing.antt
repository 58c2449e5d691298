-- Where two texts, one after the other, are normalized each by itself.
use Rattle.std.specs.Prelude.{◌≡◌, ◌==◌, Bool, false, List, [], ◌∷◌, ◌++◌}
use Rattle.buffer_glyphs.specs.Items.{Item}
use Rattle.buffer_properties.specs.Characters.{is_mark}
use Rattle.buffer_properties.specs.Expanding.{expanded_list}
use Rattle.buffer_properties.specs.NormalizedList.{has_later_mark, ordering_if}
use Rattle.buffer_properties.specs.Normalizer.{Normalizer}

-- U+034F COMBINING GRAPHEME JOINER
abbrev pub is_joiner : Item → Bool
is_joiner x = x.number == 0x34F

-- a text begins with a character that is no mark and no grapheme joiner
abbrev pub BeginsAlone : List Item → Type 0
BeginsAlone [] = ⊥
BeginsAlone (y ∷ ys) = (is_mark y ≡ false) × (is_joiner y ≡ false)

-- a text doesn't end with a grapheme joiner
abbrev pub EndsUnjoined : List Item → Type 0
EndsUnjoined [] = Unit {0}
EndsUnjoined (x ∷ []) = is_joiner x ≡ false
EndsUnjoined (x ∷ y ∷ ys) = EndsUnjoined (y ∷ ys)

-- the later text begins with a character of its own, also once it is expanded; no grapheme joiner is directly before it;
-- and both texts have a mark after their first character, or neither has one, nor the whole
pub record AreNormalizedApart (c : Normalizer) (earlier later : List Item) : Type 0 where
  pub begins : BeginsAlone later
  pub expanded : BeginsAlone (expanded_list c later).items
  pub early_marks : has_later_mark earlier ≡ has_later_mark (earlier ++ later)
  pub late_marks : has_later_mark later ≡ has_later_mark (earlier ++ later)
  pub ends : EndsUnjoined (ordering_if (has_later_mark (earlier ++ later)) c (expanded_list c earlier).items).items
