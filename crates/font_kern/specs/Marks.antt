-- Marks that lose their positions where a font without GPOS gets one.
use Rattle.std.specs.Prelude.{ℕ, ◌&&◌, Bool, true, false, not, List, [], ◌∷◌}
use Rattle.std.specs.List.{list_any}
use Rattle.ucd_category.specs.declared.GeneralCategory.{GeneralCategory}
use Rattle.ucd_category.specs.declared.GeneralCategory.TheVariants.{NonspacingMark}
use Rattle.unicode.specs.GeneralCategory.{general_category}
use Rattle.buffer_unicode.specs.Character.{is_in_range, is_variation_selector_character}
use Rattle.layout_face.specs.declared.parts.CharacterRow.{CharacterRow}

-- the blocks of combining diacritical marks: the first one, those of Cyrillic, extended, supplement, for symbols, half marks, and the
-- two marks of kana. Theirs mostly compose with their letters
abbrev pub mark_ranges : List (ℕ × ℕ)
mark_ranges = (0x300, 0x36F) ∷ (0x483, 0x489) ∷ (0x1AB0, 0x1AFF) ∷ (0x1DC0, 0x1DFF) ∷ (0x20D0, 0x20FF) ∷ (0xFE20, 0xFE2F) ∷ (0x3099, 0x309A) ∷ []

-- Mn: a nonspacing mark (UAX 44)
abbrev pub is_nonspacing : GeneralCategory → Bool
is_nonspacing NonspacingMark = true
is_nonspacing _ = false

-- a nonspacing mark of another block, as an Arabic vowel, that is no variation selector
abbrev pub is_other_mark : ℕ → Bool
is_other_mark c = is_nonspacing (general_category c) && not (list_any (is_in_range c) mark_ranges) && not (is_variation_selector_character c)

-- whether a font has such a mark: where it has no GPOS a shaper positions its marks by their boxes, and with one it would not
abbrev pub loses_marks : List CharacterRow → Bool
loses_marks characters = list_any (λ r. is_other_mark r.character) characters
