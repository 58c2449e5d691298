-- The general categories that the stages test, from an item's property word.
use Rattle.std.specs.Prelude.{◌==◌, Bool, List, [], ◌∷◌}
use Rattle.std.specs.List.{list_any}
use Rattle.ucd_category.specs.declared.GeneralCategory.{GeneralCategory}
use Rattle.ucd_category.specs.declared.GeneralCategory.TheVariants.{LowercaseLetter, ModifierLetter, OtherLetter, TitlecaseLetter, UppercaseLetter, NonspacingMark, DecimalNumber}
use Rattle.buffer_unicode.specs.Category.{category_number}
use Rattle.buffer_properties.specs.Characters.{category_of}
use Rattle.buffer_glyphs.specs.Items.{Item}

-- whether an item is of a general category
abbrev pub has_category : GeneralCategory → Item → Bool
has_category c x = category_of x == category_number c

-- the general categories of letters (L*)
abbrev pub letters : List GeneralCategory
letters = UppercaseLetter ∷ LowercaseLetter ∷ TitlecaseLetter ∷ ModifierLetter ∷ OtherLetter ∷ []

-- whether an item is a letter
abbrev pub is_letter : Item → Bool
is_letter x = list_any (λ c. has_category c x) letters

-- whether an item is a decimal number (Nd)
abbrev pub is_decimal_number : Item → Bool
is_decimal_number x = has_category DecimalNumber x

-- whether an item is a non-spacing mark (Mn)
abbrev pub is_nonspacing_mark : Item → Bool
is_nonspacing_mark x = has_category NonspacingMark x
