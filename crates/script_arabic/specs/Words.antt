-- The words that tiles are laid over (OpenType specification, feature stch).
use Rattle.std.specs.Prelude.{ℕ, ◌==◌, ◌||◌, Bool, List, [], ◌∷◌}
use Rattle.std.specs.List.{list_any}
use Rattle.ucd_category.specs.declared.GeneralCategory.{GeneralCategory}
use Rattle.ucd_category.specs.declared.GeneralCategory.TheVariants.{Unassigned, PrivateUse, ModifierLetter, OtherLetter, SpacingMark, EnclosingMark, NonspacingMark, DecimalNumber, LetterNumber, OtherNumber, CurrencySymbol, ModifierSymbol, MathSymbol, OtherSymbol}
use Rattle.buffer_unicode.specs.Category.{category_number}
use Rattle.buffer_properties.specs.Characters.{category_of}
use Rattle.buffer_glyphs.specs.Items.{Item}
use Rattle.buffer_glyphs.specs.PropertyWords.{is_default_ignorable}

-- the general categories of words: letters without case, marks, numbers, symbols, and unassigned and private-use
-- characters
abbrev pub word_categories : List GeneralCategory
word_categories =
    Unassigned ∷ PrivateUse ∷ ModifierLetter ∷ OtherLetter ∷ SpacingMark ∷ EnclosingMark ∷ NonspacingMark ∷ DecimalNumber ∷ LetterNumber ∷ OtherNumber
    ∷ CurrencySymbol ∷ ModifierSymbol ∷ MathSymbol ∷ OtherSymbol ∷ []

-- a general category is one of words (HarfBuzz: HB_ARABIC_GENERAL_CATEGORY_IS_WORD)
abbrev pub is_word_category : ℕ → Bool
is_word_category n = list_any (λ c. n == category_number c) word_categories

-- an item's general category is one of words
abbrev pub has_word_category : Item → Bool
has_word_category x = is_word_category (category_of x)

-- an item belongs to a word: it is a default ignorable or of such a category
abbrev pub is_of_word : Item → Bool
is_of_word x = is_default_ignorable x || has_word_category x
