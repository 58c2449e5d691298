-- General categories, by their numbers and in two groups.
use Rattle.std.specs.Prelude.{ℕ, Bool, true, false, ◌≡◌, [], ◌∷◌, slice_index_or}
use Rattle.ucd_category.specs.declared.GeneralCategory.{GeneralCategory}
use Rattle.ucd_category.specs.declared.GeneralCategory.TheVariants.{Control, Format, Unassigned, PrivateUse, Surrogate, LowercaseLetter, ModifierLetter, OtherLetter, TitlecaseLetter, UppercaseLetter, SpacingMark, EnclosingMark, NonspacingMark, DecimalNumber, LetterNumber, OtherNumber, ConnectorPunctuation, DashPunctuation, ClosePunctuation, FinalPunctuation, InitialPunctuation, OtherPunctuation, OpenPunctuation, CurrencySymbol, ModifierSymbol, MathSymbol, OtherSymbol, LineSeparator, ParagraphSeparator, SpaceSeparator}

-- the number of a category: Cc Cf Cn Co Cs Ll Lm Lo Lt Lu Mc Me Mn Nd Nl No Pc Pd Pe Pf Pi Po Ps Sc Sk Sm So Zl Zp Zs
abbrev pub category_number : GeneralCategory → ℕ
category_number Control = 0
category_number Format = 1
category_number Unassigned = 2
category_number PrivateUse = 3
category_number Surrogate = 4
category_number LowercaseLetter = 5
category_number ModifierLetter = 6
category_number OtherLetter = 7
category_number TitlecaseLetter = 8
category_number UppercaseLetter = 9
category_number SpacingMark = 10
category_number EnclosingMark = 11
category_number NonspacingMark = 12
category_number DecimalNumber = 13
category_number LetterNumber = 14
category_number OtherNumber = 15
category_number ConnectorPunctuation = 16
category_number DashPunctuation = 17
category_number ClosePunctuation = 18
category_number FinalPunctuation = 19
category_number InitialPunctuation = 20
category_number OtherPunctuation = 21
category_number OpenPunctuation = 22
category_number CurrencySymbol = 23
category_number ModifierSymbol = 24
category_number MathSymbol = 25
category_number OtherSymbol = 26
category_number LineSeparator = 27
category_number ParagraphSeparator = 28
category_number SpaceSeparator = 29

-- the category of a number, in the same order
abbrev pub category_of_number : ℕ → GeneralCategory
category_of_number n = slice_index_or (Control ∷ Format ∷ Unassigned ∷ PrivateUse ∷ Surrogate ∷ LowercaseLetter ∷ ModifierLetter ∷ OtherLetter ∷ TitlecaseLetter ∷ UppercaseLetter ∷ SpacingMark ∷ EnclosingMark ∷ NonspacingMark ∷ DecimalNumber ∷ LetterNumber ∷ OtherNumber ∷ ConnectorPunctuation ∷ DashPunctuation ∷ ClosePunctuation ∷ FinalPunctuation ∷ InitialPunctuation ∷ OtherPunctuation ∷ OpenPunctuation ∷ CurrencySymbol ∷ ModifierSymbol ∷ MathSymbol ∷ OtherSymbol ∷ LineSeparator ∷ ParagraphSeparator ∷ SpaceSeparator ∷ []) n Unassigned

-- nonspacing, spacing or enclosing marks
abbrev pub is_mark_category : GeneralCategory → Bool
is_mark_category NonspacingMark = true
is_mark_category SpacingMark = true
is_mark_category EnclosingMark = true
is_mark_category _ = false

-- upper case, lower case, title case, modifier and other letters
abbrev pub is_letter_category : GeneralCategory → Bool
is_letter_category UppercaseLetter = true
is_letter_category LowercaseLetter = true
is_letter_category TitlecaseLetter = true
is_letter_category ModifierLetter = true
is_letter_category OtherLetter = true
is_letter_category _ = false

-- the number of each category gives back the category
abbrev pub NumberLeadsBack : Type 0
NumberLeadsBack = (c : GeneralCategory) → category_of_number (category_number c) ≡ c
