-- Numbers of categories fit their bits.
use Rattle.std.proofs.Common.{◌≡◌, ◌<◌, ◌%◌, refl, arith}
use Rattle.ucd_category.specs.declared.GeneralCategory.{GeneralCategory}
use Rattle.ucd_category.specs.declared.GeneralCategory.TheVariants.{Control, Format, Unassigned, PrivateUse, Surrogate, LowercaseLetter, ModifierLetter, OtherLetter, TitlecaseLetter, UppercaseLetter, SpacingMark, EnclosingMark, NonspacingMark, DecimalNumber, LetterNumber, OtherNumber, ConnectorPunctuation, DashPunctuation, ClosePunctuation, FinalPunctuation, InitialPunctuation, OtherPunctuation, OpenPunctuation, CurrencySymbol, ModifierSymbol, MathSymbol, OtherSymbol, LineSeparator, ParagraphSeparator, SpaceSeparator}
use Rattle.buffer_unicode.specs.Category.{category_number}

pub number_fits : (g : GeneralCategory) → category_number g % 32 ≡ category_number g
number_fits Control = refl
number_fits Format = refl
number_fits Unassigned = refl
number_fits PrivateUse = refl
number_fits Surrogate = refl
number_fits LowercaseLetter = refl
number_fits ModifierLetter = refl
number_fits OtherLetter = refl
number_fits TitlecaseLetter = refl
number_fits UppercaseLetter = refl
number_fits SpacingMark = refl
number_fits EnclosingMark = refl
number_fits NonspacingMark = refl
number_fits DecimalNumber = refl
number_fits LetterNumber = refl
number_fits OtherNumber = refl
number_fits ConnectorPunctuation = refl
number_fits DashPunctuation = refl
number_fits ClosePunctuation = refl
number_fits FinalPunctuation = refl
number_fits InitialPunctuation = refl
number_fits OtherPunctuation = refl
number_fits OpenPunctuation = refl
number_fits CurrencySymbol = refl
number_fits ModifierSymbol = refl
number_fits MathSymbol = refl
number_fits OtherSymbol = refl
number_fits LineSeparator = refl
number_fits ParagraphSeparator = refl
number_fits SpaceSeparator = refl

pub category_fits : (g : GeneralCategory) → category_number g < 32
category_fits g = let e = number_fits g in omega (arith, e)
