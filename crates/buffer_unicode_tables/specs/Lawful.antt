-- Tables under which equivalent texts have the same class order.
use Rattle.std.specs.Prelude.{ℕ, ◌≡◌, ◌≢◌, ◌<◌, ◌++◌, true, false, Some, None}
use Rattle.unicode.specs.GeneralCategory.{general_category}
use Rattle.buffer_unicode.specs.Category.{is_mark_category}
use Rattle.buffer_unicode_tables.specs.Tables.{Tables, split_of, pair_of, class_of}
use Rattle.buffer_unicode_tables.specs.Texts.{full_expansion, text_order}
use Rattle.buffer_unicode_tables.specs.declared.law_fault.LawFault.{LawFault}
use Rattle.buffer_unicode_tables.specs.declared.law_fault.LawFault.TheVariants.{SecondPartSplits, PairNotEquivalent, ClassOnNonMark, SplitLosesClass, AsciiMark}

-- the second half of a decomposition doesn't decompose
abbrev pub SecondHalvesStay : Tables → Type 0
SecondHalvesStay t = (u a b : ℕ) → split_of t u ≡ Some (a, b) → b ≢ 0 → split_of t b ≡ None

-- the full expansion of a composite has the class order of that of its pair
abbrev pub PairsAreEquivalent : Tables → Type 0
PairsAreEquivalent t = (a b u : ℕ) → pair_of t a b ≡ Some u → text_order t (full_expansion t u) ≡ text_order t (full_expansion t a ++ full_expansion t b)

-- each character of nonzero class is a combining mark
abbrev pub ClassesAreOfMarks : Tables → Type 0
ClassesAreOfMarks t = (u : ℕ) → class_of t u ≢ 0 → is_mark_category (general_category u) ≡ true

-- the halves of a character of nonzero class have its class
abbrev pub SplitsKeepClass : Tables → Type 0
SplitsKeepClass t = (u a b : ℕ) → split_of t u ≡ Some (a, b) → class_of t u ≢ 0 → (class_of t a ≡ class_of t u) × (b ≢ 0 → class_of t b ≡ class_of t u)

-- no character below U+0080 is a combining mark
abbrev pub AsciiHasNoMarks : Type 0
AsciiHasNoMarks = (u : ℕ) → u < 0x80 → is_mark_category (general_category u) ≡ false

-- tables are lawful
pub record IsLawful (t : Tables) : Type 0 where
  pub second_pieces_stay : SecondHalvesStay t
  pub pairs_are_equivalent : PairsAreEquivalent t
  pub classes_are_of_marks : ClassesAreOfMarks t
  pub splits_keep_class : SplitsKeepClass t
  pub ascii_has_no_marks : AsciiHasNoMarks

-- the tables have this fault, and none before it
abbrev pub IsFirstFault : Tables → LawFault → Type 0
IsFirstFault t SecondPartSplits = ¬ SecondHalvesStay t
IsFirstFault t PairNotEquivalent = SecondHalvesStay t × (¬ PairsAreEquivalent t)
IsFirstFault t ClassOnNonMark = SecondHalvesStay t × PairsAreEquivalent t × (¬ ClassesAreOfMarks t)
IsFirstFault t SplitLosesClass = SecondHalvesStay t × PairsAreEquivalent t × ClassesAreOfMarks t × (¬ SplitsKeepClass t)
IsFirstFault t AsciiMark = SecondHalvesStay t × PairsAreEquivalent t × ClassesAreOfMarks t × SplitsKeepClass t × (¬ AsciiHasNoMarks)
