-- The form of a letter between its neighbours (Unicode core specification, 'Arabic' and 'Syriac', joining rules).
use Rattle.std.specs.Prelude.{ℕ, Bool, true, false, if◌then◌else◌}
use Rattle.script_categories.specs.declared.joining_types.hb_arabic_joining_type_t.TheVariants.{U, L, R, D, GroupAlaph, GroupDalathRish, T, X}
use Rattle.script_categories.specs.declared.arabic_action_t.TheConstants as action
use Rattle.script_joining.specs.Types.{JoiningType}

-- a letter of the type joins to the next one
abbrev pub joins_next : JoiningType → Bool
joins_next U = false
joins_next L = true
joins_next R = false
joins_next D = true
joins_next GroupAlaph = false
joins_next GroupDalathRish = false
joins_next T = false
joins_next X = false

-- a letter of the type joins to the previous one
abbrev pub joins_before : JoiningType → Bool
joins_before U = false
joins_before L = false
joins_before R = true
joins_before D = true
joins_before GroupAlaph = true
joins_before GroupDalathRish = true
joins_before T = false
joins_before X = false

-- the form of a dual-joining letter, by whether the previous and the next letter join to it: isol, init, fina or medi
abbrev pub joined_form : Bool → Bool → ℕ
joined_form true true = action.MEDI
joined_form true false = action.FINA
joined_form false true = action.INIT
joined_form false false = action.ISOL

-- the form of Alaph after a letter of the type, where the next letter doesn't join to it
abbrev pub final_alaph : JoiningType → ℕ
final_alaph U = action.ISOL
final_alaph L = action.FINA
final_alaph R = action.FIN2
final_alaph D = action.FINA
final_alaph GroupAlaph = action.FIN2
final_alaph GroupDalathRish = action.FIN3
final_alaph T = action.ISOL
final_alaph X = action.ISOL

-- the form of Alaph where the next letter joins to it
abbrev pub medial_alaph : JoiningType → ℕ
medial_alaph before = if joins_next before then action.MED2 else action.ISOL

-- the form of Alaph, by the type before it and whether the next letter joins to it
abbrev pub alaph_form : JoiningType → Bool → ℕ
alaph_form before true = medial_alaph before
alaph_form before false = final_alaph before

-- the form of a letter, by its own type and those of the nearest letters before and after it; a transparent or
-- non-joining character has none (HarfBuzz: arabic_joining)
abbrev pub letter_form : JoiningType → JoiningType → JoiningType → ℕ
letter_form before U after = action.NONE
letter_form before L after = joined_form false (joins_before after)
letter_form before R after = joined_form (joins_next before) false
letter_form before D after = joined_form (joins_next before) (joins_before after)
letter_form before GroupAlaph after = alaph_form before (joins_before after)
letter_form before GroupDalathRish after = joined_form (joins_next before) false
letter_form before T after = action.NONE
letter_form before X after = action.NONE
