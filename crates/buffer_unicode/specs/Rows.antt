-- The rows of each table, as they are parsed from numbers.
use Rattle.std.specs.Prelude.{ℕ, Bool, ◌&&◌, nat_lt, List, slice_index}
use Rattle.buffer_unicode.specs.Numbers.{is_scalar}
use Rattle.buffer_unicode.specs.declared.rows.Split.{Split}
use Rattle.buffer_unicode.specs.declared.rows.Pair.{Pair}
use Rattle.buffer_unicode.specs.declared.rows.CharacterClass.{CharacterClass}
use Rattle.buffer_unicode.specs.declared.rows.Counterpart.{Counterpart}
use Rattle.buffer_unicode.specs.declared.rows.CharacterRange.{CharacterRange}
use Rattle.buffer_unicode.specs.declared.rows.JoiningRow.{JoiningRow}
use Rattle.buffer_unicode.specs.declared.rows.IndicRow.{IndicRow}
use Rattle.buffer_unicode.specs.declared.rows.UniversalRow.{UniversalRow}
use Rattle.buffer_unicode.specs.declared.rows.ThaiRow.{ThaiRow}

-- the canonical decomposition of a row of numbers
abbrev pub split_of_numbers : List ℕ → Split
split_of_numbers ns = record { whole = slice_index ns 0; first = slice_index ns 1; second = slice_index ns 2 }

-- whether the numbers of a decomposition are in range
abbrev pub is_split_in_range : Split → Bool
is_split_in_range r = is_scalar r.whole && is_scalar r.first && is_scalar r.second

-- the composition of a row of numbers
abbrev pub pair_of_numbers : List ℕ → Pair
pair_of_numbers ns = record { first = slice_index ns 0; second = slice_index ns 1; whole = slice_index ns 2 }

-- whether the numbers of a composition are in range
abbrev pub is_pair_in_range : Pair → Bool
is_pair_in_range r = is_scalar r.first && is_scalar r.second && is_scalar r.whole

-- the combining class of a row of numbers
abbrev pub character_class_of_numbers : List ℕ → CharacterClass
character_class_of_numbers ns = record { character = slice_index ns 0; class = slice_index ns 1 }

-- whether the numbers of a combining class are in range
abbrev pub is_character_class_in_range : CharacterClass → Bool
is_character_class_in_range r = is_scalar r.character && nat_lt r.class 256

-- the counterpart of a row of numbers
abbrev pub counterpart_of_numbers : List ℕ → Counterpart
counterpart_of_numbers ns = record { character = slice_index ns 0; counterpart = slice_index ns 1 }

-- whether the numbers of a counterpart are in range
abbrev pub is_counterpart_in_range : Counterpart → Bool
is_counterpart_in_range r = is_scalar r.character && is_scalar r.counterpart

-- the range of a row of numbers
abbrev pub character_range_of_numbers : List ℕ → CharacterRange
character_range_of_numbers ns = record { first = slice_index ns 0; last = slice_index ns 1 }

-- whether the numbers of a range are in range
abbrev pub is_character_range_in_range : CharacterRange → Bool
is_character_range_in_range r = is_scalar r.first && is_scalar r.last

-- the joining type of a row of numbers
abbrev pub joining_row_of_numbers : List ℕ → JoiningRow
joining_row_of_numbers ns = record { character = slice_index ns 0; joining_type = slice_index ns 1 }

-- whether the numbers of a joining type are in range
abbrev pub is_joining_row_in_range : JoiningRow → Bool
is_joining_row_in_range r = is_scalar r.character && nat_lt r.joining_type 7

-- the Indic categories of a row of numbers
abbrev pub indic_row_of_numbers : List ℕ → IndicRow
indic_row_of_numbers ns = record { character = slice_index ns 0; category = slice_index ns 1; position = slice_index ns 2 }

-- whether the numbers of Indic categories are in range
abbrev pub is_indic_row_in_range : IndicRow → Bool
is_indic_row_in_range r = is_scalar r.character && nat_lt r.category 35 && nat_lt r.position 15

-- the universal shaper's category of a row of numbers
abbrev pub universal_row_of_numbers : List ℕ → UniversalRow
universal_row_of_numbers ns = record { character = slice_index ns 0; category = slice_index ns 1 }

-- whether the numbers of a universal category are in range
abbrev pub is_universal_row_in_range : UniversalRow → Bool
is_universal_row_in_range r = is_scalar r.character && nat_lt r.category 45

-- the Thai action of a row of numbers
abbrev pub thai_row_of_numbers : List ℕ → ThaiRow
thai_row_of_numbers ns = record { character = slice_index ns 0; action = slice_index ns 1; first = slice_index ns 2; second = slice_index ns 3 }

-- whether the numbers of a Thai action are in range
abbrev pub is_thai_row_in_range : ThaiRow → Bool
is_thai_row_in_range r = is_scalar r.character && nat_lt r.action 4 && is_scalar r.first && is_scalar r.second
