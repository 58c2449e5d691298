-- Ranges of characters that may overlap.
use Rattle.std.specs.Prelude.{ℕ, Bool, true, ◌&&◌, nat_le, max, List, [], ◌∷◌}
use Rattle.std.specs.List.{list_any}
use Rattle.buffer_unicode.specs.declared.rows.CharacterRange.{CharacterRange}

-- whether a range has a character
abbrev pub has_character : ℕ → CharacterRange → Bool
has_character c r = nat_le r.first c && nat_le c r.last

-- whether one of the ranges has a character
abbrev pub is_in_ranges : List CharacterRange → ℕ → Bool
is_in_ranges rows c = list_any (has_character c) rows

-- ranges of which each reaches as far as any before it
abbrev pub widened_ranges : ℕ → List CharacterRange → List CharacterRange
widened_ranges reach [] = []
widened_ranges reach (r ∷ rs) = record r { last = max reach r.last } ∷ widened_ranges (max reach r.last) rs

-- whether the ends of ranges never decrease, from some end on
abbrev pub ends_rise : ℕ → List CharacterRange → Bool
ends_rise end [] = true
ends_rise end (r ∷ rs) = nat_le end r.last && ends_rise r.last rs
