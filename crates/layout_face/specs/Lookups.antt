-- Lookup tables (OpenType, chapter 2).
use Rattle.std.specs.Prelude.{ℕ, ◌+◌, ◌*◌, ◌==◌, Bool, true, false, if◌then◌else◌, Option, bit_and}
use Rattle.std.specs.List.{list_any}
use Rattle.std.specs.Option.{option_map_or}
use Rattle.layout_tables.specs.Covers.{covers_context, covers_entry, covers_first_component, covers_first_of_pair, covers_sequence, covers_value}
use Rattle.layout_face.specs.declared.positioning.PositioningSubtables.{PositioningSubtables}
use Rattle.layout_face.specs.declared.positioning.PositioningSubtables.TheVariants as Positions
use Rattle.layout_face.specs.declared.substitution.SubstitutionSubtables.{SubstitutionSubtables}
use Rattle.layout_face.specs.declared.substitution.SubstitutionSubtables.TheVariants.{Single, Multiple, Alternate, Ligature, Context, ChainContext, ReverseChainSingle}

-- the lookup flag, and in the high 16 bits the index of the mark filtering set where bit 4 of the flag requires one:
-- 65535 where the lookup names none
abbrev pub props_of : ℕ → Option ℕ → ℕ
props_of flags set = if bit_and flags 16 == 0 then flags else flags + option_map_or (λ s. s) set 65535 * 65536

-- whether a lookup is applied from the end of the text: reverse chaining substitution
abbrev pub is_reverse : SubstitutionSubtables → Bool
is_reverse (ReverseChainSingle subtables) = true
is_reverse (Single subtables) = false
is_reverse (Multiple subtables) = false
is_reverse (Alternate subtables) = false
is_reverse (Ligature subtables) = false
is_reverse (Context subtables) = false
is_reverse (ChainContext subtables) = false

-- whether one of a substitution lookup's subtables can act at a glyph
abbrev pub substitution_covers : SubstitutionSubtables → ℕ → Bool
substitution_covers (Single subtables) g = list_any (λ s. covers_value s.rows g) subtables
substitution_covers (Multiple subtables) g = list_any (λ s. covers_sequence s.rows g) subtables
substitution_covers (Alternate subtables) g = list_any (λ s. covers_sequence s.rows g) subtables
substitution_covers (Ligature subtables) g = list_any (λ s. covers_first_component s g) subtables
substitution_covers (Context subtables) g = list_any (λ s. covers_context s g) subtables
substitution_covers (ChainContext subtables) g = list_any (λ s. covers_context s g) subtables
substitution_covers (ReverseChainSingle subtables) g = list_any (λ s. covers_value s.rows g) subtables

-- whether one of a positioning lookup's subtables can act at a glyph
abbrev pub positioning_covers : PositioningSubtables → ℕ → Bool
positioning_covers (Positions.Single subtables) g = list_any (λ s. covers_value s.rows g) subtables
positioning_covers (Positions.Pair subtables) g = list_any (λ s. covers_first_of_pair s g) subtables
positioning_covers (Positions.Cursive subtables) g = list_any (λ s. covers_entry s.rows g) subtables
positioning_covers (Positions.MarkToBase subtables) g = list_any (λ s. covers_value s.marks g) subtables
positioning_covers (Positions.MarkToLigature subtables) g = list_any (λ s. covers_value s.marks g) subtables
positioning_covers (Positions.MarkToMark subtables) g = list_any (λ s. covers_value s.marks g) subtables
positioning_covers (Positions.Context subtables) g = list_any (λ s. covers_context s g) subtables
positioning_covers (Positions.ChainContext subtables) g = list_any (λ s. covers_context s g) subtables
