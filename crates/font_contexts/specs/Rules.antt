-- Rules by glyphs and by classes, and their sets (OpenType, chapter 2, sequence rule set, chained sequence rule set).
use Rattle.std.specs.Prelude.{ℕ, ◌+◌, nat_lt, Bool, List, [], ◌∷◌, filter, Result, Ok}
use Rattle.font_bytes.specs.declared.fault.TableFault.{TableFault}
use Rattle.font_bytes.specs.Results.{and_then}
use Rattle.font_bytes.specs.Room.{room_after}
use Rattle.font_bytes.specs.Words.{word}
use Rattle.font_bytes.specs.Records.{records}
use Rattle.font_common.specs.Offsets.{after, list_at, value_at_offset}
use Rattle.font_common.specs.Words.{words_at}
use Rattle.layout_common.specs.declared.glyph_row.GlyphRow.{GlyphRow}
use Rattle.layout_tables.specs.declared.context.SequenceLookupRecord.{SequenceLookupRecord}
use Rattle.layout_tables.specs.declared.context.SequenceRule.{SequenceRule}
use Rattle.font_contexts.specs.declared.arrays.ElementArray.{ElementArray}
use Rattle.font_contexts.specs.declared.arrays.RuleArrays.{RuleArrays}
use Rattle.font_contexts.specs.Arrays.{element_count, arrays_at}

-- SequenceLookupRecord: sequenceIndex at 0, lookupListIndex at 2
abbrev pub lookup_record : List ℕ → ℕ → SequenceLookupRecord
lookup_record table at = record { sequence_index = word table at; lookup_index = word table (at + 2) }

-- the records whose lookup exists, in a table of n lookups
abbrev pub known_records : ℕ → List SequenceLookupRecord → List SequenceLookupRecord
known_records lookup_count rs = filter (λ r. nat_lt r.lookup_index lookup_count) rs

-- the lookup records of an array
abbrev pub lookup_records : ℕ → List ℕ → ElementArray → List SequenceLookupRecord
lookup_records lookup_count table a = known_records lookup_count (records (lookup_record table) 4 a.at a.count)

-- the glyphs or classes of an array
abbrev pub words_of : List ℕ → ElementArray → List ℕ
words_of table a = words_at table a.at a.count

-- a rule whose input begins with an item that its table leaves out
abbrev pub rule_of : ℕ → ℕ → List ℕ → RuleArrays → SequenceRule ℕ
rule_of lookup_count first table p = record {
  backtrack = words_of table p.backtrack;
  input = first ∷ words_of table p.input;
  lookahead = words_of table p.lookahead;
  records = lookup_records lookup_count table p.records;
}

-- the rule at an offset, and the room that the elements of its arrays leave
abbrev pub rule_at : Bool → ℕ → ℕ → ℕ → List ℕ → ℕ → Result (SequenceRule ℕ × ℕ) TableFault
rule_at chained lookup_count first room table at =
    and_then (arrays_at chained 1 table at) (λ p. and_then (room_after room (element_count p)) (λ left. Ok (rule_of lookup_count first table p, left)))

-- what a null offset of a rule leads to: a rule of the first item alone, without lookups
abbrev pub empty_rule : ℕ → SequenceRule ℕ
empty_rule first = record { backtrack = []; input = first ∷ []; lookahead = []; records = [] }

-- the rules of a set, whose inputs begin with an item: a count, and that many offsets of rules
abbrev pub rule_set_at : Bool → ℕ → ℕ → ℕ → List ℕ → ℕ → Result (List (SequenceRule ℕ) × ℕ) TableFault
rule_set_at chained lookup_count first room table at = list_at (empty_rule first) (rule_at chained lookup_count first) table at at room

-- the rules of the set at an offset from a base, none where the offset is null
abbrev pub rules_at_offset : Bool → ℕ → List ℕ → ℕ → ℕ → ℕ → ℕ → Result (List (SequenceRule ℕ) × ℕ) TableFault
rules_at_offset chained lookup_count table base first room offset = value_at_offset [] (rule_set_at chained lookup_count first) room table base offset

-- the rules of sets, each with the item with which its inputs begin and its offset, one set after another in the room that
-- those before it leave
abbrev pub rules_of_sets : (ℕ → ℕ → ℕ → Result (List (SequenceRule ℕ) × ℕ) TableFault) → ℕ → List (GlyphRow ℕ) → Result (List (SequenceRule ℕ) × ℕ) TableFault
rules_of_sets read room [] = Ok ([], room)
rules_of_sets read room (s ∷ sets) = and_then (read s.glyph room s.value) (λ a. after a.0 (rules_of_sets read a.1 sets))
