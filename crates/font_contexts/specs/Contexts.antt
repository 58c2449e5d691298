-- Sequence contexts and chained sequence contexts (OpenType, chapter 2, formats 1 to 3; GSUB lookup types 5 and 6, GPOS lookup
-- types 7 and 8).
use Rattle.std.specs.Prelude.{ℕ, ◌+◌, ◌==◌, Bool, if◌then◌else◌, List, [], ◌∷◌, None, Some, Option, length, Result, Ok}
use Rattle.std.specs.Ordering.{nat_cmp}
use Rattle.font_bytes.specs.declared.fault.TableFault.{TableFault}
use Rattle.font_bytes.specs.Results.{and_then}
use Rattle.font_bytes.specs.Room.{room_after}
use Rattle.font_bytes.specs.Words.{need, word}
use Rattle.font_common.specs.ClassDefinition.{class_definition_at}
use Rattle.font_common.specs.Coverage.{coverage_at, glyphs_in_room, glyph_run}
use Rattle.font_common.specs.Offsets.{tables_at, value_at_offset}
use Rattle.font_common.specs.Rows.{covered_rows, first_rows, word_row}
use Rattle.layout_common.specs.declared.class_definition.ClassDefinition.{ClassDefinition}
use Rattle.layout_common.specs.declared.glyph_row.GlyphRow.{GlyphRow}
use Rattle.layout_tables.specs.declared.context.ContextSubtable.{ContextSubtable}
use Rattle.layout_tables.specs.declared.context.ContextSubtable.TheVariants.{Glyphs, Classes, Coverage}
use Rattle.layout_tables.specs.declared.context.SequenceRule.{SequenceRule}
use Rattle.font_contexts.specs.declared.arrays.ElementArray.{ElementArray}
use Rattle.font_contexts.specs.declared.arrays.RuleArrays.{RuleArrays}
use Rattle.font_contexts.specs.declared.classes.ClassMaps.{ClassMaps}
use Rattle.font_contexts.specs.Arrays.{counted_array, arrays_at}
use Rattle.font_contexts.specs.Rules.{lookup_records, rules_at_offset, rules_of_sets, words_of}

-- ---- format 1

-- the sets of glyphs, each with its offset: the set with a coverage index is that of the glyph with the index, and a
-- repeated glyph has its first set
abbrev pub glyph_sets : List ℕ → List ℕ → ElementArray → List (GlyphRow ℕ)
glyph_sets glyphs table sets = first_rows nat_cmp (λ s. s.glyph) None (covered_rows word_row glyphs (words_of table sets))

-- format 1: coverageOffset at 2, seqRuleSetCount at 4, seqRuleSetOffsets at 6. A set takes a row of room, and a glyph
abbrev pub glyph_rules_at : Bool → ℕ → ℕ → List ℕ → ℕ → Result (List (SequenceRule ℕ) × ℕ) TableFault
glyph_rules_at chained lookup_count room table at = and_then (need table at 4) (λ _. and_then (counted_array 2 0 table (at + 4))
    (λ sets. and_then (room_after room sets.count) (λ left. and_then (glyphs_in_room left table at (word table (at + 2)))
    (λ c. rules_of_sets (rules_at_offset chained lookup_count table at) c.1 (glyph_sets c.0 table sets)))))

-- ---- format 2

-- the sets of classes from 0 on, each with its offset
abbrev pub class_sets : List ℕ → ElementArray → List (GlyphRow ℕ)
class_sets table sets = covered_rows word_row (glyph_run 0 sets.count) (words_of table sets)

-- an array of the offsets of the sets of classes. A set takes a row of room
abbrev pub class_rules_at : Bool → ℕ → List ℕ → ℕ → ℕ → ℕ → Result (List (SequenceRule ℕ) × ℕ) TableFault
class_rules_at chained lookup_count table base at room = and_then (counted_array 2 0 table at) (λ sets. and_then (room_after room sets.count)
    (λ left. rules_of_sets (rules_at_offset chained lookup_count table base) left (class_sets table sets)))

-- the classes of the class definition table whose offset stands at an offset, class 0 for each glyph where it is null
abbrev pub classes_of : ℕ → List ℕ → ℕ → ℕ → Result (ClassDefinition × ℕ) TableFault
classes_of room table base at = value_at_offset (record { rows = [] }) class_definition_at room table base (word table at)

-- the classes of a context's input: classDefOffset at 4
abbrev pub plain_maps : ℕ → List ℕ → ℕ → Result (ClassMaps × ℕ) TableFault
plain_maps room table at = and_then (classes_of room table at (at + 4))
    (λ input. Ok (record { backtrack = record { rows = [] }; input = input.0; lookahead = record { rows = [] } }, input.1))

-- the classes of a chained context's sequences: backtrackClassDefOffset at 4, inputClassDefOffset at 6,
-- lookaheadClassDefOffset at 8
abbrev pub chained_maps : ℕ → List ℕ → ℕ → Result (ClassMaps × ℕ) TableFault
chained_maps room table at = and_then (classes_of room table at (at + 4))
    (λ backtrack. and_then (classes_of backtrack.1 table at (at + 6)) (λ input. and_then (classes_of input.1 table at (at + 8))
    (λ lookahead. Ok (record { backtrack = backtrack.0; input = input.0; lookahead = lookahead.0 }, lookahead.1))))

-- where the count of the sets stands
abbrev pub sets_offset : Bool → ℕ → ℕ
sets_offset chained at = if chained then at + 10 else at + 6

-- the classes of the sequences
abbrev pub class_maps_at : Bool → ℕ → List ℕ → ℕ → Result (ClassMaps × ℕ) TableFault
class_maps_at chained room table at = if chained then chained_maps room table at else plain_maps room table at

-- the coverage of the first glyphs: coverageOffset at 2
abbrev pub first_coverage : ℕ → List ℕ → ℕ → Result (List ℕ × ℕ) TableFault
first_coverage room table at = value_at_offset [] coverage_at room table at (word table (at + 2))

-- a subtable by classes
abbrev pub by_classes : List ℕ → ClassMaps → List (SequenceRule ℕ) → ContextSubtable
by_classes first maps rules = Classes (record { first = first; backtrack = maps.backtrack; input = maps.input; lookahead = maps.lookahead; rules = rules })

-- format 2: coverageOffset at 2, class definitions, the sets of rules by the class of the first glyph
abbrev pub class_context_at : Bool → ℕ → ℕ → List ℕ → ℕ → Result (ContextSubtable × ℕ) TableFault
class_context_at chained lookup_count room table at = and_then (need table at (if chained then 10 else 6))
    (λ _. and_then (class_maps_at chained room table at) (λ maps. and_then (first_coverage maps.1 table at)
    (λ first. and_then (class_rules_at chained lookup_count table at (sets_offset chained at) first.1)
    (λ rules. Ok (by_classes first.0 maps.0 rules.0, rules.1)))))

-- ---- format 3

-- the coverages of an array of offsets
abbrev pub coverages_of : List ℕ → ℕ → ElementArray → ℕ → Result (List (List ℕ) × ℕ) TableFault
coverages_of table base a room = tables_at [] coverage_at table base a.at a.count room

-- the rule of format 3, by its arrays
abbrev pub coverage_rule : ℕ → List ℕ → ℕ → RuleArrays → ℕ → Result (SequenceRule (List ℕ) × ℕ) TableFault
coverage_rule lookup_count table base p room = and_then (room_after room p.records.count) (λ left. and_then (coverages_of table base p.backtrack left)
    (λ backtrack. and_then (coverages_of table base p.input backtrack.1) (λ input. and_then (coverages_of table base p.lookahead input.1)
    (λ lookahead. Ok (
      record {
        backtrack = backtrack.0;
        input = input.0;
        lookahead = lookahead.0;
        records = lookup_records lookup_count table p.records;
      },
      lookahead.1,
    )))))

-- format 3: one rule, and none where there is no input; its arrays from 2 on
abbrev pub coverage_context_at : Bool → ℕ → ℕ → List ℕ → ℕ → Result (List (SequenceRule (List ℕ)) × ℕ) TableFault
coverage_context_at chained lookup_count room table at = and_then (arrays_at chained 0 table (at + 2))
    (λ p. if p.input.count == 0 then Ok ([], room) else and_then (coverage_rule lookup_count table at p room) (λ r. Ok (r.0 ∷ [], r.1)))

-- ---- all

-- a subtable that was read
abbrev pub read_subtable : {A : Type 0} → (A → ContextSubtable) → Result (A × ℕ) TableFault → Result (Option ContextSubtable × ℕ) TableFault
read_subtable form x = and_then x (λ a. Ok (Some (form a.0), a.1))

-- the subtable of a format; none of an unknown format
abbrev pub context_of_format : Bool → ℕ → ℕ → List ℕ → ℕ → ℕ → Result (Option ContextSubtable × ℕ) TableFault
context_of_format chained lookup_count room table at format =
    if format == 1 then read_subtable Glyphs (glyph_rules_at chained lookup_count room table at)
    else (if format == 2 then read_subtable (λ s. s) (class_context_at chained lookup_count room table at)
    else (if format == 3 then read_subtable Coverage (coverage_context_at chained lookup_count room table at)
    else Ok (None, room)))

-- the context or chained context at an offset, in a table of n lookups
abbrev pub context_at : Bool → ℕ → ℕ → List ℕ → ℕ → Result (Option ContextSubtable × ℕ) TableFault
context_at chained lookup_count room table at = and_then (need table at 2) (λ _. context_of_format chained lookup_count room table at (word table at))
