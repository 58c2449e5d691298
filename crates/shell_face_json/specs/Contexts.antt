-- Contexts and chained contexts.
use Rattle.std.specs.Prelude.{ℕ, if◌then◌else◌, List, [], codes, Option, Some, None, Result, Ok, Err, ⊤}
use Rattle.std.specs.Str.{bytes_eq}
use Rattle.std.specs.Option.{ok_or}
use Rattle.serde_json.specs.Data.{Data}
use Rattle.serde_json.specs.Find.{get, as_str}
use Rattle.shell_json.specs.declared.fault.JsonFault.{JsonFault}
use Rattle.shell_json.specs.declared.fault.JsonFault.TheVariants.{WrongShape, UnknownName}
use Rattle.shell_json.specs.Cell.{and_then}
use Rattle.shell_face_json.specs.Lists.{number_below, is_object, value_list, rows_at, rows_in_turn}
use Rattle.shell_face_json.specs.Row.{row_of_two, row_of_three, row_of_four}
use Rattle.layout_common.specs.declared.class_definition.ClassDefinition.{ClassDefinition}
use Rattle.layout_tables.specs.declared.context.SequenceLookupRecord.{SequenceLookupRecord}
use Rattle.layout_tables.specs.declared.context.SequenceRule.{SequenceRule}
use Rattle.layout_tables.specs.declared.context.ClassRules.{ClassRules}
use Rattle.layout_tables.specs.declared.context.ContextSubtable.{ContextSubtable}
use Rattle.layout_tables.specs.declared.context.ContextSubtable.TheVariants as Rules
use Rattle.shell_face_json.specs.declared.contexts.ContextFormat.{ContextFormat}
use Rattle.shell_face_json.specs.declared.contexts.ContextFormat.TheVariants.{Glyphs, Classes, Coverage}
use Rattle.shell_face_json.specs.Glyphs.{coverage, coverage_at, class_definition}

-- a sequence lookup record: an index in the input sequence, and the lookup to apply there
abbrev pub lookup_record : ℕ → Data → Result SequenceLookupRecord JsonFault
lookup_record limit d =
    and_then (row_of_two (number_below limit) (number_below limit) d) (λ p. Ok (record { sequence_index = p.0; lookup_index = p.1.0 }))

-- a rule: backtrack sequence (the nearest first), input, lookahead, and lookup records
abbrev pub rule : {I : Type 0} → (Data → Result I JsonFault) → (Data → Result SequenceLookupRecord JsonFault) → Data → Result (SequenceRule I) JsonFault
rule item lookup d =
    and_then (row_of_four (value_list item) (value_list item) (value_list item) (value_list lookup) d) (λ p.
    Ok (record { backtrack = p.0; input = p.1.0; lookahead = p.1.1.0; records = p.1.1.1.0 }))

-- the rules of a subtable, in turn
abbrev pub rules : {I : Type 0} → ℕ → (Data → Result I JsonFault) → Data → Result (List (SequenceRule I)) JsonFault
rules limit item d = rows_at (codes "rules") (rows_in_turn (rule item (lookup_record limit))) d

-- ---- formats

-- the context format of a name
abbrev pub format_of : List ℕ → Result ContextFormat JsonFault
format_of name =
    if bytes_eq name (codes "glyphs") then Ok Glyphs
    else if bytes_eq name (codes "classes") then Ok Classes
    else if bytes_eq name (codes "coverage") then Ok Coverage
    else Err UnknownName

-- the context format of a subtable's key
abbrev pub format_in : Option Data → Result ContextFormat JsonFault
format_in None = Err WrongShape
format_in (Some d) = and_then (ok_or (as_str d) WrongShape) format_of

-- a class definition without classes
abbrev pub no_classes : ClassDefinition
no_classes = record { rows = [] }

-- the class definitions of backtrack, input and lookahead, empty where the key is missing
abbrev pub class_maps : ℕ → Option Data → Result (ClassDefinition × (ClassDefinition × (ClassDefinition × ⊤))) JsonFault
class_maps limit None = Ok (no_classes, (no_classes, (no_classes, tt)))
class_maps limit (Some d) = row_of_three (class_definition limit) (class_definition limit) (class_definition limit) d

-- the keys of class-based rules in the order of their faults (OpenType, chained context format 2)
abbrev pub class_rules : ℕ → Data → Result ClassRules JsonFault
class_rules limit d =
    and_then (class_maps limit (get (codes "classes") d)) (λ maps.
    and_then (coverage_at limit (codes "first") d) (λ first.
    and_then (rules limit (number_below limit) d) (λ by_class.
    Ok (record { first = first; backtrack = maps.0; input = maps.1.0; lookahead = maps.1.1.0; rules = by_class }))))

-- the rules of a subtable of a format
abbrev pub rules_in : ContextFormat → ℕ → Data → Result ContextSubtable JsonFault
rules_in Glyphs limit d = and_then (rules limit (number_below limit) d) (λ rs. Ok (Rules.Glyphs rs))
rules_in Classes limit d = and_then (class_rules limit d) (λ rs. Ok (Rules.Classes rs))
rules_in Coverage limit d = and_then (rules limit (coverage limit) d) (λ rs. Ok (Rules.Coverage rs))

-- a context subtable: its format, then the keys of that format
abbrev pub context : ℕ → Data → Result ContextSubtable JsonFault
context limit d = and_then (is_object d) (λ _. and_then (format_in (get (codes "format") d)) (λ format. rules_in format limit d))
