-- Contexts and chained contexts (OpenType, chapter 2, formats 1 to 3).
use Rattle.std.specs.Prelude.{ℕ, List, [], ◌∷◌, codes}
use Rattle.serde_json.specs.Data.{Data, string, object, member, no_members}
use Rattle.layout_tables.specs.declared.context.SequenceLookupRecord.{SequenceLookupRecord}
use Rattle.layout_tables.specs.declared.context.SequenceRule.{SequenceRule}
use Rattle.layout_tables.specs.declared.context.ClassRules.{ClassRules}
use Rattle.layout_tables.specs.declared.context.ContextSubtable.{ContextSubtable}
use Rattle.layout_tables.specs.declared.context.ContextSubtable.TheVariants.{Glyphs, Classes, Coverage}
use Rattle.shell_print_json.specs.Values.{natural, row, list_of}
use Rattle.shell_face_print.specs.Rows.{coverage_json, class_definition_json}

-- a sequence lookup record: an index in the input sequence, and the lookup to apply there
abbrev pub lookup_record_json : SequenceLookupRecord → Data
lookup_record_json r = row (natural r.sequence_index ∷ natural r.lookup_index ∷ [])

-- a rule: backtrack sequence (the nearest first), input, lookahead, and lookup records
abbrev pub rule_json : {I : Type 0} → (I → Data) → SequenceRule I → Data
rule_json item r = row (list_of item r.backtrack ∷ list_of item r.input ∷ list_of item r.lookahead ∷ list_of lookup_record_json r.records ∷ [])

-- rules by glyphs or by classes
abbrev pub rules_json : List (SequenceRule ℕ) → Data
rules_json rules = list_of (rule_json natural) rules

-- the class definitions of backtrack, input and lookahead
abbrev pub classes_json : ClassRules → Data
classes_json s = row (class_definition_json s.backtrack ∷ class_definition_json s.input ∷ class_definition_json s.lookahead ∷ [])

-- a context subtable
abbrev pub context_json : ContextSubtable → Data
context_json (Glyphs rules) = object (
    member (codes "format") (string (codes "glyphs")) (
    member (codes "rules") (rules_json rules) no_members))
context_json (Classes s) = object (
    member (codes "format") (string (codes "classes")) (
    member (codes "classes") (classes_json s) (
    member (codes "first") (coverage_json s.first) (
    member (codes "rules") (rules_json s.rules) no_members))))
context_json (Coverage rules) = object (
    member (codes "format") (string (codes "coverage")) (
    member (codes "rules") (list_of (rule_json coverage_json) rules) no_members))
