-- How many rows contexts and chained contexts have (OpenType, chapter 2, sequence contexts).
use Rattle.std.specs.Prelude.{ℕ, ◌+◌, ◌-◌, List, length}
use Rattle.layout_tables.specs.declared.context.SequenceRule.{SequenceRule}
use Rattle.layout_tables.specs.declared.context.ClassRules.{ClassRules}
use Rattle.layout_tables.specs.declared.context.ContextSubtable.{ContextSubtable}
use Rattle.layout_tables.specs.declared.context.ContextSubtable.TheVariants.{Glyphs, Classes, Coverage}
use Rattle.font_laws.specs.RowCounts.{total_row_count}
use Rattle.font_laws.specs.Lists.{class_row_count}

-- a rule of glyphs or classes: the items of its sequences and its lookup records. The first item of the input, which a rule
-- has from its set, is one row with the rule itself
abbrev pub rule_row_count : SequenceRule ℕ → ℕ
rule_row_count r = length r.backtrack + (length r.input - 1) + length r.lookahead + length r.records

-- a rule of coverages: those of its sequences with their glyphs, and its lookup records
abbrev pub coverage_rule_row_count : SequenceRule (List ℕ) → ℕ
coverage_rule_row_count r = total_row_count length r.backtrack + total_row_count length r.input + total_row_count length r.lookahead + length r.records

-- rules by classes: the glyphs of their coverage and of their class definitions, and the rules
abbrev pub class_rules_row_count : ClassRules → ℕ
class_rules_row_count c =
    length c.first + class_row_count c.backtrack + class_row_count c.input + class_row_count c.lookahead + total_row_count rule_row_count c.rules

-- a subtable of one of the three formats
abbrev pub context_row_count : ContextSubtable → ℕ
context_row_count (Glyphs rules) = total_row_count rule_row_count rules
context_row_count (Classes c) = class_rules_row_count c
context_row_count (Coverage rules) = total_row_count coverage_rule_row_count rules
