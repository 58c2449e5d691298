-- Rules by glyphs or by classes (OpenType, chapter 2, formats 1 and 2), as they are kept.
use Rattle.std.specs.Prelude.{ℕ, ◌≤◌, length, box_value}
use Rattle.layout_tables.specs.declared.context.SequenceRule.{SequenceRule}
use Rattle.layout_tables.specs.declared.item_rule.ShortRule.{ShortRule}
use Rattle.layout_tables.specs.declared.item_rule.Kept.{Kept}
use Rattle.layout_tables.specs.declared.item_rule.Kept.TheVariants.{Short, Long}

-- the rule that a short one is
abbrev pub short_rule : ShortRule → SequenceRule ℕ
short_rule r = record { backtrack = r.backtrack.items; input = r.input.items; lookahead = r.lookahead.items; records = r.records.items }

-- a rule, wherever it is kept
abbrev pub kept_rule : Kept → SequenceRule ℕ
kept_rule (Short r) = short_rule r
kept_rule (Long r) = box_value r

-- a rule of at most four items before and after its input, eight of its input, and four lookups
pub record IsShort (r : SequenceRule ℕ) : Type 0 where
  pub backtrack : length r.backtrack ≤ 4
  pub input : length r.input ≤ 8
  pub lookahead : length r.lookahead ≤ 4
  pub records : length r.records ≤ 4
