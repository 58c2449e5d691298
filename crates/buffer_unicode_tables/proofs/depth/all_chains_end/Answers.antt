use Rattle.std.proofs.Common.{◌∙◌, sym}
use Rattle.buffer_unicode_tables.proofs.Chains.{ends_or_not, row_is_deep}
use Rattle.buffer_unicode_tables.proofs.depth.all_chains_end.Goals as goal

pub returns-then-rows_end : goal.returns-then-rows_end
returns-then-rows_end c = ends_or_not c.args.splits.now c.leading_consonants_end.result (sym c.rows_end.ensures ∙ c.if-rows_end.true) c.leading_consonants_end.ensures

pub returns-else-rows_end : goal.returns-else-rows_end
returns-else-rows_end c = rw c.if-rows_end.false (row_is_deep c.args.splits.now c.args.splits.now (sym c.rows_end.ensures ∙ c.if-rows_end.false))
