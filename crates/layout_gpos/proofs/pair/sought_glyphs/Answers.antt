use Rattle.std.proofs.Common.{ap, ◌∙◌, Option, Some}
use Rattle.layout_tables.specs.declared.pair.PairValues.{PairValues}
use Rattle.layout_gpos.proofs.Sought.{none_sought, some_sought}
use Rattle.layout_gpos.proofs.pair.sought_glyphs.Goals as goal

pub returns-then-is_empty : goal.returns-then-is_empty
returns-then-is_empty c = none_sought c.args.first c.args.second c.args.pairs.now c.rows_of-rows.result.now c.is_empty.result c.rows_of-rows.ensures.of c.is_empty.ensures c.if-is_empty.true

pub returns : goal.returns
returns c =
    ap (λ (v : Option PairValues). Some v) c.second_values.ensures
    ∙ some_sought c.args.first c.args.second c.args.pairs.now c.rows_of-rows.result.now c.is_empty.result c.rows_of-rows.ensures.of c.is_empty.ensures c.if-is_empty.false
