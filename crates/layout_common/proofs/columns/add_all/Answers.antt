use Rattle.std.proofs.Common.{◌∙◌, arith}
use Rattle.layout_common.proofs.ColumnBits.{column_set, kept_more}
use Rattle.layout_common.proofs.columns.add_all.Goals as goal

pub loop-c-preserved : goal.loop-c-preserved
loop-c-preserved c =
    let i = c.loop-c.invariant in
    let new = c.set_bit.new.words.items in
    record {
      size = c.set_bit.ensures.size ∙ i.size;
      kept = kept_more c.args.words.now.items c.loop-c.words.items new _ c.args.bit i.kept c.set_bit.ensures.bits;
      added = column_set c.args.start c.args.bit c.loop-c.c c.loop-c.words.items new i.added c.set_bit.ensures.bits;
    }

pub returns-clause-added : goal.returns-clause-added
returns-clause-added c k lt = c.loop-c.invariant.added k (omega (arith, lt, c.loop-c-test.false))
