use Rattle.std.proofs.Common.{arith}
use Rattle.std.specs.Prelude.{◌&&◌}
use Rattle.layout_common.specs.Neighbours.{may_stand}
use Rattle.layout_common.specs.declared.neighbours.Side.TheVariants.{Before, After}
use Rattle.layout_common.proofs.ColumnBits.{left_out_more}
use Rattle.layout_common.proofs.subtables.Subtables.next_between.Goals as goal

pub returns-then-bit-lt64-clause-skipped : goal.returns-then-bit-lt64-clause-skipped
returns-then-bit-lt64-clause-skipped g c =
    let sum = c.saturating_add-next.ensures in
    left_out_more (λ s. g.S.Covers.covers s c.args.glyph && may_stand (g.S.Covers.admits s Before) c.args.before && may_stand (g.S.Covers.admits s After) c.args.after) c.args.self.now c.word_between-word.result c.args.from c.loop-at.at c.next_bit-bit.result c.saturating_add-next.result c.word_between-word.ensures c.next_bit-bit.ensures.none c.next_bit-bit.ensures.within (omega (arith, sum)) c.loop-at.invariant.skipped

pub loop-at-preserved : goal.loop-at-preserved
loop-at-preserved g c =
    let sum = c.saturating_add-next.ensures in
    let past = c.next_bit-bit.ensures.on in
    let from = c.loop-at.invariant.on in
    let fits = c.loop-at.auto.at-fits in
    record {
      on = omega (arith, sum, past, from, fits);
      skipped = left_out_more (λ s. g.S.Covers.covers s c.args.glyph && may_stand (g.S.Covers.admits s Before) c.args.before && may_stand (g.S.Covers.admits s After) c.args.after) c.args.self.now c.word_between-word.result c.args.from c.loop-at.at c.next_bit-bit.result c.saturating_add-next.result c.word_between-word.ensures c.next_bit-bit.ensures.none c.next_bit-bit.ensures.within (omega (arith, sum)) c.loop-at.invariant.skipped;
    }
