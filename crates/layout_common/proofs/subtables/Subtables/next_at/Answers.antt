use Rattle.std.proofs.Common.{◌%◌, ap, arith}
use Rattle.layout_common.proofs.Indexed.{next_skipped}
use Rattle.layout_common.proofs.subtables.Subtables.next_at.Goals as goal

pub returns-then-bit-lt64-clause-skipped : goal.returns-then-bit-lt64-clause-skipped
returns-then-bit-lt64-clause-skipped g c =
    let sum = c.saturating_add-next.ensures in
    next_skipped g.S.Covers.covers c.self.inside.items c.args.self.now c.self.inside.words.items c.deref.result.now (c.from-bucket.result % 1024) c.in-Some.word c.args.from c.loop-at.at c.next_bit-bit.result c.saturating_add-next.result c.args.glyph
    c.self.view_is c.self.invariant.0 c.deref.ensures.value c.in-Some.ensures (ap (λ n. n % 1024) c.from-bucket.ensures) c.next_bit-bit.ensures.none c.next_bit-bit.ensures.within (omega (arith, sum)) c.loop-at.invariant.skipped

pub loop-at-preserved : goal.loop-at-preserved
loop-at-preserved g c =
    let sum = c.saturating_add-next.ensures in
    let past = c.next_bit-bit.ensures.on in
    let from = c.loop-at.invariant.on in
    let fits = c.loop-at.auto.at-fits in
    record {
      on = omega (arith, sum, past, from, fits);
      skipped =
          next_skipped g.S.Covers.covers c.self.inside.items c.args.self.now c.self.inside.words.items c.deref.result.now (c.from-bucket.result % 1024) c.in-Some.word c.args.from c.loop-at.at c.next_bit-bit.result c.saturating_add-next.result c.args.glyph
          c.self.view_is c.self.invariant.0 c.deref.ensures.value c.in-Some.ensures (ap (λ n. n % 1024) c.from-bucket.ensures) c.next_bit-bit.ensures.none c.next_bit-bit.ensures.within (omega (arith, sum)) c.loop-at.invariant.skipped;
    }
