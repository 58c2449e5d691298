use Rattle.std.proofs.Common.{sym, ◌∙◌}
use Rattle.layout_common.proofs.ColumnBits.{bucket_left, bucket_set, kept_more}
use Rattle.layout_common.proofs.columns.add_buckets.Goals as goal

pub loop-b-preserved-then-not-has_bucket : goal.loop-b-preserved-then-not-has_bucket
loop-b-preserved-then-not-has_bucket c =
    let i = c.loop-b.invariant in
    record { size = i.size; kept = i.kept; added = bucket_left c.args.buckets c.args.first c.args.bit c.loop-b.b c.loop-b.words.items i.added (sym c.has_bucket.ensures ∙ c.if-not-has_bucket.true) }

pub loop-b-preserved : goal.loop-b-preserved
loop-b-preserved c =
    let i = c.loop-b.invariant in
    let new = c.set_bit.new.words.items in
    record {
      size = c.set_bit.ensures.size ∙ i.size;
      kept = kept_more c.args.words.now.items c.loop-b.words.items new _ c.args.bit i.kept c.set_bit.ensures.bits;
      added = bucket_set c.args.buckets c.args.first c.args.bit c.loop-b.b c.loop-b.words.items new i.added c.set_bit.ensures.bits;
    }
