use Rattle.std.proofs.Common.{refl, ◌∙◌, arith}
use Rattle.layout_common.proofs.ColumnBits.{all_glyphs_set, glyphs_left, glyphs_set, kept_on}
use Rattle.layout_common.proofs.columns.add_glyphs.Goals as goal

pub loop-i-preserved-then-buckets-eq0 : goal.loop-i-preserved-then-buckets-eq0
loop-i-preserved-then-buckets-eq0 c =
    let i = c.loop-i.invariant in
    record { size = i.size; kept = i.kept; added = glyphs_left c.args.glyphs.now.words c.args.start c.args.bit c.loop-i.i c.word-buckets.result c.loop-i.words.items i.added c.word-buckets.ensures c.if-buckets-eq0.true }

pub loop-i-preserved : goal.loop-i-preserved
loop-i-preserved c =
    let i = c.loop-i.invariant in
    let new = c.add_buckets.new.words.items in
    record {
      size = c.add_buckets.ensures.size ∙ i.size;
      kept = kept_on c.args.words.now.items c.loop-i.words.items new i.kept c.add_buckets.ensures.kept;
      added = glyphs_set c.args.glyphs.now.words c.args.start c.args.bit c.loop-i.i c.word-buckets.result _ c.loop-i.words.items new i.added c.add_buckets.ensures.kept c.word-buckets.ensures refl c.add_buckets.ensures.added;
    }

pub returns-clause-added : goal.returns-clause-added
returns-clause-added c g has = all_glyphs_set c.args.glyphs.now.words c.loop-i.words.items c.args.start c.args.bit c.loop-i.i g (omega (arith, c.loop-i-test.false)) c.loop-i.invariant.added has
