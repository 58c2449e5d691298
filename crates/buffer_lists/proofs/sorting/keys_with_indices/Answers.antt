use Rattle.std.proofs.Common.{arith, length, refl, ◌<◌}
use Rattle.std.proofs.lemmas.List.Elements.{All-push, All-same}
use Rattle.std.proofs.lemmas.Fn.{says_at}
use Rattle.buffer_lists.specs.declared.sorting.KeyedIndex.{KeyedIndex}
use Rattle.buffer_lists.proofs.Lemmas.Neighbours.{no_glyph}
use Rattle.buffer_lists.proofs.Spans.{keyed_step}
use Rattle.buffer_lists.proofs.sorting.keys_with_indices.Goals as goal

pub loop-index-preserved : goal.loop-index-preserved
loop-index-preserved g c =
    let inv = c.loop-index.invariant in
    let P : KeyedIndex → Type 0 = λ e. e.index < length c.args.glyphs.now in
    record {
      keys = λ k same. keyed_step k c.args.glyphs.now c.loop-index.index no_glyph c.loop-index.indices.items c.push.new.self.items _ c.key.result c.loop-index-test.true c.in_ok-push.ensures.items (same _ c.key.result (says_at g.F.Fn c.key.ensures refl)) (inv.keys k same);
      within = All-same P c.push.new.self.items _ c.in_ok-push.ensures.items (All-push P c.loop-index.indices.items _ inv.within c.loop-index-test.true);
      len = omega (arith, inv.len, c.in_ok-push.ensures.len);
    }
