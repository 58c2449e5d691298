use Rattle.std.specs.List.Sorted.{IsNonDecreasingBy}
use Rattle.std.proofs.Common.{arith, refl, subst}
use Rattle.std.proofs.lemmas.Fn.{says_at}
use Rattle.std.proofs.lemmas.List.{take_all}
use Rattle.buffer_lists.proofs.Lemmas.Neighbours.{no_glyph}
use Rattle.buffer_lists.proofs.OrderedKeys.{key_there, ordered_step}
use Rattle.buffer_lists.proofs.sorting.has_keys_in_order.Goals as goal

pub loop-glyph-preserved : goal.loop-glyph-preserved
loop-glyph-preserved g c =
    let inv = c.loop-glyph.invariant in
    let gs = c.args.glyphs.now in
    let i = c.loop-glyph.glyph-index in
    record {
      sorted = λ k same.
          let is = same _ c.key-next.result (says_at g.F.Fn c.key-next.ensures refl) in
          ordered_step k gs i c.loop-glyph.last c.key-next.result no_glyph c.loop-glyph-test.true (inv.sorted k same) (inv.last k same) is c.if-next-last.false;
      last = λ k same d some.
          let is = same _ c.key-next.result (says_at g.F.Fn c.key-next.ensures refl) in
          key_there k gs i c.key-next.result d no_glyph c.loop-glyph-test.true is;
    }

pub returns : goal.returns
returns g c = λ k same on.
    subst (IsNonDecreasingBy k) (take_all c.loop-glyph.glyph-index c.args.glyphs.now (omega (arith, c.loop-glyph-test.false))) (c.loop-glyph.invariant.sorted k same)
