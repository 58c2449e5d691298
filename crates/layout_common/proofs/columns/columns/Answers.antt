use Rattle.std.proofs.Common.{◌∙◌, Some, length, refl, sym, ap, arith}
use Rattle.std.proofs.lemmas.Option.{slice_get_read}
use Rattle.layout_common.proofs.ColumnBits.{all_subtables_set, subtable_set}
use Rattle.layout_common.proofs.columns.columns.Goals as goal

pub loop-k-preserved : goal.loop-k-preserved
loop-k-preserved g c =
    let i = c.loop-k.invariant in
    let new = c.add_subtable.new.words.items in
    record {
      size = c.add_subtable.ensures.size ∙ i.size;
      set = subtable_set (λ s. g.S.Covers.admits s c.args.side) c.args.items.now c.loop-k.words.items new c.loop-k.k c.inner.result.now (slice_get_read c.args.items.now (length c.args.items.now) c.loop-k.k c.index-items-k.result refl (omega (arith, c.loop-k-test.true)) c.index-items-k.is ∙ ap Some (sym c.inner.ensures)) i.set c.add_subtable.ensures.kept c.add_subtable.ensures.added;
    }

pub returns : goal.returns
returns g c = all_subtables_set (λ s. g.S.Covers.admits s c.args.side) c.args.items.now c.loop-k.words.items c.loop-k.k (omega (arith, c.loop-k-test.false)) c.loop-k.invariant.set
