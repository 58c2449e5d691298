use Rattle.std.proofs.Common.{refl}
use Rattle.layout_common.proofs.ColumnBits.{admits_any, admits_some}
use Rattle.layout_common.proofs.columns.add_subtable.Goals as goal

pub returns-then-collect_beside-clause-added : goal.returns-then-collect_beside-clause-added
returns-then-collect_beside-clause-added g c o may =
    admits_some (g.S.Covers.admits c.args.item.now c.args.side) c.collect_beside.new.digest.words c.add_glyphs.new.words.items c.args.k _ _ o refl refl (c.collect_beside.ensures.none c.if-collect_beside.true) (c.collect_beside.ensures.added c.if-collect_beside.true) c.add_glyphs.ensures.added may

pub returns-clause-added : goal.returns-clause-added
returns-clause-added g c o may = admits_any c.add_all.new.words.items c.args.k _ _ o refl refl c.add_all.ensures.added
