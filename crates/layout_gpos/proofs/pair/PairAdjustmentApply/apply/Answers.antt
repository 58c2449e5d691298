use Rattle.layout_match.specs.Applied.{apply_context_of}
use Rattle.layout_gpos.specs.Pairs.{pair_subtable}
use Rattle.layout_gpos.proofs.Lemmas.Kept.{performed_kept}
use Rattle.layout_gpos.proofs.Lemmas.Left.{pair_keeps}
use Rattle.layout_gpos.proofs.Paired.{pair_begun}
use Rattle.layout_gpos.proofs.pair.PairAdjustmentApply.apply.Goals as goal

pub returns-then-may_begin-clause-performed : goal.returns-then-may_begin-clause-performed
returns-then-may_begin-clause-performed c = λ r.
    let s = c.args.buffer.now in
    pair_begun r c.as_glyph-first.result.0 s.direction (apply_context_of c.args.ctx.now) c.args.subtable.now c.apply_from.result s c.apply_from.new.buffer c.cur.result.now c.cur.ensures c.as_glyph-first.ensures (c.apply_from.ensures r)

pub returns-then-may_begin-clause-kept : goal.returns-then-may_begin-clause-kept
returns-then-may_begin-clause-kept c =
    let s = c.args.buffer.now in
    let a = apply_context_of c.args.ctx.now in
    performed_kept (pair_subtable s.direction a c.args.subtable.now) a c.apply_from.result 1 c.args._last.now s c.apply_from.new.buffer (pair_keeps s.direction a c.args.subtable.now) c.requires.kept
    (pair_begun 1 c.as_glyph-first.result.0 s.direction a c.args.subtable.now c.apply_from.result s c.apply_from.new.buffer c.cur.result.now c.cur.ensures c.as_glyph-first.ensures (c.apply_from.ensures 1))
