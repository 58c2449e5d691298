use Rattle.std.proofs.Common.{sym, ◌∙◌}
use Rattle.layout_gpos.proofs.Paired.{pair_strictly_marked}
use Rattle.layout_gpos.proofs.pair.mark_null_pair.Goals as goal

pub returns-then-takes_glyphs : goal.returns-then-takes_glyphs
returns-then-takes_glyphs c =
    let m = c.unsafe_to_break_strictly in
    pair_strictly_marked c.args.second c.args.apart c.idx-first.result c.args.buffer.now m.new.self (sym c.takes_glyphs.ensures ∙ c.if-takes_glyphs.true) c.idx-first.ensures m.ensures.marked m.ensures.origins
