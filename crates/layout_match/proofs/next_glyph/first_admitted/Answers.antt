use Rattle.std.proofs.Common.{sym, ◌∙◌}
use Rattle.layout_match.proofs.Next.{admitted_there}
use Rattle.layout_match.proofs.next_glyph.first_admitted.Goals as goal

pub returns-then-not-is_left_out : goal.returns-then-not-is_left_out
returns-then-not-is_left_out c =
    admitted_there c.args.lookup_props c.args.face.now.gdef.sets 1 c.loop-at.at c.args.buffer.now.ahead c.cur-info.result.now c.cur-info.ensures (sym c.is_left_out.ensures ∙ c.if-not-is_left_out.true) c.loop-at.invariant
