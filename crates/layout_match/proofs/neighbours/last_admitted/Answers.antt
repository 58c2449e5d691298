use Rattle.std.proofs.Common.{reverse, sym, ◌∙◌}
use Rattle.layout_match.proofs.Next.{admitted_there}
use Rattle.layout_match.proofs.neighbours.last_admitted.Goals as goal

pub returns-then-not-is_left_out : goal.returns-then-not-is_left_out
returns-then-not-is_left_out c =
    admitted_there c.args.lookup_props c.args.face.now.gdef.sets 0 c.loop-at.at (reverse c.args.buffer.now.behind) c.behind-info.result.now c.behind-info.ensures (sym c.is_left_out.ensures ∙ c.if-not-is_left_out.true) c.loop-at.invariant
