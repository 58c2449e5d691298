use Rattle.std.proofs.Common.{subst}
use Rattle.buffer_unicode_tables.specs.Tables.{thai_of}
use Rattle.shape_laws.specs.Breaks.ThaiCharacters.{PrivateKeepsMarks}
use Rattle.shape_breaks.proofs.Walks.{one_further}
use Rattle.shape_breaks.proofs.tables.keeps_private_at.Goals as goal

pub loop-action-preserved : goal.loop-action-preserved
loop-action-preserved c =
    one_further (λ action. PrivateKeepsMarks c.args.u (thai_of c.args.tables.now c.args.u action)) c.loop-action.action c.loop-action.invariant
    (subst (PrivateKeepsMarks c.args.u) c.thai.ensures (c.private_keeps_marks.ensures.0 cc))
