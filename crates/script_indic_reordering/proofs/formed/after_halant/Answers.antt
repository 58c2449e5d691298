use Rattle.std.proofs.Common.{arith}
use Rattle.script_indic_reordering.proofs.Lemmas.Formed.{after_joined}
use Rattle.script_indic_reordering.proofs.formed.after_halant.Goals as goal

pub returns-clause-index : goal.returns-clause-index
returns-clause-index c =
    let r = c.requires in
    let before = r.before in
    let other = c.if-next-base.false in
    after_joined c.args.base c.args.halant c.joiners.result c.args.glyphs.now (omega (arith, before, other)) c.joiners.ensures.count
