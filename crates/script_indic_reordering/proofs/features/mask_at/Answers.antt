use Rattle.std.proofs.Common.{arith}
use Rattle.script_indic_reordering.proofs.Lemmas.Walks.{pair_made}
use Rattle.script_indic_reordering.proofs.features.mask_at.Goals as goal

pub returns : goal.returns
returns c =
    let other = c.if-i-count-2.false in
    pair_made c.args.i c.args.mask c.args.glyphs.now c.mask_within.new.glyphs (omega (arith, other)) c.mask_within.ensures
