use Rattle.std.proofs.Common.{arith, refl}
use Rattle.script_indic_reordering.proofs.Lemmas.Walks.{after_made}
use Rattle.script_indic_reordering.proofs.features.mask_after.Goals as goal

pub returns : goal.returns
returns c =
    let other = c.if-base-count.false in
    let within = c.requires in
    after_made c.args.base _ c.args.mask c.args.glyphs.now c.mask_within.new.glyphs (omega (arith, other, within)) refl c.mask_within.ensures
