use Rattle.std.proofs.Common.{[], ◌∷◌, get_or}
use Rattle.buffer_lists.proofs.Lemmas.Neighbours.{no_glyph}
use Rattle.buffer_lists.proofs.HandedOn.{walk_handing}
use Rattle.buffer_lists.proofs.deletion_within.walk.delete_handing.Goals as goal

pub returns-clause-sound : goal.returns-clause-sound
returns-clause-sound c =
    let mid = c.delete_glyph-walk in
    let new = c.hand_on in
    walk_handing c.args.in_order _ mid.result new.result mid.new.glyphs new.new.glyphs (get_or c.args.glyphs.now c.args.at no_glyph ∷ []) mid.ensures.sound new.ensures.front new.ensures.back new.ensures.kept (new.ensures.due c.args.in_order mid.ensures.sound.due)
