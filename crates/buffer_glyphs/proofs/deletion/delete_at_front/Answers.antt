use Rattle.std.proofs.Common.{arith}
use Rattle.buffer_glyphs.proofs.FirstDeleted.{rest_deletes}
use Rattle.buffer_glyphs.proofs.deletion.delete_at_front.Goals as goal

pub returns-clause-deletes : goal.returns-clause-deletes
returns-clause-deletes c =
    let cut = c.split_at_mut-rest.ensures in
    rest_deletes c.args.level c.args.at c.args.glyphs.now c.split_at_mut-rest.result.0.now c.split_at_mut-rest.result.1.now c.delete_first.new.rest c.delete_first.result (omega (arith, c.requires.within)) cut.front cut.back c.delete_first.ensures
