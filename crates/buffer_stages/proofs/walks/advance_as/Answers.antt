use Rattle.std.proofs.Common.{Ok, ap}
use Rattle.buffer_stages.proofs.Put.{one_put}
use Rattle.buffer_stages.proofs.walks.advance_as.Goals as goal

pub returns-clause-ok : goal.returns-clause-ok
returns-clause-ok c =
    one_put c.args.glyph c.args.buffer.now c.output_info.new.self c.skip_glyph.new.self c.requires.current.opened c.requires.current.current c.requires.same
    (c.in_ok-output_info.ensures.put (ap Ok c.if-not-branch.false)) c.skip_glyph.ensures.skipped
