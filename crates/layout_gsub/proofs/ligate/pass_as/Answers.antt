use Rattle.std.proofs.Common.{Ok, ap}
use Rattle.layout_gsub.proofs.United.{passed_as}
use Rattle.layout_gsub.proofs.ligate.pass_as.Goals as goal

pub returns-clause-passed : goal.returns-clause-passed
returns-clause-passed c =
    let e = c.in_ok-next_glyph.ensures in
    passed_as c.args.info c.args.buffer.now c.set_glyph.new.buffer c.next_glyph.new.self c.in_ok-next_glyph.field-0 c.requires.current.current c.requires.current.opened c.requires.origin c.set_glyph.ensures e.held c.if-not-branch.false (e.moved (ap Ok c.if-not-branch.false))
