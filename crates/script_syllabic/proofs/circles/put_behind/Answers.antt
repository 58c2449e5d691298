use Rattle.std.proofs.Common.{rules}
use Rattle.script_syllabic.proofs.Put.{put_behind}
use Rattle.script_syllabic.proofs.circles.put_behind.Goals as goal

pub returns-clause-ok : goal.returns-clause-ok
returns-clause-ok c = put_behind c.args.rephas c.args.circle c.prev.result.now c.args.buffer.now c.output_info.new.self c.requires.some c.requires.passed c.prev.ensures c.requires.first (c.in_ok-output_info.ensures.put (search rules))
