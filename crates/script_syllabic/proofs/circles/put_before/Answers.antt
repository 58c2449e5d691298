use Rattle.std.proofs.Common.{rules}
use Rattle.script_syllabic.proofs.Put.{put_before}
use Rattle.script_syllabic.proofs.circles.put_before.Goals as goal

pub returns-clause-ok : goal.returns-clause-ok
returns-clause-ok c = put_before c.args.circle c.args.buffer.now c.output_info.new.self c.requires.first (c.in_ok-output_info.ensures.put (search rules))
