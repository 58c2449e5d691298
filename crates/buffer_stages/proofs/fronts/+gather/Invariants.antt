use Rattle.std.proofs.Common.{◌-◌}
use Rattle.buffer_stages.proofs.fronts.+gather.Given as goal

abbrev pub decreases-gather : goal.decreases-gather
decreases-gather g l = l.to - l.from
