use Rattle.script_categories.specs.Spans.{longest_within}
use Rattle.script_categories.specs.Machines.{machine_in}
use Rattle.script_categories.proofs.scan.longest_syllable.Goals as goal

pub returns-clause-within : goal.returns-clause-within
returns-clause-within c = longest_within (machine_in c.args.machine.now) c.args.categories.now c.walk.result c.walk.ensures
