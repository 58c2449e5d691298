use Rattle.serde_json.specs.View.{view}
use Rattle.shell_json.proofs.members.pass.Goals as goal

pub returns-clause-ok : goal.returns-clause-ok
returns-clause-ok c = (view c.in_ok-read_value.field-0, c.in_ok-read_value.ensures.ok)
