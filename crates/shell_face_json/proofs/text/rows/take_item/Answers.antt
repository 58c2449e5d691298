use Rattle.serde_json.specs.View.{view}
use Rattle.shell_face_json.proofs.text.rows.take_item.Goals as goal

pub returns-in-Ok-clause-ok : goal.returns-in-Ok-clause-ok
returns-in-Ok-clause-ok g c = (view c.in_ok-value.value, c.in_ok-value.ensures.ok, c.in-Ok.ensures.ok)
