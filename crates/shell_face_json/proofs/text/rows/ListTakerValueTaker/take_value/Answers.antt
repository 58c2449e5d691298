use Rattle.std.proofs.Common.{Ok, sym, ap, ◌∙◌}
use Rattle.shell_face_json.proofs.text.rows.ListTakerValueTaker.take_value.Goals as goal

pub returns-clause-ok : goal.returns-clause-ok
returns-clause-ok g c = let took = c.in_ok-take_list.ensures.ok in (took.0, took.1, took.2 ∙ ap (λ xs. Ok xs) (sym c.new.ensures))
