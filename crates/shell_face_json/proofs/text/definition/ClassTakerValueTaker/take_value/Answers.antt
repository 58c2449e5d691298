use Rattle.std.proofs.Common.{◌∙◌, Ok, ap, sym}
use Rattle.shell_face_json.proofs.OfText.Definitions.{classes_taken}
use Rattle.shell_face_json.proofs.text.definition.ClassTakerValueTaker.take_value.Goals as goal

pub returns-clause-ok : goal.returns-clause-ok
returns-clause-ok c =
    let took = c.in_ok-rows.ensures.ok in
    (took.0, took.1, classes_taken c.new-taker.result.limit took.0 c.in_ok-rows.rows c.new-taker.ensures took.2 ∙ ap (λ classes. Ok classes) (sym c.in_ok-classes.ensures))
