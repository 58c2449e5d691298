use Rattle.std.proofs.Common.{◌≡◌, ◌++◌, List, ap, ◌∙◌}
use Rattle.buffer_common.specs.declared.script.Script.{Script}
use Rattle.font_kern.specs.Scripts.{rows_among, backward_scripts}
use Rattle.font_kern.proofs.scripts.append_backward_rows.Goals as goal

pub returns : goal.returns
returns c =
    c.in_ok-append_rows.ensures
    ∙ ap (λ (scripts : List Script). c.args.rows.now.items ++ rows_among scripts backward_scripts) (c.deref.ensures.value ∙ c.in_ok-scripts.ensures)
