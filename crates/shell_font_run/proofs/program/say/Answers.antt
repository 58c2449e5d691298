use Rattle.std.proofs.Common.{◌∙◌, Some, ap}
use Rattle.shell_font_run.specs.declared.fault.FontRunFault.{FontRunFault}
use Rattle.shell_font_run.proofs.Endings.{is_cut, is_said}
use Rattle.shell_font_run.proofs.program.say.Goals as goal

pub returns-in-Ok-clause-said : goal.returns-in-Ok-clause-said
returns-in-Ok-clause-said g c =
    is_said c.args.text.now _ _ c.end_of.result.fault c.end_of.ensures.fault (rw c.as_bytes.ensures.value at c.in-Ok.ensures.written)

pub returns-in-Err-clause-said : goal.returns-in-Err-clause-said
returns-in-Err-clause-said g c =
    is_cut c.args.text.now _ _ c.end_of-in-Err.result.fault c.in-Err.cause
    (c.end_of-in-Err.ensures.fault ∙ ap (λ (f : FontRunFault). Some f.cause) c.fault_of_run.ensures)
    c.in-Err.ensures.fault (rw c.as_bytes.ensures.value at c.in-Err.ensures.front)
