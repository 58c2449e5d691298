use Rattle.shell_run.specs.Run.{may_have_written}
use Rattle.shell_font_run.specs.Run.{IsFontAnswer}
use Rattle.shell_font_run.proofs.Ends.{ends_by, ends_well}
use Rattle.shell_font_run.proofs.line.run_on.Goals as goal

pub returns-in-Ok : goal.returns-in-Ok
returns-in-Ok g c =
    let line = c.args.line.now in
    ends_well (IsFontAnswer line.options line.face c.args.font.now c.args.text.now) (may_have_written line.options) _ _ c.in-Ok.ensures.written

pub returns-in-Err : goal.returns-in-Err
returns-in-Err g c =
    let line = c.args.line.now in
    rw c.fault_of_run.ensures
    (ends_by (IsFontAnswer line.options line.face c.args.font.now c.args.text.now) (may_have_written line.options) _ _ c.in-Err.cause
    c.in-Err.ensures.refused c.in-Err.ensures.front c.in-Err.ensures.kept)
