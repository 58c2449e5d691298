use Rattle.std.proofs.Common.{◌≡◌, ◌-◌, arith}
use Rattle.std.proofs.lemmas.Grind.{common_steps}
use Rattle.font_charstrings.specs.Machine.{state}
use Rattle.font_charstrings.proofs.Runs.{runs_next}
use Rattle.font_charstrings.proofs.machine.run_steps.Goals as goal

pub returns-in_err-run-clause-refused : goal.returns-in_err-run-clause-refused
returns-in_err-run-clause-refused c =
    let next = runs_next c.args.table.now c.args.context c.loop-index.room.left (state c.loop-index.run c.loop-index.stack.items c.loop-index.calls.items) (omega arith) c.if-run.false in
    let refused = c.in_err-run.ensures.refused in
    grind (arith, common_steps, next, refused)
