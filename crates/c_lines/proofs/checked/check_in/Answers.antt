use Rattle.c_lines.proofs.Checking.{lines_checked_in}
use Rattle.c_lines.proofs.checked.check_in.Goals as goal

pub returns-clause-checked : goal.returns-clause-checked
returns-clause-checked c =
    lines_checked_in c.args.input.now c.data.result.tables.now c.args.premises c.args.features.now c.args.buffer.now c.in_ok-plan.plan c.info_slice-2.result.now c.args.lines.now c.check_each.new.lines
    c.in_ok-plan.ensures c.data.ensures.tables c.info_slice-2.ensures c.check_each.ensures
