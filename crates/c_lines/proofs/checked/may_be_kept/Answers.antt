use Rattle.std.proofs.Common.{◌≡◌, ◌<◌, nat_le, false, sym, ◌∙◌, arith}
use Rattle.std.proofs.lemmas.Bool.Decides.{nat_tests}
use Rattle.c_lines.proofs.Checking.{backward_line}
use Rattle.c_lines.proofs.checked.may_be_kept.Goals as goal

pub returns-else-from-to : goal.returns-else-from-to
returns-else-from-to c =
    let plan = c.args.plan.now in
    let less : c.args.to < c.args.from = c.if-from-to.false in
    let no_order : nat_le c.args.from c.args.to ≡ false = grind (arith, nat_tests, less) in
    no_order ∙ sym (backward_line c.args.premises c.args.tables.now plan.shaper plan.script_plan.direction plan.script_plan.script c.args.text.now c.args.from c.args.to less c.requires.from)
