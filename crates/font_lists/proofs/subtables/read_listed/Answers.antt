use Rattle.std.proofs.Common.{arith}
use Rattle.std.proofs.lemmas.Grind.{common_steps}
use Rattle.std.proofs.lemmas.Result.{err_from_is_err_and}
use Rattle.font_records.proofs.Turns.{turn_refused, any_refused}
use Rattle.font_lists.proofs.subtables.read_listed.Goals as goal

pub returns-in_err-subtable-clause-refused : goal.returns-in_err-subtable-clause-refused
returns-in_err-subtable-clause-refused g c =
    let p = err_from_is_err_and c.from_residual.result c.from_residual.ensures.1 in
    rw (p.1, p.2) (λ other. let refused = c.in_err-subtable.ensures.refused other in grind (arith, common_steps, turn_refused, any_refused, refused))
