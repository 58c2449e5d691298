use Rattle.std.proofs.Common.{◌∙◌, sym, arith, Some}
use Rattle.buffer_unicode_tables.specs.Tables.{class_of, split_of}
use Rattle.shape_premises.proofs.Runs.{run_both, run_first, run_long}
use Rattle.shape_premises.proofs.texts.+run_of.Goals as goal

pub returns-in_err-met : goal.returns-in_err-met
returns-in_err-met t c =
    c.from_residual.ensures
    ∙ sym (run_long (class_of c.args.tables.now) (split_of c.args.tables.now) c.args.depth c.args.u c.in-Some.first c.in-Some.second (Some c.args.met) (sym c.in-Some.ensures.pieces) (omega arith) (sym c.run_of.ensures ∙ c.in_err-met.was))

pub returns-then-second-eq0 : goal.returns-then-second-eq0
returns-then-second-eq0 t c =
    sym c.in_ok-met.was ∙ (c.run_of.ensures
    ∙ sym (run_first (class_of c.args.tables.now) (split_of c.args.tables.now) c.args.depth c.args.u c.in-Some.first c.in-Some.second (Some c.args.met) (sym c.in-Some.ensures.pieces) (omega arith) (omega arith)))

pub returns : goal.returns
returns t c =
    c.run_with-2.ensures
    ∙ sym (run_both (class_of c.args.tables.now) (split_of c.args.tables.now) c.args.depth c.args.u c.in-Some.first c.in-Some.second (Some c.args.met) c.in_ok-met.met (sym c.in-Some.ensures.pieces) (omega arith) (omega arith) (sym c.run_of.ensures ∙ c.in_ok-met.was))
