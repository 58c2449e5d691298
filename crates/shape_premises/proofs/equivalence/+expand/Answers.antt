use Rattle.std.proofs.Common.{sym, arith}
use Rattle.buffer_unicode_tables.specs.Tables.{split_of}
use Rattle.buffer_unicode_tables.proofs.Chains.{with_second, without_second}
use Rattle.shape_premises.proofs.equivalence.+expand.Goals as goal

pub returns-then-second-eq0 : goal.returns-then-second-eq0
returns-then-second-eq0 t c =
    without_second (split_of c.args.tables.now) c.args.depth c.args.u c.in-Some.first c.in-Some.second _ _ (sym c.in-Some.ensures.pieces) (omega arith) (omega arith) c.in_ok-expand.ensures

pub returns : goal.returns
returns t c =
    with_second (split_of c.args.tables.now) c.args.depth c.args.u c.in-Some.first c.in-Some.second _ _ _ (sym c.in-Some.ensures.pieces) (omega arith) (omega arith) c.in_ok-expand.ensures c.in_ok-push-3.ensures.items
