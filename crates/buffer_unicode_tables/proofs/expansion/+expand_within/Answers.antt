use Rattle.std.proofs.Common.{sym, arith}
use Rattle.buffer_unicode_tables.specs.Tables.{splits_of}
use Rattle.buffer_unicode_tables.proofs.Chains.{with_second, without_second}
use Rattle.buffer_unicode_tables.proofs.expansion.+expand_within.Goals as goal

pub returns-then-second-ne0-clause-expanded : goal.returns-then-second-ne0-clause-expanded
returns-then-second-ne0-clause-expanded t c =
    with_second (splits_of c.args.splits.now) c.args.depth c.args.u c.in-Some.first c.in-Some.second _ _ _ (sym c.in-Some.ensures) (omega arith) (omega arith) c.expand_within.ensures.expanded c.push-then-second-ne0.ensures.items

pub returns-else-second-ne0-clause-expanded : goal.returns-else-second-ne0-clause-expanded
returns-else-second-ne0-clause-expanded t c =
    without_second (splits_of c.args.splits.now) c.args.depth c.args.u c.in-Some.first c.in-Some.second _ _ (sym c.in-Some.ensures) (omega arith) (omega arith) c.expand_within.ensures.expanded
