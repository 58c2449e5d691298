use Rattle.layout_common.proofs.CoverageSearch.{covered_after_sort}
use Rattle.layout_common.proofs.CoverageOrder.{sorted_is_in_order}
use Rattle.layout_common.proofs.coverage.Coverage.new.Goals as goal

pub returns-clause-order : goal.returns-clause-order
returns-clause-order c = sorted_is_in_order c.args.glyphs.items _ c.sort_unstable.ensures.sorted c.sort_unstable.ensures.permutation

pub returns-clause-members : goal.returns-clause-members
returns-clause-members c = λ g. covered_after_sort g c.args.glyphs.items _ c.sort_unstable.ensures.permutation
