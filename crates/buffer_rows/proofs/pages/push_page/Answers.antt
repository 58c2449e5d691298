use Rattle.std.proofs.Common.{arith}
use Rattle.buffer_rows.proofs.Paged.{empty_page}
use Rattle.buffer_rows.proofs.pages.push_page.Goals as goal

pub returns-then-are_above-clause-page : goal.returns-then-are_above-clause-page
returns-then-are_above-clause-page g c =
    empty_page g.R.Numbered.number_of c.args.rows.now c.args.slots.now.items c.args.first c.args.from (omega arith) c.requires.start (c.are_above.ensures.above c.if-are_above.true)
