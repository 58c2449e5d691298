use Rattle.std.proofs.Common.{sym}
use Rattle.buffer_rows.proofs.Paged.{none_on_page}
use Rattle.buffer_rows.proofs.pages.PagedRows.get.Goals as goal

pub returns-then-block-eq0 : goal.returns-then-block-eq0
returns-then-block-eq0 g c =
    rw (sym c.self.view_is)
    (sym (none_on_page g.R.Numbered.number_of c.self.inside.rows.items c.self.inside.pages.items c.self.inside.slots.items c.args.number c.in-Some.block c.self.invariant (rw c.deref.ensures.value at (sym c.in-Some.ensures)) c.if-block-eq0.true))
