use Rattle.std.proofs.Common.{◌*◌, ◌+◌, length-append, arith}
use Rattle.buffer_rows.proofs.Paged.{pages_grow}
use Rattle.buffer_rows.proofs.Passes.{start_moved}
use Rattle.buffer_rows.proofs.pages.index_of.Goals as goal

pub loop-page-preserved : goal.loop-page-preserved
loop-page-preserved g c = record {
  count = rw c.in_ok-push.ensures.items (simp length-append (omega arith));
  whole = c.in_ok-block.ensures.whole;
  start = start_moved g.R.Numbered.number_of c.args.rows.now (c.loop-page.page * 128 + 128) _ _ (omega arith) c.in_ok-block.ensures.start;
  pages = rw c.in_ok-push.ensures.items
      (pages_grow g.R.Numbered.number_of c.args.rows.now c.loop-page.pages.items c.loop-page.slots.items c.push_page.new.slots.items c.loop-page.page c.in_ok-block.block
      c.loop-page.invariant.count c.in_ok-block.ensures.kept c.in_ok-block.ensures.page c.loop-page.invariant.pages);
}
