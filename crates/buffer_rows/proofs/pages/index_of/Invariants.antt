use Rattle.std.proofs.Common.{◌≡◌, ◌*◌, ◌%◌, length}
use Rattle.buffer_rows.specs.Pages.{ArePages, IsStart}
use Rattle.buffer_rows.proofs.pages.index_of.Given as goal

abbrev pub invariant-loop-page : goal.invariant-loop-page
invariant-loop-page g l = record {
  count : length l.pages.items ≡ l.page;
  whole : length l.slots.items % 128 ≡ 0;
  pages : ArePages g.R.Numbered.number_of l.rows l.pages.items l.slots.items;
  start : IsStart g.R.Numbered.number_of l.rows (l.page * 128) l.at;
}
