use Rattle.buffer_glyphs.proofs.Deleted.{items_deleted}
use Rattle.buffer_lists.proofs.laws.law_deletes_one_item.Goals as goal

pub returns : goal.returns
returns c = items_deleted
