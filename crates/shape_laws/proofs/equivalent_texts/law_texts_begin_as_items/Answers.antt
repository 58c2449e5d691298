use Rattle.shape_laws.proofs.Chosen.{texts_begin_as_items}
use Rattle.shape_laws.proofs.equivalent_texts.law_texts_begin_as_items.Goals as goal

pub returns : goal.returns
returns c = texts_begin_as_items
