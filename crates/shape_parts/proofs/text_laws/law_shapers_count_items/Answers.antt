use Rattle.shape_parts.proofs.Texts.{shapers_count_items}
use Rattle.shape_parts.proofs.text_laws.law_shapers_count_items.Goals as goal

pub returns : goal.returns
returns c = shapers_count_items
