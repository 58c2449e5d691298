use Rattle.shape_parts.proofs.Texts.{shaped_texts_keep_least}
use Rattle.shape_parts.proofs.text_laws.law_shaped_texts_keep_least.Goals as goal

pub returns : goal.returns
returns c = shaped_texts_keep_least
