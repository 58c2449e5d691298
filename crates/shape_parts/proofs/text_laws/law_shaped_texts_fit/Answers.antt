use Rattle.shape_parts.proofs.Texts.{shaped_texts_fit}
use Rattle.shape_parts.proofs.text_laws.law_shaped_texts_fit.Goals as goal

pub returns : goal.returns
returns c = shaped_texts_fit
