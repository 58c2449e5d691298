use Rattle.shape_parts.proofs.Texts.{pushed_texts_are_pushed_once}
use Rattle.shape_parts.proofs.text_laws.law_pushed_texts_are_pushed_once.Goals as goal

pub returns : goal.returns
returns c = pushed_texts_are_pushed_once
