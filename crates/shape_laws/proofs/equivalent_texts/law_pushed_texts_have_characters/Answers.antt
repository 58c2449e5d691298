use Rattle.shape_laws.proofs.Pushed.{pushed_texts_have_characters}
use Rattle.shape_laws.proofs.equivalent_texts.law_pushed_texts_have_characters.Goals as goal

pub returns : goal.returns
returns c = pushed_texts_have_characters
