use Rattle.shape_laws.proofs.Shapers.{shapers_normalize_as_unicode}
use Rattle.shape_laws.proofs.equivalent_texts.law_shapers_normalize_as_unicode.Goals as goal

pub returns : goal.returns
returns c = shapers_normalize_as_unicode
