use Rattle.shape_laws.proofs.Shapers.{normalizers_are_of_unicode}
use Rattle.shape_laws.proofs.equivalent_texts.law_normalizers_are_of_unicode.Goals as goal

pub returns : goal.returns
returns c = normalizers_are_of_unicode
