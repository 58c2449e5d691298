use Rattle.shape_parts.proofs.Begun.{begun_texts_keep_parts}
use Rattle.shape_parts.proofs.reading_laws.law_begun_texts_keep_parts.Goals as goal

pub returns : goal.returns
returns c = begun_texts_keep_parts
