use Rattle.buffer_glyphs.specs.Lemmas.Merges.{merge_unites}
use Rattle.buffer_glyphs.proofs.laws.law_merge_unites.Goals as goal

pub returns : goal.returns
returns c = merge_unites
