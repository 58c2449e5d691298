use Rattle.script_indic_reordering.proofs.Lemmas.Walks.{part_made}
use Rattle.script_indic_reordering.proofs.features.mask_part.Goals as goal

pub returns-clause-made : goal.returns-clause-made
returns-clause-made c = part_made c.args.start c.args.end c.args.mask c.args.glyphs.now c.mask_within.new.glyphs c.requires.ordered c.mask_within.ensures
