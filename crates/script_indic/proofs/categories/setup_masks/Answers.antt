use Rattle.std.proofs.Common.{rules}
use Rattle.script_indic.specs.Categories.{with_properties}
use Rattle.script_indic.proofs.categories.setup_masks.Goals as goal

pub returns : goal.returns
returns c = c.map_glyphs.ensures (with_properties c.args.tables.now) (λ g h r. search rules)
