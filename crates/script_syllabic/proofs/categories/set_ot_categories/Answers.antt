use Rattle.std.proofs.Common.{rules}
use Rattle.script_syllabic.specs.Categories.{ot_category_of, with_category}
use Rattle.script_syllabic.proofs.categories.set_ot_categories.Goals as goal

pub returns : goal.returns
returns c = c.map_glyphs.ensures (with_category (ot_category_of c.args.tables.now)) (λ g h r. search rules)
