use Rattle.std.proofs.Common.{rules}
use Rattle.script_syllabic.specs.Categories.{with_category}
use Rattle.script_universal.specs.Categories.{universal_category_of}
use Rattle.script_universal.proofs.character_categories.set_universal_categories.Goals as goal

pub returns : goal.returns
returns c = c.map_glyphs.ensures (with_category (universal_category_of c.args.tables.now)) (λ g h r. search rules)
