use Rattle.std.proofs.Common.{rules}
use Rattle.shape_fallback.specs.Classes.{item_with_fallback_class}
use Rattle.shape_fallback.proofs.classes.recategorize_each.Goals as goal

pub returns : goal.returns
returns c = c.map_glyphs.ensures item_with_fallback_class (λ g h r. search rules)
