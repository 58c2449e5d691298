use Rattle.std.proofs.Common.{rules}
use Rattle.shape_glyphs.specs.Selectors.{selector_position}
use Rattle.shape_glyphs.proofs.selectors.zero_selectors.Goals as goal

pub returns : goal.returns
returns c = c.map_positions.ensures selector_position (λ g p q r. search rules)
