use Rattle.std.proofs.Common.{rules}
use Rattle.buffer_stages.specs.LayoutStages.{item_not_substituted}
use Rattle.buffer_stages.proofs.layout_stages.without_substitutions.Goals as goal

pub returns : goal.returns
returns c = c.map_glyphs.ensures item_not_substituted (λ g h r. search rules)
