use Rattle.shape_laws.proofs.BreakLemmas.VisualOrder.{order_divides}
use Rattle.shape_laws.proofs.breaks.glyph_laws.law_visual_order_divides.Goals as goal

pub returns : goal.returns
returns c = order_divides
