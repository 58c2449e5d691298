use Rattle.layout_laws.proofs.BreakLemmas.Seams.{item_maps_keep_seams}
use Rattle.layout_laws.proofs.breaks.seam_laws.law_item_maps_keep_seams.Goals as goal

pub returns : goal.returns
returns c = item_maps_keep_seams
