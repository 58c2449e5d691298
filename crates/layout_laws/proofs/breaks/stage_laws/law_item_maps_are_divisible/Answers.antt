use Rattle.layout_laws.proofs.BreakLemmas.ItemMaps.{item_maps_are_divisible}
use Rattle.layout_laws.proofs.breaks.stage_laws.law_item_maps_are_divisible.Goals as goal

pub returns : goal.returns
returns c = item_maps_are_divisible
