use Rattle.shape_laws.proofs.BreakLemmas.Pauses.{tile_records_are_divisible}
use Rattle.shape_laws.proofs.breaks.pause_laws.law_tile_records_are_divisible.Goals as goal

pub returns : goal.returns
returns c = tile_records_are_divisible
