use Rattle.layout_map_features.proofs.Bits.{own_bits_are_apart}
use Rattle.layout_map_features.proofs.laws.law_own_bits_are_apart.Goals as goal

pub returns : goal.returns
returns c = own_bits_are_apart
