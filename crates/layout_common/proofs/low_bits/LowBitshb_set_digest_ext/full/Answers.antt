use Rattle.layout_common.proofs.LowBits.{full_low}
use Rattle.layout_common.proofs.low_bits.LowBitshb_set_digest_ext.full.Goals as goal

pub returns : goal.returns
returns c = full_low
