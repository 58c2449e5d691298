-- Masks of several features have no glyph flag.
use Rattle.std.proofs.Common.{ℕ, ◌≡◌, bit_and, bit_or, ◌∙◌}
use Rattle.std.proofs.lemmas.Nat.{and_or_apart}
use Rattle.buffer_facts.proofs.Bits.{both_without_three_bits as both_flagless}

pub three_flagless : (a b c : ℕ) → bit_and a 7 ≡ 0 → bit_and b 7 ≡ 0 → bit_and c 7 ≡ 0 → bit_and (bit_or (bit_or a b) c) 7 ≡ 0
three_flagless a b c e f g = both_flagless (bit_or a b) c (both_flagless a b e f) g
