use Rattle.std.proofs.Common.{ℕ, ◌≡◌, length}
use Rattle.layout_common.specs.Bits.{has_bit}
use Rattle.layout_common.proofs.glyph_bits.lengthen.Given as goal

-- as many words as were counted, with the same bits
abbrev pub invariant-loop : goal.invariant-loop
invariant-loop l = record {
  size : length l.words.items ≡ l.counter;
  same : (start g : ℕ) → has_bit start l.words.items g ≡ has_bit start l.fn.words.items g;
}
