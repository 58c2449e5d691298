use Rattle.std.specs.List.{list_any}
use Rattle.std.proofs.Common.{ℕ, ◌≡◌, ◌==◌, ◌/◌, take}
use Rattle.layout_common.specs.Bits.{has_bit}
use Rattle.layout_common.proofs.glyph_bits.GlyphBits.new.Given as goal

-- the bits of the glyphs so far are set
abbrev pub invariant-loop-glyph : goal.invariant-loop-glyph
invariant-loop-glyph l = record {
  start : l.bits.start ≡ l.first / 64;
  bits : (g : ℕ) → has_bit l.bits.start l.bits.words.items g ≡ list_any (λ h. h == g) (take l.glyph-index l.glyphs);
}
