-- Bits of a mask that are cleared, none of which is a glyph flag.
use Rattle.std.proofs.Common.{ℕ, ◌≡◌, ◌+◌, ◌-◌, ◌/◌, ◌%◌, refl, ap, ◌∙◌, sym, arith}
use Rattle.std.specs.Prelude.{bit_and}
use Rattle.std.specs.Int.Bits.{and_zero_r}
use Rattle.std.proofs.lemmas.Nat.{and_le_l, and_mask, and_mod, and_shr}
use Rattle.buffer_glyphs.specs.declared.info.hb_glyph_info_t.{hb_glyph_info_t}
use Rattle.buffer_glyphs.specs.Items.{item_of, without_flags}
use Rattle.buffer_glyphs.specs.Origins.{origin_of}
use Rattle.script_indic_reordering.specs.Masks.{own_bits, without_bits}
use Rattle.buffer_core.proofs.Masked.{high_cleared, without_flags_is}
use Rattle.buffer_facts.proofs.Bits.{three_bits_stay as flags_stay}

pub own_no_flags : (bits n : ℕ) → n ≡ own_bits bits → bit_and n 7 ≡ 0
own_no_flags bits n e =
    let low = and_mod bits 0x8000_0007 3 in
    let seven = and_mask (bits % 8) 3 in
    let most = and_le_l bits 0x8000_0007 in
    let flags = and_mask n 3 in
    omega (arith, low, seven, most, e, flags)

cleared_above : (m under : ℕ) → under % 8 ≡ 0 → without_flags (m - bit_and m under) ≡ without_flags m - bit_and (without_flags m) under
cleared_above m under none =
    let a = without_flags_is (m - bit_and m under) in
    let b = high_cleared m under in
    let n = without_flags m in
    let is = without_flags_is m in
    let same : n / 8 ≡ m / 8 = omega (arith, is) in
    let low : n % 8 ≡ 0 = omega (arith, is) in
    let c = and_shr n under 3 in
    let d = and_mod n under 3 in
    let e : bit_and (n / 8) (under / 8) ≡ bit_and (m / 8) (under / 8) = ap (λ k. bit_and k (under / 8)) same in
    let f : bit_and (n % 8) (under % 8) ≡ 0 = ap (bit_and (n % 8)) none ∙ and_zero_r (n % 8) in
    let some = and_le_l (m / 8) (under / 8) in
    omega (arith, a, b, is, c, d, e, f, some)

flagless : (bits : ℕ) → bit_and bits 7 ≡ 0 → bits % 8 ≡ 0
flagless bits e = let low = and_mask bits 3 in omega (arith, low, e)

pub item_cleared : (bits : ℕ) (g : hb_glyph_info_t) → bit_and bits 7 ≡ 0 → item_of (record g { mask = g.mask - bit_and g.mask bits }) ≡ without_bits bits (item_of g)
item_cleared bits g e = ap (λ m. record (item_of g) { mask = m }) (cleared_above g.mask bits (flagless bits e))

pub origin_cleared : (bits : ℕ) (g : hb_glyph_info_t) → bit_and bits 7 ≡ 0 → origin_of (record g { mask = g.mask - bit_and g.mask bits }) ≡ origin_of g
origin_cleared bits g e = ap (λ f. record (origin_of g) { flags = f }) (flags_stay g.mask bits (flagless bits e))
