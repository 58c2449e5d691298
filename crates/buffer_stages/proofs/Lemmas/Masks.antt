-- Masks and the three glyph flags in them.
use Rattle.std.proofs.Common.{ℕ, ◌≡◌, ◌-◌, ◌*◌, ◌/◌, ◌%◌, arith, ap, sym, ◌∙◌}
use Rattle.std.specs.Prelude.{bit_and, bit_or}
use Rattle.std.proofs.lemmas.Nat.{and_le_l, and_mask, and_mod, and_shr, or_shr}
use Rattle.buffer_glyphs.specs.Items.{without_flags}
use Rattle.buffer_core.proofs.Masked.{without_flags_is}

-- the three flags don't tell what the bits above them become
pub mask_above : (m mask : ℕ) → without_flags (bit_or m mask) ≡ without_flags (bit_or (without_flags m) mask)
mask_above m mask =
    let high : without_flags m / 8 ≡ m / 8 = (let is = without_flags_is m in omega (arith, is)) in
    let same = or_shr m mask 3 ∙ ap (λ n. bit_or n (mask / 8)) (sym high) ∙ sym (or_shr (without_flags m) mask 3) in
    without_flags_is (bit_or m mask) ∙ ap (λ n. n * 8) same ∙ sym (without_flags_is (bit_or (without_flags m) mask))
