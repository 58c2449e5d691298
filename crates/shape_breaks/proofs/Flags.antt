-- The flags of a result's glyphs show where it may be cut.
use Rattle.std.proofs.Common.{ℕ, zero, suc, ◌≡◌, ◌<◌, ◌%◌, ◌==◌, ◌&&◌, ◌||◌, ◌↔◌, not, Bool, true, false, List, [], ◌∷◌, map, bit_and, arith, refl, sym, ap, ◌∙◌}
use Rattle.std.specs.Prelude.{IsTrue}
use Rattle.std.specs.List.{list_any}
use Rattle.std.proofs.lemmas.Nat.{and_assoc, and_mask}
use Rattle.buffer_facts.proofs.Truth.{and_true, both_true, false_by_not}
use Rattle.buffer_glyphs.specs.declared.info.TheConstants.{UNSAFE_TO_BREAK}
use Rattle.buffer_glyphs.specs.declared.info.hb_glyph_info_t.{hb_glyph_info_t}
use Rattle.buffer_glyphs.specs.Order.{has_number}
use Rattle.buffer_glyphs.specs.Origins.{numbers, origin_of, origins}
use Rattle.buffer_core.specs.Sides.{Sides, all_glyphs, state_of}
use Rattle.buffer_parts.specs.Breaks.Unsafe.{has_flagged_of, is_flagged_of}
use Rattle.shape_laws.specs.Breaks.InLine.{MayBeCutAt}
use Rattle.shape_breaks.specs.Cuts.{has_safe_glyph, is_of, is_unsafe_of}

has_read : (c : ℕ) (gs : List hb_glyph_info_t) → has_number (numbers (origins gs)) c ≡ list_any (is_of c) gs
has_read c [] = refl
has_read c (g ∷ gs) = ap (λ t. is_of c g || t) (has_read c gs)

one_or_none : (n : ℕ) → n < 2 → (n == 1) ≡ not (n == 0)
one_or_none zero less = refl
one_or_none (suc zero) less = refl
one_or_none (suc (suc n)) less = absurd (omega (arith, less))

flag_read : (m : ℕ) → (bit_and (bit_and m 7) 1 == 1) ≡ not (bit_and m UNSAFE_TO_BREAK == 0)
flag_read m =
    let bit : bit_and (bit_and m 7) 1 ≡ bit_and m 1 = and_assoc 1 m 7 in
    let mask : bit_and m 1 ≡ m % 2 = and_mask m 1 in
    ap (λ n. n == 1) bit ∙ one_or_none (bit_and m 1) (omega (arith, mask))

flagged_read : (c : ℕ) (gs : List hb_glyph_info_t) → has_flagged_of c (origins gs) ≡ list_any (is_unsafe_of c) gs
flagged_read c [] = refl
flagged_read c (g ∷ gs) =
    let here : is_flagged_of c (origin_of g) ≡ is_unsafe_of c g = ap (λ t. g.cluster == c && t) (flag_read g.mask) in
    ap (λ t. t || has_flagged_of c (origins gs)) here ∙ ap (λ t. is_unsafe_of c g || t) (flagged_read c gs)

not_by_false : (b : Bool) → b ≡ false → not b ≡ true
not_by_false true e = cc
not_by_false false e = refl

pub safe_decides : (c : ℕ) (r : Sides) → IsTrue (has_safe_glyph c (all_glyphs r)) ↔ MayBeCutAt c (state_of r)
safe_decides c r = (is_safe, is_tested)
  where
    is_safe : has_safe_glyph c (all_glyphs r) ≡ true → MayBeCutAt c (state_of r)
    is_safe h =
        let two = both_true (list_any (is_of c) (all_glyphs r)) (not (list_any (is_unsafe_of c) (all_glyphs r))) h in
        record { there = has_read c (all_glyphs r) ∙ two.0; safe = flagged_read c (all_glyphs r) ∙ false_by_not (list_any (is_unsafe_of c) (all_glyphs r)) two.1 }

    is_tested : MayBeCutAt c (state_of r) → has_safe_glyph c (all_glyphs r) ≡ true
    is_tested may = and_true (list_any (is_of c) (all_glyphs r)) (not (list_any (is_unsafe_of c) (all_glyphs r))) (sym (has_read c (all_glyphs r)) ∙ may.there) (not_by_false (list_any (is_unsafe_of c) (all_glyphs r)) (sym (flagged_read c (all_glyphs r)) ∙ may.safe))
