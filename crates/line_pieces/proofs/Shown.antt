-- Safe breaks by the glyphs along the line.
use Rattle.std.proofs.Common.{ℕ, ◌≡◌, ◌==◌, ◌&&◌, ◌||◌, Bool, true, false, not, List, [], ◌∷◌, bit_and, length, reverse, arith, refl, sym, ap, ◌∙◌}
use Rattle.std.specs.List.{list_any}
use Rattle.std.proofs.lemmas.List.Sorted.{IsPermutation-reverse, list_any-IsPermutation}
use Rattle.kuspveli.specs.buffer_common.Direction.{is_backward}
use Rattle.kuspveli.specs.buffer_common.declared.direction.Direction.{Direction}
use Rattle.kuspveli.specs.buffer_glyphs.declared.info.TheConstants.{UNSAFE_TO_BREAK}
use Rattle.kuspveli.specs.buffer_glyphs.declared.info.hb_glyph_info_t.{hb_glyph_info_t}
use Rattle.kuspveli.specs.buffer_glyphs.declared.position.GlyphPosition.{GlyphPosition}
use Rattle.kuspveli.specs.buffer_glyphs.Items.{clusters}
use Rattle.kuspveli.specs.buffer_glyphs.Order.{has_number}
use Rattle.kuspveli.specs.shaping_buffer.buffer_core.Sides.{all_glyphs}
use Rattle.line_pieces.specs.declared.steps.Step.{Step}
use Rattle.line_pieces.specs.Laws.{FlagsShowSafeBreaks, is_flagged_at}
use Rattle.line_pieces.specs.Lines.{is_of, is_unsafe_of}
use Rattle.line_pieces.specs.Steps.{in_text_order, steps_of, text_steps}

any_turned : (b : Bool) (test : Step → Bool) (ss : List Step) → list_any test (in_text_order b ss) ≡ list_any test ss
any_turned false test ss = refl
any_turned true test ss = sym (list_any-IsPermutation test ss (reverse ss) (IsPermutation-reverse ss))

any_of : (c : ℕ) (d : Direction) (gs : List hb_glyph_info_t) (ps : List GlyphPosition) → length ps ≡ length gs → list_any (is_of c) (steps_of d gs ps) ≡ has_number (clusters gs) c
any_of c d [] ps same = refl
any_of c d (g ∷ gs) [] same = absurd (omega (arith, same))
any_of c d (g ∷ gs) (p ∷ ps) same = ap (λ t. g.cluster == c || t) (any_of c d gs ps (omega (arith, same)))

any_unsafe : (c : ℕ) (d : Direction) (gs : List hb_glyph_info_t) (ps : List GlyphPosition) → length ps ≡ length gs → list_any (is_unsafe_of c) (steps_of d gs ps) ≡ list_any (is_flagged_at c) gs
any_unsafe c d [] ps same = refl
any_unsafe c d (g ∷ gs) [] same = absurd (omega (arith, same))
any_unsafe c d (g ∷ gs) (p ∷ ps) same = ap (λ t. (g.cluster == c && not (bit_and g.mask UNSAFE_TO_BREAK == 0)) || t) (any_unsafe c d gs ps (omega (arith, same)))

pub flags_show_safe_breaks : FlagsShowSafeBreaks
flags_show_safe_breaks d r end byte same =
    let ss = steps_of d (all_glyphs r) r.positions in
    let there : list_any (is_of byte) (text_steps d r) ≡ has_number (clusters (all_glyphs r)) byte = any_turned (is_backward d) (is_of byte) ss ∙ any_of byte d (all_glyphs r) r.positions same in
    let flagged : list_any (is_unsafe_of byte) (text_steps d r) ≡ list_any (is_flagged_at byte) (all_glyphs r) = any_turned (is_backward d) (is_unsafe_of byte) ss ∙ any_unsafe byte d (all_glyphs r) r.positions same in
    ap (λ t. (byte == 0 || byte == end) || (t && not (list_any (is_unsafe_of byte) (text_steps d r)))) there
    ∙ ap (λ t. (byte == 0 || byte == end) || (has_number (clusters (all_glyphs r)) byte && not t)) flagged
