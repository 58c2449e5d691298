-- The glyphs of a paragraph in the order of its text.
use Rattle.std.specs.Prelude.{ℕ, ℤ, ◌-◌, ◌==◌, neg_ℤ, Bool, true, false, nat_lt, not, if◌then◌else◌, List, [], ◌∷◌, bit_and, reverse}
use Rattle.kuspveli.specs.buffer_common.Direction.{is_backward, is_horizontal}
use Rattle.kuspveli.specs.buffer_common.declared.direction.Direction.{Direction}
use Rattle.kuspveli.specs.buffer_glyphs.declared.info.TheConstants.{UNSAFE_TO_BREAK}
use Rattle.kuspveli.specs.buffer_glyphs.declared.info.hb_glyph_info_t.{hb_glyph_info_t}
use Rattle.kuspveli.specs.buffer_glyphs.declared.position.GlyphPosition.{GlyphPosition}
use Rattle.kuspveli.specs.shaping_buffer.buffer_core.Sides.{Sides, all_glyphs}
use Rattle.line_pieces.specs.declared.steps.Step.{Step}

-- the advance of a glyph along its line; on a vertical line downward, where positions fall
abbrev pub advance_along : Direction → GlyphPosition → ℤ
advance_along d p = if is_horizontal d then p.x_advance else neg_ℤ p.y_advance

-- a glyph as lines are filled with it: its cluster, its advance along the line, and whether it has UNSAFE_TO_BREAK
abbrev pub step_of : Direction → hb_glyph_info_t → GlyphPosition → Step
step_of d g p = record { cluster = g.cluster; advance = advance_along d p; is_unsafe = not (bit_and g.mask UNSAFE_TO_BREAK == 0) }

-- glyphs as lines are filled with them, each with its position
abbrev pub steps_of : Direction → List hb_glyph_info_t → List GlyphPosition → List Step
steps_of d [] ps = []
steps_of d (g ∷ gs) [] = []
steps_of d (g ∷ gs) (p ∷ ps) = step_of d g p ∷ steps_of d gs ps

-- what stands along a line in the order of the text: on a backward line from its end
abbrev pub in_text_order : Bool → List Step → List Step
in_text_order false ss = ss
in_text_order true ss = reverse ss

-- the glyphs of a result as lines are filled with them, in the order of the text
abbrev pub text_steps : Direction → Sides → List Step
text_steps d r = in_text_order (is_backward d) (steps_of d (all_glyphs r) r.positions)

-- the index in the order of the text of one of n glyphs, by its index along the line; and the other way round
abbrev pub text_index : Bool → ℕ → ℕ → ℕ
text_index false n k = k
text_index true n k = n - 1 - k

-- whether a cluster is before the last one, or on a backward line after it
abbrev pub steps_back : Bool → ℕ → ℕ → Bool
steps_back false last c = nat_lt c last
steps_back true last c = nat_lt last c

-- whether no cluster steps back from the one before it
abbrev pub keep_order : Bool → ℕ → List ℕ → Bool
keep_order backward last [] = true
keep_order backward last (c ∷ cs) = if steps_back backward last c then false else keep_order backward c cs
