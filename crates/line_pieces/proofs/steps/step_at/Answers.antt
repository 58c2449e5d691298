use Rattle.std.proofs.Common.{◌≡◌, ap, arith, sym, ◌∙◌, length}
use Rattle.kuspveli.specs.buffer_common.Direction.{is_backward}
use Rattle.kuspveli.specs.shaping_buffer.buffer_core.Sides.{all_glyphs}
use Rattle.line_pieces.specs.Steps.{text_index}
use Rattle.line_pieces.proofs.TextOrder.{step_there}
use Rattle.line_pieces.proofs.steps.step_at.Goals as goal

pub returns-clause-step : goal.returns-clause-step
returns-clause-step c =
    let r = c.args.glyphs.now in
    let d = c.args.direction in
    let at = c.args.at in
    let same : length r.positions ≡ length (all_glyphs r) = ap length (sym c.glyph_positions.ensures.same) ∙ c.glyph_positions.ensures.len in
    let index : c.text_index-i.result ≡ text_index (is_backward d) (length (all_glyphs r)) at = c.text_index-i.ensures.index ∙ ap (λ b. text_index b c.len.result at) c.is_backward.ensures ∙ ap (λ n. text_index (is_backward d) n at) c.len.ensures in
    step_there d r at c.text_index-i.result c.glyph_infos.result.now c.glyph_positions.result.now _ _ c.step_of.result c.glyph_infos.ensures c.glyph_positions.ensures.same same c.requires index (omega arith) c.step_of.ensures.step
