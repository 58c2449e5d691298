use Rattle.std.proofs.Common.{ap, arith, length, map, ◌∙◌}
use Rattle.std.proofs.lemmas.List.{length-map}
use Rattle.buffer_glyphs.specs.Items.{strip}
use Rattle.layout_match.specs.Applied.{apply_context_of, own_search}
use Rattle.layout_match.specs.Sequences.{is_glyph}
use Rattle.layout_gsub.proofs.Found.{input_found}
use Rattle.layout_gsub.proofs.ligature.apply_ligature.Goals as goal

pub ligate_input-requires-clause-rising : goal.ligate_input-requires-clause-rising
ligate_input-requires-clause-rising c =
    let xs = strip c.args.buffer.now.ahead in
    (input_found (own_search (apply_context_of c.args.ctx.now) xs) (map is_glyph c.components.result.now) xs c.in-Ok.end c.as_slice.result.now c.in-Ok.ensures.end (c.as_slice.ensures.value ∙ c.match_input.ensures.positions (omega (arith, length-map c.components.result.now is_glyph, c.requires.few, ap length c.components.ensures)))).rising

pub ligate_input-requires-clause-end : goal.ligate_input-requires-clause-end
ligate_input-requires-clause-end c =
    let xs = strip c.args.buffer.now.ahead in
    (input_found (own_search (apply_context_of c.args.ctx.now) xs) (map is_glyph c.components.result.now) xs c.in-Ok.end c.as_slice.result.now c.in-Ok.ensures.end (c.as_slice.ensures.value ∙ c.match_input.ensures.positions (omega (arith, length-map c.components.result.now is_glyph, c.requires.few, ap length c.components.ensures)))).end_is
