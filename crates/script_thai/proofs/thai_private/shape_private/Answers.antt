use Rattle.std.proofs.Common.{ap, ◌∙◌}
use Rattle.script_thai.specs.declared.thai_private.Consonant.TheVariants.{NotConsonant}
use Rattle.script_thai.specs.ThaiPrivate.{start_state}
use Rattle.script_thai.specs.ThaiGlyphs.{glyphs_shaped}
use Rattle.script_thai.proofs.Shaped.{shaped_followed}
use Rattle.script_thai.proofs.thai_private.shape_private.Goals as goal

pub returns : goal.returns
returns c =
    let t = c.args.tables.now in
    let font = c.args.face.now in
    shaped_followed t font c.shape.new.glyphs c.args.buffer.now
    (c.shape.ensures ∙ ap (λ s. glyphs_shaped t font s c.info_slice_mut.result.now) c.start_state.ensures ∙ ap (glyphs_shaped t font (start_state NotConsonant)) c.info_slice_mut.ensures.value)
    c.requires.ready
