use Rattle.std.proofs.Common.{ap, ◌∙◌, map}
use Rattle.buffer_glyphs.specs.declared.info.hb_glyph_info_t.{hb_glyph_info_t}
use Rattle.script_syllabic.specs.Bytes.{syllables_set}
use Rattle.script_syllabic.proofs.Does.{does_stage}
use Rattle.script_syllabic.proofs.Marking.{set_up, set_up_refused}
use Rattle.script_syllabic.proofs.syllables.setup_syllables.Goals as goal

pub returns : goal.returns
returns g c =
    let spans = g.S.SyllableSpans.span_of c.args.spans.now in
    let same = c.deref.ensures.value ∙ c.in_ok-categories.ensures ∙ ap (map (λ (g : hb_glyph_info_t). g.category)) c.info_slice.ensures in
    does_stage (syllables_set spans c.args.shaper) c.set_bytes.result c.args.buffer.now c.set_bytes.new.buffer
    (set_up spans c.args.shaper c.deref.result.now c.args.buffer.now c.set_bytes.new.buffer c.set_bytes.result same c.set_bytes.ensures.ok)
    (set_up_refused spans c.args.shaper c.deref.result.now c.args.buffer.now c.set_bytes.result same c.set_bytes.ensures.err)
