use Rattle.std.proofs.Common.{Ok, Err, ap, sym, ◌∙◌}
use Rattle.buffer_core.specs.Sides.{Sides}
use Rattle.shape_pipeline.proofs.Shaped.{direction_kept, empty_shaped, refused_by_its_own, same_characters, shaped_by_its_own, text_follows, text_refused}
use Rattle.shape_pipeline.specs.Shaped.{by_text}
use Rattle.shape_pipeline.proofs.shaping.shape.Goals as goal

pub shape_internal-requires : goal.shape_internal-requires
shape_internal-requires g c =
    let text = c.into_buffer-buffer.ensures.text in
    record { unshaped = record { closed = text.closed; unrefused = text.unrefused; characters = same_characters c.into_buffer-buffer.result text.characters } }

pub returns-in-Ok-shape_internal-clause-ok : goal.returns-in-Ok-shape_internal-clause-ok
returns-in-Ok-shape_internal-clause-ok g c =
    let glyphs = c.from_buffer-in-Ok-shape_internal.result in
    shaped_by_its_own c.args.face.now c.args.shape_data.tables.now (g.L.LanguageTags.tags_of c.args.shape_data.languages.now) (g.P.SyllableSpans.span_of c.args.shape_data.spans.now) c.args.features.now
    c.into_buffer-buffer.result c.guess_segment_properties.new.self _ c.in-Ok.plan _ _ _ c.into_buffer-buffer.ensures.same c.guess_segment_properties.ensures c.direction.ensures c.script.ensures c.language.ensures c.in-Ok.ensures
    (Ok glyphs) (text_follows _ c.into_buffer-buffer.result c.shape_internal.new.buffer glyphs c.from_buffer-in-Ok-shape_internal.ensures (sym c.is_empty.ensures ∙ c.if-is_empty.false) c.in-Ok-shape_internal.ensures.ok)

pub returns-clause-refused : goal.returns-clause-refused
returns-clause-refused g c =
    let fault = c.fault-in-Err-shape_internal in
    refused_by_its_own c.args.face.now c.args.shape_data.tables.now (g.L.LanguageTags.tags_of c.args.shape_data.languages.now) (g.P.SyllableSpans.span_of c.args.shape_data.spans.now) c.args.features.now
    c.into_buffer-buffer.result c.guess_segment_properties.new.self _ c.in-Ok.plan _ _ _ c.into_buffer-buffer.ensures.same c.guess_segment_properties.ensures c.direction.ensures c.script.ensures c.language.ensures c.in-Ok.ensures
    (Err fault.result) (λ not_memory. text_refused _ c.into_buffer-buffer.result c.in-Err-shape_internal.cause fault.result.cause fault.ensures.cause (sym c.is_empty.ensures ∙ c.if-is_empty.false) (c.in-Err-shape_internal.ensures.err (λ is. not_memory (fault.ensures.cause ∙ is))))

pub returns-then-is_empty-clause-ok : goal.returns-then-is_empty-clause-ok
returns-then-is_empty-clause-ok g c =
    empty_shaped (by_text c.args.face.now c.args.shape_data.tables.now (g.L.LanguageTags.tags_of c.args.shape_data.languages.now) (g.P.SyllableSpans.span_of c.args.shape_data.spans.now) c.args.features.now)
    c.into_buffer-buffer.result c.guess_segment_properties.new.self _ c.from_buffer.result c.into_buffer-buffer.ensures.same c.guess_segment_properties.ensures (c.from_buffer.ensures ∙ c.leave_empty.ensures.left) (sym c.is_empty.ensures ∙ c.if-is_empty.true)

pub returns-in-Ok-shape_internal-clause-direction : goal.returns-in-Ok-shape_internal-clause-direction
returns-in-Ok-shape_internal-clause-direction g c =
    let glyphs = c.from_buffer-in-Ok-shape_internal.result in
    direction_kept _ _ _ _ _ c.in-Ok.plan (Ok glyphs) c.into_buffer-buffer.result c.guess_segment_properties.new.self _ c.in-Ok.ensures c.direction.ensures c.into_buffer-buffer.ensures.same c.guess_segment_properties.ensures
    (λ of. ap (λ (s : Sides). s.direction) c.from_buffer-in-Ok-shape_internal.ensures ∙ c.in-Ok-shape_internal.ensures.direction ∙ of)
