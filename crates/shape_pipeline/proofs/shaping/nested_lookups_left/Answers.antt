use Rattle.shape_pipeline.proofs.Budget.{IsLeft, IsLeftRefused, of_its_own}
use Rattle.shape_pipeline.proofs.Shaped.{same_characters}
use Rattle.shape_pipeline.proofs.shaping.nested_lookups_left.Goals as goal

pub budget_left-requires : goal.budget_left-requires
budget_left-requires g c =
    let text = c.into_buffer-buffer.ensures.text in
    record { unshaped = record { closed = text.closed; unrefused = text.unrefused; characters = same_characters c.into_buffer-buffer.result text.characters } }

pub returns-clause-ok : goal.returns-clause-ok
returns-clause-ok g c =
    of_its_own c.args.face.now c.args.shape_data.tables.now (g.L.LanguageTags.tags_of c.args.shape_data.languages.now) (g.P.SyllableSpans.span_of c.args.shape_data.spans.now) c.args.features.now
    c.into_buffer-buffer.result c.guess_segment_properties.new.self _ c.in-Ok.plan _ _ _ c.into_buffer-buffer.ensures.same c.guess_segment_properties.ensures c.direction.ensures c.script.ensures c.language.ensures c.in-Ok.ensures
    (IsLeft c.budget_left.result) c.budget_left.ensures.ok

pub returns-clause-refused : goal.returns-clause-refused
returns-clause-refused g c =
    of_its_own c.args.face.now c.args.shape_data.tables.now (g.L.LanguageTags.tags_of c.args.shape_data.languages.now) (g.P.SyllableSpans.span_of c.args.shape_data.spans.now) c.args.features.now
    c.into_buffer-buffer.result c.guess_segment_properties.new.self _ c.in-Ok.plan _ _ _ c.into_buffer-buffer.ensures.same c.guess_segment_properties.ensures c.direction.ensures c.script.ensures c.language.ensures c.in-Ok.ensures
    (IsLeftRefused c.budget_left.result) c.budget_left.ensures.err
