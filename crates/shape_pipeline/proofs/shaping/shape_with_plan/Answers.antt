use Rattle.shape_pipeline.proofs.Shaped.{HandsOn, IsLeftEmpty, Keeps, refused_as_guessed, same_characters, shaped_as_guessed, holds_as_guessed}
use Rattle.shape_pipeline.specs.Shaped.{by_plan}
use Rattle.shape_pipeline.proofs.shaping.shape_with_plan.Goals as goal

pub shape_guessed-requires : goal.shape_guessed-requires
shape_guessed-requires g c =
    let text = c.into_buffer.ensures.text in
    record { unshaped = record { closed = text.closed; unrefused = text.unrefused; characters = same_characters c.into_buffer.result text.characters } }

pub returns-clause-ok : goal.returns-clause-ok
returns-clause-ok g c =
    let plan = c.args.plan.now in
    shaped_as_guessed (by_plan (g.S.PlannedShaper.traits plan.shaper) (g.S.hb_ot_shaper_t.rules plan.shaper plan.script_plan) plan c.args.face.now c.args.shape_data.tables.now (g.P.SyllableSpans.span_of c.args.shape_data.spans.now))
    c.shape_guessed.result c.into_buffer.result c.guess_segment_properties.new.self _ c.into_buffer.ensures.same c.guess_segment_properties.ensures c.shape_guessed.ensures.ok

pub returns-clause-refused : goal.returns-clause-refused
returns-clause-refused g c =
    let plan = c.args.plan.now in
    refused_as_guessed (by_plan (g.S.PlannedShaper.traits plan.shaper) (g.S.hb_ot_shaper_t.rules plan.shaper plan.script_plan) plan c.args.face.now c.args.shape_data.tables.now (g.P.SyllableSpans.span_of c.args.shape_data.spans.now))
    c.shape_guessed.result c.into_buffer.result c.guess_segment_properties.new.self _ c.into_buffer.ensures.same c.guess_segment_properties.ensures c.shape_guessed.ensures.refused

pub returns-clause-empty : goal.returns-clause-empty
returns-clause-empty g c = holds_as_guessed IsLeftEmpty c.shape_guessed.result c.into_buffer.result c.guess_segment_properties.new.self _ c.into_buffer.ensures.same c.guess_segment_properties.ensures c.shape_guessed.ensures.empty

pub returns-clause-handed_on : goal.returns-clause-handed_on
returns-clause-handed_on g c = holds_as_guessed HandsOn c.shape_guessed.result c.into_buffer.result c.guess_segment_properties.new.self _ c.into_buffer.ensures.same c.guess_segment_properties.ensures c.shape_guessed.ensures.handed_on

pub returns-clause-direction : goal.returns-clause-direction
returns-clause-direction g c =
    holds_as_guessed (Keeps c.args.plan.now.script_plan.direction) c.shape_guessed.result c.into_buffer.result c.guess_segment_properties.new.self _ c.into_buffer.ensures.same c.guess_segment_properties.ensures c.shape_guessed.ensures.direction
