use Rattle.std.proofs.Common.{ap, refl, subst, ◌∙◌}
use Rattle.buffer_core.specs.Readings.{BufferState, always}
use Rattle.buffer_core.specs.Sides.{Sides}
use Rattle.buffer_stages.specs.Ready.{IsDone}
use Rattle.shape_text.specs.Masks.{with_one_mask}
use Rattle.shape_text.specs.Properties.{are_characters}
use Rattle.shape_pipeline.proofs.Begun.{characters_masked, rewound_begun, rewound_begun_refused, text_begun_followed, text_begun_refused}
use Rattle.shape_pipeline.proofs.Phases.{stage_refused}
use Rattle.shape_pipeline.proofs.shape_stages.ShapeStages.begin_text.Goals as goal

pub set_unicode_props-requires : goal.set_unicode_props-requires
set_unicode_props-requires g c =
    let M : Sides → Type 0 = λ t. IsDone (always (with_one_mask c.get_global_mask.result)) t c.initialize_masks.new.buffer in
    record {
      characters = record {
        ready = c.initialize_masks.ensures.ready;
        characters = characters_masked c.get_global_mask.result _ c.initialize_masks.new.buffer (subst M c.enter.ensures c.initialize_masks.ensures) (ap (λ (r : BufferState). are_characters r.view.items) c.rewind.ensures.run ∙ c.requires.unshaped.characters);
      };
    }

pub returns : goal.returns
returns g c =
    let M : Sides → Type 0 = λ t. IsDone (always (with_one_mask c.get_global_mask.result)) t c.initialize_masks.new.buffer in
    rewound_begun _ c.args.buffer.now c.rewind.new.buffer c.ensure_native_direction.new.buffer refl c.rewind.ensures.run c.rewind.ensures.settings
    (text_begun_followed _ c.get_global_mask.result c.rewind.new.buffer c.initialize_masks.new.buffer c.set_unicode_props.new.buffer c.insert_dotted_circle.new.buffer c.form_clusters.new.buffer c.ensure_native_direction.new.buffer refl c.get_global_mask.ensures.value c.rewind.ensures.ready (subst M c.enter.ensures c.initialize_masks.ensures) c.set_unicode_props.ensures c.in_ok-insert_dotted_circle.ensures c.form_clusters.ensures c.ensure_native_direction.ensures)

pub returns-in_err-insert_dotted_circle : goal.returns-in_err-insert_dotted_circle
returns-in_err-insert_dotted_circle g c =
    let M : Sides → Type 0 = λ t. IsDone (always (with_one_mask c.get_global_mask.result)) t c.initialize_masks.new.buffer in
    stage_refused c.from_residual.result c.in_err-insert_dotted_circle.field-0.0 _ _ _ c.from_residual.ensures.1 (λ not_memory. rewound_begun_refused _ c.args.buffer.now c.rewind.new.buffer c.in_err-insert_dotted_circle.field-0.0 refl c.rewind.ensures.run c.rewind.ensures.settings
    (text_begun_refused _ c.get_global_mask.result c.rewind.new.buffer c.initialize_masks.new.buffer c.set_unicode_props.new.buffer c.in_err-insert_dotted_circle.field-0.0 refl c.get_global_mask.ensures.value c.rewind.ensures.ready (subst M c.enter.ensures c.initialize_masks.ensures) c.set_unicode_props.ensures (c.in_err-insert_dotted_circle.ensures not_memory)))
