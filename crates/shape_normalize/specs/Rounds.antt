-- Normalizing as a stage of the pipeline, and what its rounds leave.
use Rattle.std.specs.Prelude.{◌≡◌, length}
use Rattle.buffer_core.specs.Readings.{Stage}
use Rattle.buffer_core.specs.Sides.{Sides, origins_by, origins_of, settings_of, view_of}
use Rattle.buffer_stages.specs.Ready.{IsReady}
use Rattle.buffer_glyphs.specs.Rewriting.{Arrangement}
use Rattle.buffer_properties.specs.Expanding.{expanded_list}
use Rattle.buffer_properties.specs.NormalizedList.{normalized_items}
use Rattle.buffer_properties.specs.Normalizer.{Normalizer}
use Rattle.buffer_stages.specs.Appending.{with_arranged, within_limit}

-- the stage that normalizes the list and resets all positions to zero; it fails where the decomposed list would have
-- more than `max_len` items (HarfBuzz: hb_ot_shape_normalize)
abbrev pub normalization : Normalizer → Stage
normalization c v = within_limit (length (expanded_list c v.items).items) v (with_arranged (normalized_items c v.items) v)

-- the arrangement is the whole state of a buffer, with all positions zero
pub record IsArranged (a : Arrangement) (old new : Sides) : Type 0 where
  pub view : view_of new ≡ (with_arranged a (view_of old)).view
  pub origins : origins_of new ≡ origins_by a.events old
  pub settings : settings_of new ≡ settings_of old
  pub ready : IsReady new
