-- Positions that were changed, and then glyphs.
use Rattle.std.proofs.Common.{ℕ, ap, ◌∙◌}
use Rattle.buffer_core.specs.Readings.{BufferState, always, state_after}
use Rattle.buffer_core.specs.Sides.{Sides}
use Rattle.buffer_stages.specs.Ready.{IsDone}
use Rattle.buffer_stages.specs.PositionMaps.{with_positions_mapped}
use Rattle.buffer_stages.specs.Stages.{with_items_mapped}
use Rattle.shape_glyphs.specs.Selectors.{selector_position, shown_selector, with_selectors_shown}

pub both_done : (glyph : ℕ) (s t u : Sides) → IsDone (always (with_positions_mapped selector_position)) s t → IsDone (always (with_items_mapped (shown_selector glyph))) t u → IsDone (always (with_selectors_shown glyph)) s u
both_done glyph s t u f g = record {
  follows = g.follows ∙ ap (λ (r : BufferState). state_after (with_items_mapped (shown_selector glyph) r.view) r) f.follows;
  settings = g.settings ∙ f.settings;
  ready = g.ready;
  numbers = λ are. g.numbers (f.numbers are);
}
