-- The masks at the start of shaping.
use Rattle.std.specs.Prelude.{ℕ, [], ◌∷◌, map}
use Rattle.buffer_glyphs.specs.Items.{item_masked}
use Rattle.buffer_glyphs.specs.Events.{Reset}
use Rattle.buffer_core.specs.Readings.{View, Read, with_events}

-- the view where each item has the same mask and no glyph flag
abbrev pub with_one_mask : ℕ → View → Read
with_one_mask mask v = with_events (Reset ∷ []) (record v { items = map (item_masked mask) v.items })
