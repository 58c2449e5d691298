-- Glyph flags at the end of shaping.
use Rattle.std.specs.Prelude.{[], ◌∷◌, map}
use Rattle.buffer_glyphs.specs.Items.{item_masked}
use Rattle.buffer_glyphs.specs.Events.{Spread}
use Rattle.buffer_core.specs.Readings.{View, Read, with_events}

-- the view where each glyph has all glyph flags of its cluster, and no other mask bit (HarfBuzz: hb_propagate_flags)
abbrev pub with_flags_spread : View → Read
with_flags_spread v = with_events (Spread ∷ []) (record v { items = map (item_masked 0) v.items })
