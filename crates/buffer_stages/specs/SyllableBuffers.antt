-- What a rule for a range of a text does to a buffer.
use Rattle.std.specs.Prelude.{ℕ, ◌≡◌, List, ◌++◌, map, take, drop}
use Rattle.buffer_glyphs.specs.Items.{Item}
use Rattle.buffer_core.specs.Readings.{View, Read, with_events}
use Rattle.buffer_core.specs.Sides.{Sides, items_of, origins_of, origins_by, settings_of, view_of}
use Rattle.buffer_stages.specs.Ready.{IsReady}
use Rattle.buffer_glyphs.specs.Rewriting.{Arrangement, shifted_event}

-- the glyphs from `from` up to before `to` were rewritten, and all else stayed
pub record IsRewritten (r : Arrangement) (from to : ℕ) (old new : Sides) : Type 0 where
  pub view : view_of new ≡ record (view_of old) { items = take from (items_of old) ++ r.items ++ drop to (items_of old) }
  pub origins : origins_of new ≡ origins_by (map (shifted_event from) r.events) old
  pub settings : settings_of new ≡ settings_of old
  pub ready : IsReady new

-- the reading of a rule on all items
abbrev pub with_rule : (List Item → Arrangement) → View → Read
with_rule rule v = with_events (rule v.items).events (record v { items = (rule v.items).items })
