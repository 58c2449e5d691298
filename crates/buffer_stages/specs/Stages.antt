-- What a pipeline stage before or after the lookups leaves of a buffer.
use Rattle.std.specs.Prelude.{◌≡◌, ◌≢◌, List, [], map, Result, Ok, Err}
use Rattle.std.specs.Fn.{Shared, FnReturnsAt}
use denote.Ref.{Bor}
use Rattle.buffer_glyphs.specs.declared.cause.ShapeCause.{ShapeCause}
use Rattle.buffer_glyphs.specs.declared.cause.ShapeCause.TheVariants.{OutOfMemory}
use Rattle.buffer_glyphs.specs.declared.info.hb_glyph_info_t.{hb_glyph_info_t}
use Rattle.buffer_glyphs.specs.Items.{Item, Position, item_of, strip}
use Rattle.buffer_glyphs.specs.Origins.{origin_of, origins}
use Rattle.buffer_glyphs.specs.Events.{Event}
use Rattle.buffer_core.specs.Readings.{View, Read, Stage, with_events, Follows, reading_of}
use Rattle.buffer_core.specs.Sides.{Sides, settings_of, view_of, state_of, origins_of, origins_by}
use Rattle.buffer_stages.specs.Ready.{IsReady}

-- a stage was done: view, clusters and flags follow its reading, and the settings stay
pub record IsFollowed (stage : Stage) (old new : Sides) : Type 0 where
  pub follows : Follows (reading_of stage (state_of old)) (state_of old) (state_of new)
  pub settings : settings_of new ≡ settings_of old
  pub ready : IsReady new

-- what a call that does a pipeline stage leaves: where it answers Ok, the buffer follows the stage's reading; where it
-- answers Err, the cause is the reading's own or want of memory
abbrev pub DoesStage : {X : Type 0} → Stage → Result X ShapeCause → Sides → Sides → Type 0
DoesStage stage (Ok x) old new = IsFollowed stage old new
DoesStage stage (Err e) old new = e ≢ OutOfMemory → reading_of stage (state_of old) ≡ Err e

-- the clusters and flags follow some events, and all else stays
pub record Happens (events : List Event) (old new : Sides) : Type 0 where
  pub view : view_of new ≡ view_of old
  pub origins : origins_of new ≡ origins_by events old
  pub settings : settings_of new ≡ settings_of old
  pub ready : IsReady new

-- other items and other positions, as many as before, and all else as it was
pub record Becomes (items : List Item) (positions : List Position) (old new : Sides) : Type 0 where
  pub view : view_of new ≡ record (view_of old) { items = items; positions = positions }
  pub origins : origins_of new ≡ origins_of old
  pub settings : settings_of new ≡ settings_of old
  pub ready : IsReady new

-- the reading of a stage that changes each item by itself
abbrev pub with_items_mapped : (Item → Item) → View → Read
with_items_mapped k v = with_events [] (record v { items = map k v.items })

-- the glyphs are the old items under a map, with the old origins
pub record AreMapped (k : Item → Item) (old new : List hb_glyph_info_t) : Type 0 where
  pub items : strip new ≡ map k (strip old)
  pub origins : origins new ≡ origins old

-- each glyph that a function makes of another is its item under a map, with its origin
abbrev pub Makes : {F : Type 0} → Shared F (Bor hb_glyph_info_t × Unit {0}) hb_glyph_info_t → F → (Item → Item) → Type 0
Makes calls f k = (g h : hb_glyph_info_t) → FnReturnsAt calls f g h → (item_of h ≡ k (item_of g)) × (origin_of h ≡ origin_of g)
