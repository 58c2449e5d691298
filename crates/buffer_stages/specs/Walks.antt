-- A text on its way through an open output.
use Rattle.std.specs.Prelude.{ℕ, ◌≡◌, ◌≢◌, ◌<◌, true, List, [], ◌∷◌}
use Rattle.buffer_glyphs.specs.declared.cause.ShapeCause.{ShapeCause}
use Rattle.buffer_glyphs.specs.declared.cause.ShapeCause.TheVariants.{OutOfMemory, TooLong}
use Rattle.buffer_glyphs.specs.Items.{Item, strip}
use Rattle.buffer_glyphs.specs.Replacements.{item_numbered}
use Rattle.buffer_glyphs.specs.Events.{Event}
use Rattle.buffer_core.specs.Sides.{Sides, items_of, view_of, settings_of, origins_of, origins_by}

-- the items behind the cursor and ahead of it now, after some events; all else stays
pub record HasWalked (out rest : List Item) (events : List Event) (old new : Sides) : Type 0 where
  pub behind : strip new.behind ≡ out
  pub ahead : strip new.ahead ≡ rest
  pub happened : origins_of new ≡ origins_by events old
  pub view : view_of new ≡ record (view_of old) { items = items_of new }
  pub settings : settings_of new ≡ settings_of old
  pub opened : new.is_open ≡ true
  pub unrefused : new.has_refused ≡ old.has_refused

-- a call refuses for want of memory, or since n items do not fit behind the cursor
abbrev pub RefusesLength : ℕ → ShapeCause → Sides → Type 0
RefusesLength n e old = e ≢ OutOfMemory → (e ≡ TooLong) × (old.max_len < n)

-- the first of some items, under another number
abbrev pub renumbered_first : ℕ → List Item → List Item
renumbered_first n [] = []
renumbered_first n (x ∷ xs) = item_numbered x n ∷ []
