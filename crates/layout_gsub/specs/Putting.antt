-- A glyph that is output, by its item and its origin.
use Rattle.std.specs.Prelude.{◌≡◌, [], ◌∷◌, ◌++◌}
use Rattle.buffer_glyphs.specs.Items.{Item, strip}
use Rattle.buffer_glyphs.specs.Origins.{Origin, origins}
use Rattle.buffer_core.specs.Sides.{Sides}

-- a glyph of such an item and origin was output, and nothing else changes but whether the output is apart
pub record IsPut (x : Item) (o : Origin) (old new : Sides) : Type 0 where
  pub items : strip new.behind ≡ strip old.behind ++ x ∷ []
  pub origin : origins new.behind ≡ origins old.behind ++ o ∷ []
  pub others : new ≡ record old { behind = new.behind; is_apart = new.is_apart }
