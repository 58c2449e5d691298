-- Links are followed in a text as in its fragments.
use Rattle.std.specs.Prelude.{◌≡◌, ◌++◌, Bool, List}
use Rattle.buffer_common.specs.declared.direction.Direction.{Direction}
use Rattle.buffer_glyphs.specs.Items.{Position}
use Rattle.buffer_core.specs.Readings.{always}
use Rattle.layout_offsets.specs.FollowedLinks.{finished_positions}
use Rattle.layout_offsets.specs.Finishing.{links_followed}
use Rattle.layout_laws.specs.Breaks.Positioned.{LeadInside}
use Rattle.layout_laws.specs.Breaks.Positionable.{IsDivisiblePositioning}

-- law: the links of two lists of positions, one after the other, are followed in each by itself, where they lead inside each
abbrev pub LinksAreFollowedApart : Type 0
LinksAreFollowedApart = (d : Direction) (ps qs : List Position) → LeadInside ps → LeadInside qs → finished_positions d (ps ++ qs) ≡ finished_positions d ps ++ finished_positions d qs

-- law: the stage that follows links divides texts
abbrev pub FollowingIsDivisible : Type 0
FollowingIsDivisible = (falls : Bool) → IsDivisiblePositioning falls (always links_followed)
