-- The invariant of ranges of characters.
use Rattle.std.specs.Prelude.{◌≡◌, true}
use Rattle.buffer_unicode.specs.Keys.{is_rising}
use Rattle.buffer_unicode.specs.Ranges.{widened_ranges}
use Rattle.buffer_unicode.specs.declared.ranges.CharacterRanges.TheInside.{Inside}

-- the ranges rise by their first characters, and are widened for the search
pub record IsSound (r : Inside) : Type 0 where
  pub rising : is_rising (λ _. 0) (λ q. q.first) r.rows.items ≡ true
  pub wide : r.widened.items ≡ widened_ranges 0 r.rows.items
