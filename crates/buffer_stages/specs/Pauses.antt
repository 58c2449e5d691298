-- The pauses between the GSUB stages of a map.
use Rattle.std.specs.Prelude.{ℕ, ◌==◌, ◌≡◌, true, List, [], Option, Some, None}
use Rattle.std.specs.List.{list_any}
use Rattle.buffer_glyphs.specs.Items.{Item}
use Rattle.buffer_core.specs.Readings.{Stage, and_then, always, with_events, as_it_is}

-- a pipeline stage that draws from a random state of its own, 1 at first, which is then dropped
abbrev pub with_own_random : Stage → Stage
with_own_random stage v = and_then (stage (record v { random = 1 })) (always (λ w. with_events [] (record w { random = v.random })))

-- the pipeline stage of each pause, by its number
abbrev pub Pauses : Type 0
Pauses = ℕ → Stage

-- the stage of a pause, if there is one, with a random state of its own
abbrev pub pause_stage : Pauses → Option ℕ → Stage
pause_stage pauses None v = as_it_is v
pause_stage pauses (Some n) v = with_own_random (pauses n) v

-- each glyph number after was there before
abbrev pub BringsNoGlyph : List Item → List Item → Type 0
BringsNoGlyph old new = (n : ℕ) → list_any (λ (x : Item). x.number == n) new ≡ true → list_any (λ (x : Item). x.number == n) old ≡ true
