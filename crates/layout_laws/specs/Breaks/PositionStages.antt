-- The positioning of a map, from cleared links to followed ones, divides texts.
use Rattle.std.specs.Prelude.{ℕ, ◌≡◌, Bool, List, [], ◌∷◌, Option, Some, None, reverse, fold}
use Rattle.buffer_glyphs.specs.Parts.{first_of}
use Rattle.buffer_core.specs.Readings.{Stage, BufferState, state_after}
use Rattle.buffer_stages.specs.Pauses.{Pauses, with_own_random}
use Rattle.layout_face.specs.declared.parts.FaceParts.{FaceParts}
use Rattle.layout_map.specs.declared.stages.StageMap.{StageMap}
use Rattle.layout_map.specs.declared.request.MapRequest.{MapRequest}
use Rattle.layout_map.specs.Compiled.{MapRequests, OtMapValue, compiled_map}
use Rattle.layout_map.specs.Requests.{with_map_request}
use Rattle.layout_offsets.specs.Starting.{links_cleared}
use Rattle.layout_positioning.specs.Positioning.{positioning_stages}
use Rattle.buffer_parts.specs.Breaks.Fragments.{standing_first, standing_last, AreFragments}
use Rattle.layout_laws.specs.Breaks.Positioned.{AreApart}
use Rattle.layout_laws.specs.Breaks.Positionable.{ArePositionable, IsDivisiblePositioning}

-- a pause, if there is one, divides texts
abbrev pub PauseDivides : Bool → Pauses → Option ℕ → Type 0
PauseDivides falls pauses None = Unit {0}
PauseDivides falls pauses (Some n) = IsDivisiblePositioning falls (pauses n)

-- the pauses of stages do
abbrev pub PausesDivide : Bool → Pauses → List StageMap → Type 0
PausesDivide falls pauses [] = Unit {0}
PausesDivide falls pauses (s ∷ stages) = PauseDivides falls pauses s.pause × PausesDivide falls pauses stages

-- law: a divisible stage of positioning is divisible with a random state of its own
abbrev pub OwnRandomIsDivisible : Type 0
OwnRandomIsDivisible = (falls : Bool) (stage : Stage) → IsDivisiblePositioning falls stage → IsDivisiblePositioning falls (with_own_random stage)

-- law: the GPOS stages of a map divide texts, where their pauses do
abbrev pub PositioningIsDivisible : Type 0
PositioningIsDivisible = (falls : Bool) (font : FaceParts) (m : OtMapValue) (pauses : Pauses) → PausesDivide falls pauses m.tables.gpos.stages → IsDivisiblePositioning falls (positioning_stages font m pauses)

-- law: once links were cleared, a whole and its fragments can be positioned, where the item that stands first after the break is no
-- later component of the one before it
abbrev pub PositioningStarts : Type 0
PositioningStarts = (falls : Bool) (c : ℕ) (whole earlier later : BufferState) → AreFragments falls c whole earlier later
    → AreApart (first_of (reverse (standing_first falls earlier.view.items later.view.items))) (first_of (standing_last falls earlier.view.items later.view.items))
    → AreFragments falls c (state_after (links_cleared whole.view) whole) (state_after (links_cleared earlier.view) earlier) (state_after (links_cleared later.view) later)
    × ArePositionable falls (state_after (links_cleared whole.view) whole) (state_after (links_cleared earlier.view) earlier) (state_after (links_cleared later.view) later)

-- law: no request of a shaper or a user adds a GPOS pause
abbrev pub RequestsPauseNoPositioning : Type 0
RequestsPauseNoPositioning = (b : MapRequests) (requests : List MapRequest) → (fold with_map_request b requests).pauses.gpos ≡ b.pauses.gpos

-- law: the GPOS stages of a compiled map divide texts, where no GPOS pause was requested
abbrev pub UnpausedPositioningIsDivisible : Type 0
UnpausedPositioningIsDivisible = (falls : Bool) (font : FaceParts) (b : MapRequests) (pauses : Pauses) → b.pauses.gpos ≡ [] → IsDivisiblePositioning falls (positioning_stages font (compiled_map b) pauses)
