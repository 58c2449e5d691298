-- Lookups of positioning, one after another, divide texts.
use Rattle.std.specs.Prelude.{Bool, List, map}
use Rattle.buffer_glyphs.specs.Items.{Position}
use Rattle.buffer_core.specs.Readings.{Stage, and_then}
use Rattle.layout_face.specs.declared.parts.FaceParts.{FaceParts}
use Rattle.layout_face.specs.declared.positioning.PositioningLookup.{PositioningLookup}
use Rattle.layout_map_features.specs.declared.lookup.lookup_map_t.{lookup_map_t}
use Rattle.layout_match.specs.Applied.{ApplyContext}
use Rattle.layout_offsets.specs.Starting.{unattached_position}
use Rattle.layout_positioning.specs.Lookups.{positioning_pass, lookup_action}
use Rattle.layout_positioning.specs.Positioning.{lookups_stage}
use Rattle.layout_laws.specs.Breaks.Positioned.{LeadInside}
use Rattle.layout_laws.specs.Breaks.Positionable.{IsDivisiblePositioning}

-- law: a lookup of positioning does to a text what it does to its fragments, or makes it unsafe to break between them
abbrev pub PositioningsAreDivisible : Type 0
PositioningsAreDivisible = (falls : Bool) (table : List PositioningLookup) (a : ApplyContext) (lookup : PositioningLookup) → IsDivisiblePositioning falls (λ v. positioning_pass (lookup_action table v.direction a lookup) v)

-- law: the lookups of a map, one after another, do so too
abbrev pub PositioningsInOrderAreDivisible : Type 0
PositioningsInOrderAreDivisible = (falls : Bool) (font : FaceParts) (table : List PositioningLookup) (maps : List lookup_map_t) → IsDivisiblePositioning falls (lookups_stage font table maps)

-- law: divisible stages of positioning are divisible one after the other
abbrev pub PositioningsDivideInTurn : Type 0
PositioningsDivideInTurn = (falls : Bool) (s t : Stage) → IsDivisiblePositioning falls s → IsDivisiblePositioning falls t → IsDivisiblePositioning falls (λ v. and_then (s v) t)

-- law: where all links were cleared, as at the start of positioning, none leads outside
abbrev pub ClearedLinksLeadInside : Type 0
ClearedLinksLeadInside = (ps : List Position) → LeadInside (map unattached_position ps)
