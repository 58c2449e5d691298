-- Lookups of substitution in order.
use Rattle.std.specs.Prelude.{Bool, List}
use Rattle.layout_face.specs.declared.parts.FaceParts.{FaceParts}
use Rattle.layout_face.specs.declared.substitution.SubstLookup.{SubstLookup}
use Rattle.layout_map_features.specs.declared.lookup.lookup_map_t.{lookup_map_t}
use Rattle.layout_substitution.specs.Lookups.{lookups_stage}
use Rattle.buffer_parts.specs.Breaks.Divisible.{IsDivisible}

-- law: the lookups of a map, one after another, are divisible
abbrev pub LookupsInOrderAreDivisible : Type 0
LookupsInOrderAreDivisible = (falls : Bool) (font : FaceParts) (table : List SubstLookup) (maps : List lookup_map_t) → IsDivisible falls falls (lookups_stage font table maps) (lookups_stage font table maps) (lookups_stage font table maps)
