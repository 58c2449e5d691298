-- The GPOS table.
use Rattle.std.specs.Prelude.{ℕ, if◌then◌else◌, List, codes, Option, Some, None, Result, Ok, Err}
use Rattle.std.specs.Option.{ok_or}
use Rattle.std.specs.Str.{bytes_eq}
use Rattle.serde_json.specs.Data.{Data}
use Rattle.serde_json.specs.Find.{get, as_str}
use Rattle.shell_json.specs.declared.fault.JsonFault.{JsonFault}
use Rattle.shell_json.specs.declared.fault.JsonFault.TheVariants.{WrongShape, UnknownName}
use Rattle.shell_json.specs.Cell.{and_then, u16_value}
use Rattle.shell_json.specs.Objects.{read_or, optional_value}
use Rattle.layout_face.specs.declared.positioning.PositioningSubtables.{PositioningSubtables}
use Rattle.layout_face.specs.declared.positioning.PositioningSubtables.TheVariants as Subtables
use Rattle.layout_face.specs.declared.positioning.PositioningLookup.{PositioningLookup}
use Rattle.layout_face.specs.declared.positioning.PositioningTable.{PositioningTable}
use Rattle.layout_face.specs.LookupIndices.{positioning_nested_fit}
use Rattle.shell_face_json.specs.declared.position_table.PositioningType.{PositioningType}
use Rattle.shell_face_json.specs.declared.position_table.PositioningType.TheVariants.{Single, Pair, Cursive, MarkToBase, MarkToLigature, MarkToMark, Context, ChainContext}
use Rattle.shell_face_json.specs.Lists.{is_object, lookups_of, number_below}
use Rattle.shell_face_json.specs.Glyphs.{glyph_limit, subtables_of}
use Rattle.shell_face_json.specs.Contexts.{context}
use Rattle.shell_face_json.specs.Scripts.{layout_of}
use Rattle.shell_face_json.specs.Positions.{single_pos, pair_pos, cursive_pos}
use Rattle.shell_face_json.specs.Marks.{mark_base, mark_lig}

-- the GPOS lookup type of a name
abbrev pub positioning_type_of : List ℕ → Result PositioningType JsonFault
positioning_type_of name =
    if bytes_eq name (codes "single") then Ok Single
    else if bytes_eq name (codes "pair") then Ok Pair
    else if bytes_eq name (codes "cursive") then Ok Cursive
    else if bytes_eq name (codes "markbase") then Ok MarkToBase
    else if bytes_eq name (codes "marklig") then Ok MarkToLigature
    else if bytes_eq name (codes "markmark") then Ok MarkToMark
    else if bytes_eq name (codes "context") then Ok Context
    else if bytes_eq name (codes "chain") then Ok ChainContext
    else Err UnknownName

-- the GPOS lookup type of a lookup's key, which is required
abbrev pub positioning_type_in : Option Data → Result PositioningType JsonFault
positioning_type_in None = Err WrongShape
positioning_type_in (Some d) = and_then (ok_or (as_str d) WrongShape) positioning_type_of

-- the subtables of a lookup of a type
abbrev pub positionings : PositioningType → Data → Result PositioningSubtables JsonFault
positionings Single d = and_then (subtables_of single_pos d) (λ s. Ok (Subtables.Single s))
positionings Pair d = and_then (subtables_of (pair_pos glyph_limit) d) (λ s. Ok (Subtables.Pair s))
positionings Cursive d = and_then (subtables_of cursive_pos d) (λ s. Ok (Subtables.Cursive s))
positionings MarkToBase d = and_then (subtables_of (mark_base glyph_limit) d) (λ s. Ok (Subtables.MarkToBase s))
positionings MarkToLigature d = and_then (subtables_of (mark_lig glyph_limit) d) (λ s. Ok (Subtables.MarkToLigature s))
positionings MarkToMark d = and_then (subtables_of (mark_base glyph_limit) d) (λ s. Ok (Subtables.MarkToMark s))
positionings Context d = and_then (subtables_of (context glyph_limit) d) (λ s. Ok (Subtables.Context s))
positionings ChainContext d = and_then (subtables_of (context glyph_limit) d) (λ s. Ok (Subtables.ChainContext s))

-- a lookup, in a font with that many mark glyph sets: its keys in the order of their faults
abbrev pub positioning_lookup : ℕ → Data → Result PositioningLookup JsonFault
positioning_lookup sets d =
    and_then (is_object d) (λ _.
    and_then (read_or 0 u16_value (get (codes "flags") d)) (λ flags.
    and_then (optional_value (number_below sets) (get (codes "set") d)) (λ set.
    and_then (positioning_type_in (get (codes "type") d)) (λ lookup_type.
    and_then (positionings lookup_type d) (λ subtables.
    Ok (record { flags = flags; mark_filtering_set = set; subtables = subtables }))))))

-- the GPOS table, in a font with that many mark glyph sets: scripts, features, lookups
abbrev pub positioning_table : ℕ → Data → Result PositioningTable JsonFault
positioning_table sets d =
    and_then (is_object d) (λ _.
    and_then (layout_of d) (λ inner.
    and_then (lookups_of (λ count lookup. positioning_nested_fit count lookup.subtables) (positioning_lookup sets) d) (λ lookups.
    Ok (record { inner = inner; lookups = lookups }))))
