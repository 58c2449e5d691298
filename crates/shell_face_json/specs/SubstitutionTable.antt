-- The GSUB table.
use Rattle.std.specs.Prelude.{ℕ, if◌then◌else◌, List, codes, Option, Some, None, Result, Ok, Err}
use Rattle.std.specs.Option.{ok_or}
use Rattle.std.specs.Str.{bytes_eq}
use Rattle.serde_json.specs.Data.{Data}
use Rattle.serde_json.specs.Find.{get, as_str}
use Rattle.shell_json.specs.declared.fault.JsonFault.{JsonFault}
use Rattle.shell_json.specs.declared.fault.JsonFault.TheVariants.{WrongShape, UnknownName}
use Rattle.shell_json.specs.Cell.{and_then, u16_value}
use Rattle.shell_json.specs.Objects.{read_or, optional_value}
use Rattle.layout_face.specs.declared.substitution.SubstitutionSubtables.{SubstitutionSubtables}
use Rattle.layout_face.specs.declared.substitution.SubstitutionSubtables.TheVariants as Subtables
use Rattle.layout_face.specs.declared.substitution.SubstLookup.{SubstLookup}
use Rattle.layout_face.specs.declared.substitution.SubstitutionTable.{SubstitutionTable}
use Rattle.layout_face.specs.LookupIndices.{substitution_nested_fit}
use Rattle.shell_face_json.specs.declared.substitution_table.SubstitutionType.{SubstitutionType}
use Rattle.shell_face_json.specs.declared.substitution_table.SubstitutionType.TheVariants.{Single, Multiple, Alternate, Ligature, Context, ChainContext, ReverseChainSingle}
use Rattle.shell_face_json.specs.Lists.{is_object, lookups_of, number_below}
use Rattle.shell_face_json.specs.Glyphs.{glyph_limit, subtables_of}
use Rattle.shell_face_json.specs.Contexts.{context}
use Rattle.shell_face_json.specs.Scripts.{layout_of}
use Rattle.shell_face_json.specs.Substitutions.{single, multiple, alternate, ligature_subst, reverse}

-- the GSUB lookup type of a name
abbrev pub substitution_type_of : List ℕ → Result SubstitutionType JsonFault
substitution_type_of name =
    if bytes_eq name (codes "single") then Ok Single
    else if bytes_eq name (codes "multiple") then Ok Multiple
    else if bytes_eq name (codes "alternate") then Ok Alternate
    else if bytes_eq name (codes "ligature") then Ok Ligature
    else if bytes_eq name (codes "context") then Ok Context
    else if bytes_eq name (codes "chain") then Ok ChainContext
    else if bytes_eq name (codes "reverse") then Ok ReverseChainSingle
    else Err UnknownName

-- the GSUB lookup type of a lookup's key, which is required
abbrev pub substitution_type_in : Option Data → Result SubstitutionType JsonFault
substitution_type_in None = Err WrongShape
substitution_type_in (Some d) = and_then (ok_or (as_str d) WrongShape) substitution_type_of

-- the subtables of a lookup of a type
abbrev pub substitutions : SubstitutionType → Data → Result SubstitutionSubtables JsonFault
substitutions Single d = and_then (subtables_of (single glyph_limit) d) (λ s. Ok (Subtables.Single s))
substitutions Multiple d = and_then (subtables_of (multiple glyph_limit) d) (λ s. Ok (Subtables.Multiple s))
substitutions Alternate d = and_then (subtables_of (alternate glyph_limit) d) (λ s. Ok (Subtables.Alternate s))
substitutions Ligature d = and_then (subtables_of (ligature_subst glyph_limit) d) (λ s. Ok (Subtables.Ligature s))
substitutions Context d = and_then (subtables_of (context glyph_limit) d) (λ s. Ok (Subtables.Context s))
substitutions ChainContext d = and_then (subtables_of (context glyph_limit) d) (λ s. Ok (Subtables.ChainContext s))
substitutions ReverseChainSingle d = and_then (subtables_of (reverse glyph_limit) d) (λ s. Ok (Subtables.ReverseChainSingle s))

-- a lookup, in a font with that many mark glyph sets: its keys in the order of their faults
abbrev pub substitution_lookup : ℕ → Data → Result SubstLookup JsonFault
substitution_lookup sets d =
    and_then (is_object d) (λ _.
    and_then (read_or 0 u16_value (get (codes "flags") d)) (λ flags.
    and_then (optional_value (number_below sets) (get (codes "set") d)) (λ set.
    and_then (substitution_type_in (get (codes "type") d)) (λ lookup_type.
    and_then (substitutions lookup_type d) (λ subtables.
    Ok (record { flags = flags; mark_filtering_set = set; subtables = subtables }))))))

-- the GSUB table, in a font with that many mark glyph sets: scripts, features, lookups
abbrev pub substitution_table : ℕ → Data → Result SubstitutionTable JsonFault
substitution_table sets d =
    and_then (is_object d) (λ _.
    and_then (layout_of d) (λ inner.
    and_then (lookups_of (λ count lookup. substitution_nested_fit count lookup.subtables) (substitution_lookup sets) d) (λ lookups.
    Ok (record { inner = inner; lookups = lookups }))))
