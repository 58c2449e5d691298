-- The glyph definitions, GSUB and GPOS (OpenType, chapter 2), and the table kern.
use Rattle.std.specs.Prelude.{ℕ, List, [], length, Option, Some, None, Result, Ok}
use Rattle.layout_face.specs.declared.parts.CharacterRow.{CharacterRow}
use Rattle.layout_face.specs.declared.parts.GlyphDefinition.{GlyphDefinition}
use Rattle.layout_face.specs.declared.positioning.PositioningTable.{PositioningTable}
use Rattle.layout_face.specs.declared.substitution.SubstitutionTable.{SubstitutionTable}
use Rattle.font_bytes.specs.declared.fault.TableFault.{TableFault}
use Rattle.font_bytes.specs.declared.font_fault.FontFault.{FontFault}
use Rattle.font_bytes.specs.declared.table_names.FontTable.TheVariants.{Gdef, Gsub, Gpos, Kern}
use Rattle.font_bytes.specs.Fault.{in_table}
use Rattle.font_bytes.specs.Results.{and_then}
use Rattle.font_lists.specs.Definition.{definition_at}
use Rattle.font_kern.specs.Kern.{gpos_with_kern}
use Rattle.font_layout.specs.Layout.{gpos_at, gsub_at}
use Rattle.font_file.specs.Found.{table_in}
use Rattle.font_file.specs.Rooms.{layout_room}

-- a value without the room that it left
abbrev pub without_room : {A : Type 0} → Result (A × ℕ) TableFault → Result A TableFault
without_room read = and_then read (λ r. Ok r.0)

-- glyph definitions without entries
abbrev pub no_definition : GlyphDefinition
no_definition = record { classes = None; attach = record { rows = [] }; sets = [] }

-- the glyph definitions of a table, if there is one
abbrev pub definition_of : Option (List ℕ) → Result GlyphDefinition FontFault
definition_of None = Ok no_definition
definition_of (Some table) = in_table (Some Gdef) (without_room (definition_at layout_room table))

-- GSUB, if there is one, by the number of mark glyph sets
abbrev pub substitution_of : ℕ → Option (List ℕ) → Result (Option SubstitutionTable) FontFault
substitution_of sets None = Ok None
substitution_of sets (Some table) = and_then (in_table (Some Gsub) (without_room (gsub_at sets layout_room table))) (λ t. Ok (Some t))

-- GPOS, if there is one
abbrev pub positioning_of : ℕ → Option (List ℕ) → Result (Option PositioningTable) FontFault
positioning_of sets None = Ok None
positioning_of sets (Some table) = and_then (in_table (Some Gpos) (without_room (gpos_at sets layout_room table))) (λ t. Ok (Some t))

-- GPOS with the table kern, if there is one, by the font's characters
abbrev pub with_kern : List CharacterRow → Option PositioningTable → Option (List ℕ) → Result (Option PositioningTable) FontFault
with_kern characters gpos None = Ok gpos
with_kern characters gpos (Some table) = in_table (Some Kern) (without_room (gpos_with_kern layout_room table characters gpos))

-- GPOS of the font with an index, with the table kern
abbrev pub gpos_in : List ℕ → ℕ → List CharacterRow → ℕ → Result (Option PositioningTable) FontFault
gpos_in bytes index characters sets =
    and_then (and_then (table_in bytes index Gpos) (positioning_of sets)) (λ gpos.
    and_then (table_in bytes index Kern) (with_kern characters gpos))

-- GSUB and GPOS of the font with an index
abbrev pub tables_in : List ℕ → ℕ → List CharacterRow → ℕ → Result (Option SubstitutionTable × Option PositioningTable) FontFault
tables_in bytes index characters sets =
    and_then (and_then (table_in bytes index Gsub) (substitution_of sets)) (λ gsub.
    and_then (gpos_in bytes index characters sets) (λ gpos.
    Ok (gsub, gpos)))

-- the three of the font with an index
abbrev pub layouts_in : List ℕ → ℕ → List CharacterRow → Result (GlyphDefinition × (Option SubstitutionTable × Option PositioningTable)) FontFault
layouts_in bytes index characters =
    and_then (and_then (table_in bytes index Gdef) definition_of) (λ gdef.
    and_then (tables_in bytes index characters (length gdef.sets)) (λ tables.
    Ok (gdef, tables)))
