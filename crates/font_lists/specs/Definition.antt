-- The glyph definition table (OpenType, GDEF, versions 1.0 to 1.3).
use Rattle.std.specs.Prelude.{ℕ, ◌+◌, ◌*◌, ◌==◌, nat_le, if◌then◌else◌, List, [], filter, Option, Some, None, Result, Ok, Err}
use Rattle.font_bytes.specs.declared.fault.TableFault.{TableFault}
use Rattle.font_bytes.specs.declared.fault.TableFault.TheVariants.{Kind}
use Rattle.font_bytes.specs.Results.{and_then}
use Rattle.font_bytes.specs.Room.{room_after}
use Rattle.font_bytes.specs.Words.{need, word, long}
use Rattle.font_bytes.specs.Records.{records}
use Rattle.font_common.specs.ClassDefinition.{class_definition_at, class_rows_at}
use Rattle.font_common.specs.Coverage.{coverage_at}
use Rattle.font_common.specs.Offsets.{tables_in, value_at_offset}
use Rattle.layout_common.specs.declared.class_definition.ClassDefinition.{ClassDefinition}
use Rattle.layout_common.specs.declared.glyph_row.GlyphRow.{GlyphRow}
use Rattle.layout_face.specs.declared.parts.GlyphDefinition.{GlyphDefinition}

-- ---- classes

-- the glyph classes at an offset from the table's start, none where the offset is null
abbrev pub glyph_classes : ℕ → List ℕ → ℕ → Result (Option ClassDefinition × ℕ) TableFault
glyph_classes room table offset = if offset == 0 then Ok (None, room) else and_then (class_definition_at room table offset) (λ c. Ok (Some c.0, c.1))

-- the rows of attachment classes that a lookup flag can name: its high eight bits have the class
abbrev pub attachment_rows : List (GlyphRow ℕ) → List (GlyphRow ℕ)
attachment_rows rows = filter (λ r. nat_le r.value 255) rows

-- the attachment classes of the class definition table at an offset
abbrev pub attachment_classes_at : ℕ → List ℕ → ℕ → Result (ClassDefinition × ℕ) TableFault
attachment_classes_at room table at = and_then (class_rows_at room table at) (λ r. Ok (record { rows = attachment_rows r.0 }, r.1))

-- ---- mark glyph sets

-- coverages at an array of Offset32 from a base
abbrev pub coverages_in : ℕ → List ℕ → ℕ → List ℕ → Result (List (List ℕ) × ℕ) TableFault
coverages_in room table base offsets = tables_in (λ r o. value_at_offset [] coverage_at r table base o) room offsets

-- format 1: markGlyphSetCount at 2, coverageOffsets at 4; an offset takes a row of room
abbrev pub listed_sets : ℕ → List ℕ → ℕ → Result (List (List ℕ) × ℕ) TableFault
listed_sets room table at = and_then (need table at 4) (λ _. and_then (need table (at + 4) (4 * word table (at + 2))) (λ _. and_then (room_after room (word table (at + 2)))
    (λ left. coverages_in left table at (records (long table) 4 (at + 4) (word table (at + 2))))))

-- the mark glyph sets at an offset, none of an unknown format
abbrev pub mark_sets_at : ℕ → List ℕ → ℕ → Result (List (List ℕ) × ℕ) TableFault
mark_sets_at room table at = and_then (need table at 2) (λ _. if word table at == 1 then listed_sets room table at else Ok ([], room))

-- markGlyphSetsDefOffset at 12 from version 1.2 on: the offset of the sets, null in the versions before
abbrev pub sets_offset : List ℕ → Result ℕ TableFault
sets_offset table = if nat_le 2 (word table 2) then and_then (need table 12 2) (λ _. Ok (word table 12)) else Ok 0

-- ---- all

-- a header of major version 1 and of twelve bytes
abbrev pub definition_header : List ℕ → Result ℕ TableFault
definition_header table = and_then (need table 0 12) (λ _. if word table 0 == 1 then sets_offset table else Err (Kind 0))

-- the attachment classes, whose markAttachClassDefOffset stands at 10, and the mark glyph sets
abbrev pub marks_at : ℕ → List ℕ → ℕ → Result ((ClassDefinition × List (List ℕ)) × ℕ) TableFault
marks_at room table sets_at = and_then (value_at_offset (record { rows = [] }) attachment_classes_at room table 0 (word table 10))
    (λ attach. and_then (value_at_offset [] mark_sets_at attach.1 table 0 sets_at) (λ sets. Ok ((attach.0, sets.0), sets.1)))

-- glyphClassDefOffset at 4, attachment classes, mark glyph sets
abbrev pub definition_at : ℕ → List ℕ → Result (GlyphDefinition × ℕ) TableFault
definition_at room table = and_then (definition_header table) (λ sets_at. and_then (glyph_classes room table (word table 4))
    (λ classes. and_then (marks_at classes.1 table sets_at)
    (λ marks. Ok (record { classes = classes.0; attach = marks.0.0; sets = marks.0.1 }, marks.1))))
