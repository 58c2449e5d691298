-- Rows of glyphs, sets and classes of glyphs.
use Rattle.std.specs.Prelude.{ℕ, List, codes, None, Result, Ok}
use Rattle.std.specs.Ordering.{nat_cmp}
use Rattle.serde_json.specs.Data.{Data, Items}
use Rattle.shell_json.specs.declared.fault.JsonFault.{JsonFault}
use Rattle.shell_json.specs.Cell.{and_then, u16_value}
use Rattle.shell_json.specs.Items.{list_of}
use Rattle.shell_face_json.specs.Lists.{number_below, value_list, rows_at, rows_in_turn}
use Rattle.shell_face_json.specs.Row.{first_and_rest, only, row_of}
use Rattle.shell_face_json.specs.Sorted.{rows_by_key, sorted_value}
use Rattle.layout_common.specs.Coverage.{in_order}
use Rattle.layout_common.specs.declared.glyph_row.GlyphRow.{GlyphRow}
use Rattle.layout_common.specs.declared.class_definition.ClassDefinition.{ClassDefinition}

-- glyph numbers have 16 bits
abbrev pub glyph_limit : ℕ
glyph_limit = 65536

-- a glyph, followed by the fields of its row
abbrev pub glyph_row : {V : Type 0} → (Items → Result V JsonFault) → Data → Result (GlyphRow V) JsonFault
glyph_row rest d = and_then (row_of (first_and_rest u16_value rest) d) (λ p. Ok (record { glyph = p.0; value = p.1 }))

-- rows of glyphs, by rising glyphs
abbrev pub glyph_rows : {V : Type 0} → (Items → Result V JsonFault) → Items → Result (List (GlyphRow V)) JsonFault
glyph_rows rest ds = rows_by_key nat_cmp (λ r. r.glyph) (glyph_row rest) None ds

-- rows of glyphs inside a row, by rising glyphs
abbrev pub glyph_row_list : {V : Type 0} → (Items → Result V JsonFault) → Data → Result (List (GlyphRow V)) JsonFault
glyph_row_list rest d = sorted_value nat_cmp (λ r. r.glyph) (glyph_row rest) d

-- a set of glyphs, listed in any order
abbrev pub coverage : ℕ → Data → Result (List ℕ) JsonFault
coverage limit d = and_then (value_list (number_below limit) d) (λ glyphs. Ok (in_order glyphs))

-- the set of glyphs that is listed under a key
abbrev pub coverage_at : ℕ → List ℕ → Data → Result (List ℕ) JsonFault
coverage_at limit key d = and_then (rows_at key (rows_in_turn (number_below limit)) d) (λ glyphs. Ok (in_order glyphs))

-- rows of a glyph and its class, which is below the limit
abbrev pub classes_in : ℕ → Items → Result ClassDefinition JsonFault
classes_in limit ds = and_then (glyph_rows (only (number_below limit)) ds) (λ rows. Ok (record { rows = rows }))

-- a class definition as a list of rows
abbrev pub class_definition : ℕ → Data → Result ClassDefinition JsonFault
class_definition limit d = and_then (list_of d) (classes_in limit)

-- the subtables of a lookup, in turn
abbrev pub subtables_of : {A : Type 0} → (Data → Result A JsonFault) → Data → Result (List A) JsonFault
subtables_of subtable d = rows_at (codes "subtables") (rows_in_turn subtable) d
