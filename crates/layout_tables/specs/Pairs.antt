-- Pair adjustment (OpenType, GPOS lookup type 2).
use Rattle.std.specs.Prelude.{ℕ, ◌==◌, ◌&&◌, if◌then◌else◌, List, Option, None, find, option_map, option_and_then, slice_get}
use Rattle.layout_common.specs.Coverage.{is_covered}
use Rattle.layout_common.specs.Classes.{class_of}
use Rattle.layout_tables.specs.declared.pair.PairValues.{PairValues}
use Rattle.layout_tables.specs.declared.pair.PairRow.{PairRow}
use Rattle.layout_tables.specs.declared.pair.ClassPairs.{ClassPairs}
use Rattle.layout_tables.specs.declared.pair.Class1Record.{Class1Record}

-- the row of two glyphs
abbrev pub row_of_glyphs : ℕ → ℕ → List PairRow → Option PairRow
row_of_glyphs first second rows = find (λ r. r.first == first && r.second == second) rows

-- the value records of two glyphs by their row (format 1)
abbrev pub glyph_pair_values : ℕ → ℕ → List PairRow → Option PairValues
glyph_pair_values first second rows = option_map (λ r. r.values) (row_of_glyphs first second rows)

-- the value records of two classes
abbrev pub record_at : List Class1Record → ℕ → ℕ → Option PairValues
record_at records class1 class2 = option_and_then (λ r. slice_get r.class2_records class2) (slice_get records class1)

-- the value records of two glyphs by their classes (format 2), where the first glyph is covered and both classes have a
-- record
abbrev pub class_pair_values : ℕ → ℕ → ClassPairs → Option PairValues
class_pair_values first second pairs =
    if is_covered first pairs.coverage then record_at pairs.records (class_of first pairs.class_def1) (class_of second pairs.class_def2) else None
