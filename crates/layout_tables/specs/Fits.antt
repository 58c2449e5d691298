-- Classes that stay within their lists.
use Rattle.std.specs.Prelude.{ℕ, ◌+◌, ◌&&◌, max, nat_le, Bool, List, [], ◌∷◌, length}
use Rattle.std.specs.List.{list_all}
use Rattle.layout_common.specs.declared.glyph_row.GlyphRow.{GlyphRow}
use Rattle.layout_tables.specs.declared.mark.MarkRecord.{MarkRecord}
use Rattle.layout_tables.specs.declared.mark.BaseRow.{BaseRow}
use Rattle.layout_tables.specs.declared.mark.ComponentRecord.{ComponentRecord}
use Rattle.layout_tables.specs.declared.mark.LigatureRow.{LigatureRow}
use Rattle.layout_tables.specs.declared.pair.Class1Record.{Class1Record}
use Rattle.layout_tables.specs.declared.pair.ClassPairs.{ClassPairs}

-- how many classes the rows name, from class 0 to the highest; at least `count`
abbrev pub class_count : ℕ → List (GlyphRow ℕ) → ℕ
class_count count [] = count
class_count count (r ∷ rows) = class_count (max count (r.value + 1)) rows

-- how many classes the mark records name, from class 0 to the highest
abbrev pub mark_class_count : ℕ → List (GlyphRow MarkRecord) → ℕ
mark_class_count count [] = count
mark_class_count count (r ∷ marks) = mark_class_count (max count (r.value.class + 1)) marks

-- whether each base has an anchor for each class of marks
abbrev pub marks_fit_bases : List (GlyphRow MarkRecord) → List BaseRow → Bool
marks_fit_bases marks bases = list_all (λ b. nat_le (mark_class_count 0 marks) (length b.anchors)) bases

-- whether each component has an anchor for each class of marks
abbrev pub components_fit : ℕ → List ComponentRecord → Bool
components_fit count components = list_all (λ c. nat_le count (length c.anchors)) components

-- whether each component of each ligature has an anchor for each class of marks
abbrev pub marks_fit_ligatures : List (GlyphRow MarkRecord) → List LigatureRow → Bool
marks_fit_ligatures marks ligatures = list_all (λ l. components_fit (mark_class_count 0 marks) l.components) ligatures

-- whether each row of records has at least n
abbrev pub records_fit : ℕ → List Class1Record → Bool
records_fit count records = list_all (λ r. nat_le count (length r.class2_records)) records

-- whether each class of a first glyph has a row of records, and each class of a second one a record in each row
abbrev pub pairs_fit : ClassPairs → Bool
pairs_fit pairs =
    nat_le (class_count 0 pairs.class_def1.rows) (length pairs.records) && records_fit (class_count 0 pairs.class_def2.rows) pairs.records
