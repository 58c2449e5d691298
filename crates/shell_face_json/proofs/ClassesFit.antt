-- The classes of subtables that were read have their records and anchors.
use Rattle.std.proofs.Common.{◌≡◌, ℕ, Bool, true, false, List, length, Option, Some, None, Result, Ok, codes, refl, sym, ap, subst, ◌∙◌, is_some, arith}
use Rattle.std.specs.Prelude.{⊤, min, nat_lt, nat_le}
use Rattle.std.specs.Option.{ok_or, option_map_or}
use Rattle.std.specs.Ordering.{nat_cmp}
use Rattle.std.proofs.lemmas.Bool.Decides.{nat_tests}
use Rattle.serde_json.specs.Data.{Data, null, boolean, number, string, array, object, Items, no_items, item}
use Rattle.serde_json.specs.Find.{as_array, as_object, at, get}
use Rattle.shell_json.specs.declared.fault.JsonFault.{JsonFault}
use Rattle.shell_json.specs.declared.fault.JsonFault.TheVariants.{WrongShape}
use Rattle.shell_json.specs.Cell.{and_then}
use Rattle.shell_json.specs.Items.{list_of, list_at, list_or_none}
use Rattle.shell_face_json.specs.Lists.{number_below, or_null, is_object, items_of, value_list, rows_at, rows_in_turn, count_at}
use Rattle.shell_face_json.specs.Row.{first_and_rest, no_more, row_of_two}
use Rattle.shell_face_json.specs.Sorted.{rows_by_key}
use Rattle.shell_face_json.specs.Lengths.{items_at, items_or_none, length_or, least_length, row_length_or, least_row_length, row_least_length, least_length_in_rows}
use Rattle.shell_face_json.specs.Glyphs.{classes_in, coverage_at, glyph_row, glyph_rows}
use Rattle.shell_face_json.specs.Positions.{anchor, class1_record, class_pairs, pair_pos, pair_rows, pair_values}
use Rattle.shell_face_json.specs.Marks.{mark_record, marks_of, base_row, component, ligature_row, mark_base, mark_lig}
use Rattle.shell_face_json.proofs.Inverted.{through, of_first, below_limit, list_length, turn_of_items, all_in_turn}
use Rattle.shell_face_json.proofs.Limits.{turn_of_rising, of_glyph_row, class_count_within, marks_within, none_within, least_below, each_at_least, length_read}
use Rattle.layout_common.specs.declared.glyph_row.GlyphRow.{GlyphRow}
use Rattle.layout_tables.specs.declared.pair.Class1Record.{Class1Record}
use Rattle.layout_tables.specs.declared.pair.ClassPairs.{ClassPairs}
use Rattle.layout_tables.specs.declared.pair.PairPos.{PairPos}
use Rattle.layout_tables.specs.declared.pair.PairPos.TheVariants as Pairs
use Rattle.layout_tables.specs.declared.mark.MarkRecord.{MarkRecord}
use Rattle.layout_tables.specs.declared.mark.BaseRow.{BaseRow}
use Rattle.layout_tables.specs.declared.mark.ComponentRecord.{ComponentRecord}
use Rattle.layout_tables.specs.declared.mark.LigatureRow.{LigatureRow}
use Rattle.layout_tables.specs.declared.mark.MarkBasePos.{MarkBasePos}
use Rattle.layout_tables.specs.declared.mark.MarkLigPos.{MarkLigPos}
use Rattle.layout_tables.specs.Fits.{class_count, mark_class_count, marks_fit_bases, components_fit, marks_fit_ligatures, records_fit, pairs_fit}
use Rattle.layout_face.specs.LookupIndices.{pair_classes_fit}

-- ---- the least of two lengths

lesser : (l n : ℕ) → nat_le (min l n) l ≡ true
lesser l n = grind (arith, nat_tests)

other : (count l n m : ℕ) → nat_le count (min l n) ≡ true → n ≡ m → nat_le count m ≡ true
other count l n m p e = subst (λ k. nat_le count k ≡ true) e (grind (arith, nat_tests))

-- the items under a key are those of its list
of_array : (o : Option Items) (ds : Items) → ok_or o WrongShape ≡ Ok ds → option_map_or (λ es. es) o no_items ≡ ds
of_array None ds e = absurd (cc)
of_array (Some es) ds e = cc

items_listed : (o : Option Data) (ds : Items) → list_or_none o ≡ Ok ds → items_or_none o ≡ ds
items_listed None ds e = cc
items_listed (Some d) ds e = of_array (as_array d) ds e

-- ---- pairs

records_each : (count l : ℕ) (d : Data) (r : Class1Record) → class1_record d ≡ Ok r → nat_le count (min l (length_or l d)) ≡ true → nat_le count (length r.class2_records) ≡ true
records_each count l d r e le =
    let step = through (value_list pair_values d) _ r e in
    let same : step.0 ≡ r.class2_records = cc in
    other count l (length_or l d) (length r.class2_records) le (length_read pair_values l d step.0 step.1 ∙ ap length same)

records_within : (count limit : ℕ) (ds : Items) (rs : List Class1Record) → nat_le count (least_length limit ds) ≡ true → rows_in_turn class1_record ds ≡ Ok rs → records_fit count rs ≡ true
records_within count limit ds rs le e =
    each_at_least class1_record (λ l d. min l (length_or l d)) (λ l d. lesser l (length_or l d)) least_length (λ l. refl) (λ l d ds. refl) count (λ r. nat_le count (length r.class2_records)) (records_each count) limit ds rs le e

pairs_within : (limit : ℕ) (d : Data) (p : ClassPairs) → class_pairs limit d ≡ Ok p → pairs_fit p ≡ true
pairs_within limit d p e =
    let rows = count_at (codes "records") d in
    let columns = least_length limit (items_at (codes "records") d) in
    let records = rows_at (codes "records") (rows_in_turn class1_record) d in
    let class1 = rows_at (codes "class1") (classes_in rows) d in
    let class2 = rows_at (codes "class2") (classes_in columns) d in
    let a = through (coverage_at limit (codes "first") d) _ p e in
    let b = through class1 _ p a.2 in
    let c = through class2 _ p b.2 in
    let r = through records _ p c.2 in
    let first = through (list_at (codes "class1") d) (classes_in rows) b.0 b.1 in
    let second = through (list_at (codes "class2") d) (classes_in columns) c.0 c.1 in
    let listed = through (list_at (codes "records") d) (rows_in_turn class1_record) r.0 r.1 in
    let count : rows ≡ length r.0 = list_length class1_record (get (codes "records") d) r.0 r.1 in
    let one = subst (λ n. nat_le (class_count 0 b.0.rows) n ≡ true) count (class_count_within rows first.0 b.0 first.2) in
    let items = items_listed (get (codes "records") d) listed.0 listed.1 in
    let least = subst (λ ds. nat_le (class_count 0 c.0.rows) (least_length limit ds) ≡ true) items (class_count_within columns second.0 c.0 second.2) in
    let two = records_within (class_count 0 c.0.rows) limit listed.0 r.0 least listed.2 in
    let both_fit : pairs_fit (record { coverage = a.0; class_def1 = b.0; class_def2 = c.0; records = r.0 }) ≡ true = rw (one, two) refl in
    let same : ◌≡◌ {A = ClassPairs} (record { coverage = a.0; class_def1 = b.0; class_def2 = c.0; records = r.0 }) p = cc in
    subst (λ x. pairs_fit x ≡ true) same both_fit

of_pairs : (limit : ℕ) (d : Data) (p : PairPos) (b : Bool) → is_some (as_object d) ≡ b → pair_pos limit d ≡ Ok p → pair_classes_fit p ≡ true
of_pairs limit d p true t e =
    let found : pair_pos limit d ≡ and_then (class_pairs limit d) (λ q. Ok (Pairs.Classes q)) = rw t refl in
    let step = through (class_pairs limit d) _ p (sym found ∙ e) in
    let same : Pairs.Classes step.0 ≡ p = cc in
    subst (λ x. pair_classes_fit x ≡ true) same (pairs_within limit d step.0 step.1)
of_pairs limit d p false t e =
    let found : pair_pos limit d ≡ and_then (and_then (list_of d) (pair_rows limit)) (λ rows. Ok (Pairs.Glyphs (record { rows = rows }))) = rw t refl in
    let step = through (and_then (list_of d) (pair_rows limit)) _ p (sym found ∙ e) in
    let same : Pairs.Glyphs (record { rows = step.0 }) ≡ p = cc in
    subst (λ x. pair_classes_fit x ≡ true) same refl

pub pair_within : (limit : ℕ) (d : Data) (p : PairPos) → pair_pos limit d ≡ Ok p → pair_classes_fit p ≡ true
pair_within limit d p e = of_pairs limit d p (is_some (as_object d)) refl e

-- ---- marks

mark_below : (limit : ℕ) (d : Data) (r : GlyphRow MarkRecord) → glyph_row (mark_record limit) d ≡ Ok r → nat_lt r.value.class limit ≡ true
mark_below limit d r e =
    let fields = of_glyph_row (mark_record limit) d r e in
    let step = through (first_and_rest (number_below limit) (first_and_rest (or_null anchor) no_more) fields.0) _ r.value fields.1 in
    let first = of_first (number_below limit) (first_and_rest (or_null anchor) no_more) fields.0 step.0 step.1 in
    let same : step.0.0 ≡ r.value.class = cc in
    subst (λ n. nat_lt n limit ≡ true) same (below_limit limit first.0 step.0.0 first.3)

marks_counted : (limit : ℕ) (d : Data) (marks : List (GlyphRow MarkRecord)) → marks_of limit d ≡ Ok marks → nat_le (mark_class_count 0 marks) limit ≡ true
marks_counted limit d marks e =
    let step = through (list_at (codes "marks") d) (glyph_rows (mark_record limit)) marks e in
    let turn = turn_of_rising nat_cmp (λ r. r.glyph) (glyph_row (mark_record limit)) step.0 marks step.2 in
    let all = all_in_turn (glyph_row (mark_record limit)) (λ r. nat_lt r.value.class limit) (mark_below limit) step.0 marks turn in
    marks_within limit 0 marks all (none_within limit)

-- the second item of a row of two
second_at : {A B : Type 0} (a : Data → Result A JsonFault) (b : Data → Result B JsonFault) (d : Data) (p : A × (B × ⊤)) → row_of_two a b d ≡ Ok p → (x : Data) × (at 1 d ≡ Some x) × (b x ≡ Ok p.1.0)
second_at a b null p e = absurd (cc)
second_at a b (boolean c) p e = absurd (cc)
second_at a b (number n) p e = absurd (cc)
second_at a b (string s) p e = absurd (cc)
second_at a b (array ds) p e =
    let first = of_first a (first_and_rest b no_more) ds p e in
    let second = of_first b no_more first.1 p.1 first.4 in
    (second.0, ap (λ x. at 1 (array x)) first.2 ∙ ap (λ x. at 1 (array (item first.0 x))) second.2, second.3)
second_at a b (object ms) p e = absurd (cc)

base_each : (glyphs count l : ℕ) (d : Data) (r : BaseRow) → base_row glyphs d ≡ Ok r → nat_le count (min l (row_length_or l (at 1 d))) ≡ true → nat_le count (length r.anchors) ≡ true
base_each glyphs count l d r e le =
    let step = through (row_of_two (number_below glyphs) (value_list (or_null anchor)) d) _ r e in
    let second = second_at (number_below glyphs) (value_list (or_null anchor)) d step.0 step.1 in
    let same : step.0.1.0 ≡ r.anchors = cc in
    other count l (row_length_or l (at 1 d)) (length r.anchors) le (ap (row_length_or l) second.1 ∙ length_read (or_null anchor) l second.0 step.0.1.0 second.2 ∙ ap length same)

pub mark_base_within : (limit : ℕ) (d : Data) (s : MarkBasePos) → mark_base limit d ≡ Ok s → marks_fit_bases s.marks s.bases ≡ true
mark_base_within limit d s e =
    let classes = least_row_length limit (items_at (codes "bases") d) in
    let by_glyph = rows_by_key nat_cmp (λ r. r.glyph) (base_row limit) None in
    let bases = rows_at (codes "bases") by_glyph d in
    let whole = through (is_object d) _ s e in
    let m = through (marks_of classes d) _ s whole.2 in
    let b = through bases _ s m.2 in
    let listed = through (list_at (codes "bases") d) by_glyph b.0 b.1 in
    let turn = turn_of_rising nat_cmp (λ r. r.glyph) (base_row limit) listed.0 b.0 listed.2 in
    let items = items_listed (get (codes "bases") d) listed.0 listed.1 in
    let count = mark_class_count 0 m.0 in
    let least = subst (λ ds. nat_le count (least_row_length limit ds) ≡ true) items (marks_counted classes d m.0 m.1) in
    let fit = each_at_least (base_row limit) (λ l x. min l (row_length_or l (at 1 x))) (λ l x. lesser l (row_length_or l (at 1 x))) least_row_length (λ l. refl) (λ l x xs. refl) count (λ r. nat_le count (length r.anchors)) (base_each limit count) limit listed.0 b.0 least turn in
    let same : ◌≡◌ {A = MarkBasePos} (record { marks = m.0; bases = b.0 }) s = cc in
    subst (λ x. marks_fit_bases x.marks x.bases ≡ true) same fit

-- ---- marks of ligatures

component_each : (count l : ℕ) (d : Data) (c : ComponentRecord) → component d ≡ Ok c → nat_le count (min l (length_or l d)) ≡ true → nat_le count (length c.anchors) ≡ true
component_each count l d c e le =
    let step = through (value_list (or_null anchor) d) _ c e in
    let same : step.0 ≡ c.anchors = cc in
    other count l (length_or l d) (length c.anchors) le (length_read (or_null anchor) l d step.0 step.1 ∙ ap length same)

components_within : (count limit : ℕ) (ds : Items) (cs : List ComponentRecord) → nat_le count (least_length limit ds) ≡ true → rows_in_turn component ds ≡ Ok cs → components_fit count cs ≡ true
components_within count limit ds cs le e =
    each_at_least component (λ l d. min l (length_or l d)) (λ l d. lesser l (length_or l d)) least_length (λ l. refl) (λ l d ds. refl) count (λ c. nat_le count (length c.anchors)) (component_each count) limit ds cs le e

least_in_list : (l : ℕ) (o : Option Items) → nat_le (option_map_or (least_length l) o l) l ≡ true
least_in_list l None = grind (arith, nat_tests)
least_in_list l (Some ds) = least_below component (λ k d. min k (length_or k d)) (λ k d. lesser k (length_or k d)) least_length (λ k. refl) (λ k d ds. refl) l ds

least_in_row : (l : ℕ) (o : Option Data) → nat_le (row_least_length l o) l ≡ true
least_in_row l None = grind (arith, nat_tests)
least_in_row l (Some d) = least_in_list l (as_array d)

of_components : (count l : ℕ) (o : Option Items) (ds : Items) (cs : List ComponentRecord) → ok_or o WrongShape ≡ Ok ds → rows_in_turn component ds ≡ Ok cs → nat_le count (option_map_or (least_length l) o l) ≡ true
    → components_fit count cs ≡ true
of_components count l None ds cs is e le = absurd (cc)
of_components count l (Some es) ds cs is e le = let same : es ≡ ds = cc in components_within count l ds cs (subst (λ x. nat_le count (least_length l x) ≡ true) same le) e

ligature_each : (glyphs count l : ℕ) (d : Data) (r : LigatureRow) → ligature_row glyphs d ≡ Ok r → nat_le count (row_least_length l (at 1 d)) ≡ true → components_fit count r.components ≡ true
ligature_each glyphs count l d r e le =
    let step = through (row_of_two (number_below glyphs) (value_list component) d) _ r e in
    let second = second_at (number_below glyphs) (value_list component) d step.0 step.1 in
    let listed = through (list_of second.0) (items_of component) step.0.1.0 second.2 in
    let turn = turn_of_items component listed.0 step.0.1.0 listed.2 in
    let least = subst (λ o. nat_le count (row_least_length l o) ≡ true) second.1 le in
    let fit = of_components count l (as_array second.0) listed.0 step.0.1.0 listed.1 turn least in
    let same : step.0.1.0 ≡ r.components = cc in
    subst (λ cs. components_fit count cs ≡ true) same fit

pub mark_lig_within : (limit : ℕ) (d : Data) (s : MarkLigPos) → mark_lig limit d ≡ Ok s → marks_fit_ligatures s.marks s.ligatures ≡ true
mark_lig_within limit d s e =
    let classes = least_length_in_rows limit (items_at (codes "bases") d) in
    let by_glyph = rows_by_key nat_cmp (λ r. r.glyph) (ligature_row limit) None in
    let ligatures = rows_at (codes "bases") by_glyph d in
    let whole = through (is_object d) _ s e in
    let m = through (marks_of classes d) _ s whole.2 in
    let b = through ligatures _ s m.2 in
    let listed = through (list_at (codes "bases") d) by_glyph b.0 b.1 in
    let turn = turn_of_rising nat_cmp (λ r. r.glyph) (ligature_row limit) listed.0 b.0 listed.2 in
    let items = items_listed (get (codes "bases") d) listed.0 listed.1 in
    let count = mark_class_count 0 m.0 in
    let least = subst (λ ds. nat_le count (least_length_in_rows limit ds) ≡ true) items (marks_counted classes d m.0 m.1) in
    let fit = each_at_least (ligature_row limit) (λ l x. row_least_length l (at 1 x)) (λ l x. least_in_row l (at 1 x)) least_length_in_rows (λ l. refl) (λ l x xs. refl) count (λ r. components_fit count r.components) (ligature_each limit count) limit listed.0 b.0 least turn in
    let same : ◌≡◌ {A = MarkLigPos} (record { marks = m.0; ligatures = b.0 }) s = cc in
    subst (λ x. marks_fit_ligatures x.marks x.ligatures ≡ true) same fit
