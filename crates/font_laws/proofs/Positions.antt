-- Subtables of GPOS fit the room that they take.
use Rattle.std.proofs.Common.{◌≡◌, ℕ, zero, suc, ◌+◌, ◌*◌, ◌≤◌, ◌==◌, nat_lt, List, [], length, Option, None, Result, Ok, refl, arith}
use Rattle.std.specs.List.{filter}
use Rattle.font_bytes.specs.declared.fault.TableFault.{TableFault}
use Rattle.font_bytes.specs.Room.{room_after}
use Rattle.font_bytes.specs.Records.{records}
use Rattle.font_bytes.specs.Words.{need, word}
use Rattle.layout_common.specs.declared.glyph_row.GlyphRow.{GlyphRow}
use Rattle.layout_common.specs.Coverage.{in_order}
use Rattle.layout_tables.specs.PairRows.{pair_order}
use Rattle.layout_tables.specs.declared.pair.PairPos.TheVariants.{Glyphs, Classes}
use Rattle.font_common.specs.Coverage.{glyphs_in_room}
use Rattle.font_common.specs.ClassDefinition.{class_rows_at}
use Rattle.font_records.specs.Covered.{first_records, rows_in, rows_at}
use Rattle.font_records.specs.Turns.{record_offsets, some_value}
use Rattle.font_positioning.specs.Anchors.{anchor_at, anchor_item, anchor_list}
use Rattle.font_positioning.specs.Values.{value_at, value_size}
use Rattle.font_positioning.specs.Single.{single_of, same_value_row, value_row, single_same, single_each, single_pos_at}
use Rattle.font_positioning.specs.Pairs.{pair_size, pair_row, pair_array, pair_set, set_rows, pairs_in, glyph_pairs, pair_values, by_second}
use Rattle.font_positioning.specs.ClassPairs.{class_rows, rows_below, has_records, class2_records, class_pairs, pair_pos_at}
use Rattle.font_positioning.specs.Cursive.{entry_exit, entry_exit_row, cursive_of, cursive_rows, cursive_pos_at}
use Rattle.font_positioning.specs.Marks.{array_rows, mark_row, base_row, component_item, component_list, ligature_row, mark_base, mark_ligature, mark_base_pos_at, mark_lig_pos_at}
use Rattle.font_laws.specs.RowCounts.{total_row_count, optional_row_count}
use Rattle.font_laws.specs.Positions.{single_pos_row_count, class1_row_count, class_pairs_row_count, pair_pos_row_count, cursive_pos_row_count, base_row_count, component_row_count, ligature_attach_row_count, mark_base_row_count, mark_lig_row_count}
use Rattle.font_laws.proofs.Within.{Fitting, then_if, then_any, if_either, weaker, room_taken}
use Rattle.font_laws.proofs.Totals.{length_total, total_flat, records_length, first_records_length, first_rows_length, key_order_length, filter_length}
use Rattle.font_laws.proofs.Coverages.{glyphs_fit, class_rows_fit}
use Rattle.font_laws.proofs.Turns.{some_value_fits, rows_in_fit, rows_at_fit, plain_array_fits, plain_turns_fit, value_fits}

-- ---- single

single_same_fits : (room : ℕ) (table : List ℕ) (at : ℕ) → Fitting (optional_row_count single_pos_row_count) room (single_same room table at)
single_same_fits room table at =
    then_any _ (need table at 6) _ (λ _. then_any _ (need table (at + 6) (value_size (word table (at + 4)))) _ (λ _.
    then_if (λ c. length c.0 + c.1 ≤ room) _ (glyphs_in_room room table at (word table (at + 2))) _ (glyphs_fit room table at (word table (at + 2))) (λ c h.
    let row = same_value_row (value_at (word table (at + 4)) table (at + 6)) in
    some_value_fits (total_row_count (λ _. 0)) single_pos_row_count single_of (λ rows. length_total rows) room (rows_in row 0 0 (length c.0) c.0 c.1)
    (weaker (λ r. total_row_count (λ _. 0) r.0 + r.1 ≤ c.1 + 1 * length (first_records 0 c.0 (record_offsets 0 0 (length c.0)))) _ (rows_in row 0 0 (length c.0) c.0 c.1)
    (rows_in_fit (λ _. 0) row (λ r o g. omega arith) 0 0 (length c.0) c.0 c.1) (λ r k.
    let few = first_records_length 0 c.0 (record_offsets 0 0 (length c.0)) in omega arith)))))

single_each_fits : (room : ℕ) (table : List ℕ) (at : ℕ) → Fitting (optional_row_count single_pos_row_count) room (single_each room table at)
single_each_fits room table at =
    then_any _ (need table at 8) _ (λ _. then_any _ (need table (at + 8) (value_size (word table (at + 4)) * word table (at + 6))) _ (λ _.
    some_value_fits (total_row_count (λ _. 0)) single_pos_row_count single_of (λ rows. length_total rows) room
    (rows_at (value_row (word table (at + 4)) table) table at (word table (at + 2)) (value_size (word table (at + 4))) (at + 8) (word table (at + 6)) room)
    (rows_at_fit (λ _. 0) (value_row (word table (at + 4)) table) (λ r o g. omega arith) table at (word table (at + 2)) (value_size (word table (at + 4))) (at + 8) (word table (at + 6)) room)))

pub single_pos_fits : (room : ℕ) (table : List ℕ) (at : ℕ) → Fitting (optional_row_count single_pos_row_count) room (single_pos_at room table at)
single_pos_fits room table at =
    then_any _ (need table at 2) _ (λ _.
    if_either _ (word table at == 1) (single_same room table at) _ (single_same_fits room table at)
    (if_either _ (word table at == 2) (single_each room table at) _ (single_each_fits room table at) (omega arith)))

-- ---- pairs of glyphs

pair_set_fits : (format1 format2 : ℕ) (table : List ℕ) (room at first : ℕ) → Fitting (total_row_count (λ _. 0)) room (pair_set format1 format2 table room at first)
pair_set_fits format1 format2 table room at first =
    then_any _ (need table at 2) _ (λ _. then_any _ (need table (at + 2) ((2 + pair_size format1 format2) * word table at)) _ (λ _.
    then_if (λ left. word table at + left ≡ room) _ (room_after room (word table at)) _ (room_taken room (word table at)) (λ left e.
    let rows = pair_array format1 format2 table first (at + 2) (word table at) in
    let few = key_order_length (λ r. r.second) rows in
    let as_many = records_length (pair_row format1 format2 table first) (2 + pair_size format1 format2) (at + 2) (word table at) in
    let same = total_flat (λ _. 0) (λ _. refl) (by_second rows) in
    omega arith)))

set_rows_fit : (format1 format2 start : ℕ) (table : List ℕ) (room at first : ℕ) → Fitting (total_row_count (λ _. 0)) room (set_rows format1 format2 start table room at first)
set_rows_fit format1 format2 start table room at first =
    if_either _ (word table at == 0) (Ok ([], room)) (pair_set format1 format2 table room (start + word table at) first) (omega arith)
    (pair_set_fits format1 format2 table room (start + word table at) first)

glyph_pairs_fit : (room : ℕ) (table : List ℕ) (at : ℕ) → Fitting length room (glyph_pairs room table at)
glyph_pairs_fit room table at =
    then_any _ (need table at 10) _ (λ _. then_any _ (need table (at + 10) (2 * word table (at + 8))) _ (λ _.
    then_if (λ left. word table (at + 8) + left ≡ room) _ (room_after room (word table (at + 8))) _ (room_taken room (word table (at + 8))) (λ left e.
    then_if (λ c. length c.0 + c.1 ≤ left) _ (glyphs_in_room left table at (word table (at + 2))) _ (glyphs_fit left table at (word table (at + 2))) (λ c h.
    let f1 = word table (at + 4) in
    let f2 = word table (at + 6) in
    then_if (λ r. total_row_count (λ _. 0) r.0 + r.1 ≤ c.1) _ (pairs_in f1 f2 at table (at + 10) (word table (at + 8)) c.0 c.1) _
    (plain_turns_fit (λ _. 0) (λ r p. set_rows f1 f2 at table r p.1 p.0) (λ r p. set_rows_fit f1 f2 at table r p.1 p.0) c.1 (first_records 0 c.0 (record_offsets 2 (at + 10) (word table (at + 8))))) (λ r k.
    let same = total_flat (λ _. 0) (λ _. refl) r.0 in
    let few = first_rows_length pair_order (λ row. (row.first, row.second)) None r.0 in
    omega arith)))))

-- ---- pairs of classes

class1_total : (format1 format2 : ℕ) (table : List ℕ) (count2 width at count1 : ℕ)
    → total_row_count class1_row_count (records (class2_records format1 format2 table count2) width at count1) ≡ count1 * (count2 + 1)
unfolding records
class1_total format1 format2 table count2 width at zero = omega arith
class1_total format1 format2 table count2 width at (suc count1) =
    let rest = class1_total format1 format2 table count2 width (at + width) count1 in
    let one = records_length (pair_values format1 format2 table) (pair_size format1 format2) at count2 in
    omega arith

class_rows_at_fit : (room : ℕ) (table : List ℕ) (start offset : ℕ) → Fitting length room (class_rows room table start offset)
class_rows_at_fit room table start offset = value_fits length [] class_rows_at table refl (λ r o. class_rows_fit r table o) room start offset

covered_few : (rows : List (GlyphRow ℕ)) (count : ℕ) (glyphs : List ℕ) → length (in_order (filter (has_records rows count) glyphs)) ≤ length glyphs
covered_few rows count glyphs =
    let one = key_order_length (λ (g : ℕ). g) (filter (has_records rows count) glyphs) in
    let other = filter_length (has_records rows count) glyphs in
    omega arith

below_few : (count : ℕ) (rows : List (GlyphRow ℕ)) → length (rows_below count rows) ≤ length rows
below_few count rows = filter_length (λ r. nat_lt r.value count) rows

class_pairs_fit : (room : ℕ) (table : List ℕ) (at : ℕ) → Fitting class_pairs_row_count room (class_pairs room table at)
class_pairs_fit room table at =
    let f1 = word table (at + 4) in
    let f2 = word table (at + 6) in
    let n1 = word table (at + 12) in
    let n2 = word table (at + 14) in
    then_any _ (need table at 16) _ (λ _. then_any _ (need table (at + 16) (pair_size f1 f2 * n2 * n1)) _ (λ _.
    then_if (λ left. n1 * (n2 + 1) + left ≡ room) _ (room_after room (n1 * (n2 + 1))) _ (room_taken room (n1 * (n2 + 1))) (λ left e.
    then_if (λ c. length c.0 + c.1 ≤ left) _ (glyphs_in_room left table at (word table (at + 2))) _ (glyphs_fit left table at (word table (at + 2))) (λ c h.
    then_if (λ r. length r.0 + r.1 ≤ c.1) _ (class_rows c.1 table at (word table (at + 8))) _ (class_rows_at_fit c.1 table at (word table (at + 8))) (λ one j.
    then_if (λ r. length r.0 + r.1 ≤ one.1) _ (class_rows one.1 table at (word table (at + 10))) _ (class_rows_at_fit one.1 table at (word table (at + 10))) (λ two k.
    let all = class1_total f1 f2 table n2 (pair_size f1 f2 * n2) (at + 16) n1 in
    let covered = covered_few one.0 n1 c.0 in
    let first = below_few n1 one.0 in
    let second = below_few n2 two.0 in
    omega arith))))))

pub pair_pos_fits : (room : ℕ) (table : List ℕ) (at : ℕ) → Fitting (optional_row_count pair_pos_row_count) room (pair_pos_at room table at)
pair_pos_fits room table at =
    then_any _ (need table at 2) _ (λ _.
    if_either _ (word table at == 1) (some_value (λ rows. Glyphs (record { rows = rows })) (glyph_pairs room table at)) _
    (some_value_fits length pair_pos_row_count (λ rows. Glyphs (record { rows = rows })) (λ rows. omega arith) room (glyph_pairs room table at) (glyph_pairs_fit room table at))
    (if_either _ (word table at == 2) (some_value (λ pairs. Classes pairs) (class_pairs room table at)) _
    (some_value_fits class_pairs_row_count pair_pos_row_count (λ pairs. Classes pairs) (λ pairs. omega arith) room (class_pairs room table at) (class_pairs_fit room table at))
    (omega arith)))

-- ---- cursive attachment

entry_exit_row_fits : (start : ℕ) (table : List ℕ) (room at glyph : ℕ) → Fitting (optional_row_count (λ _. 0)) room (entry_exit_row start table room at glyph)
entry_exit_row_fits start table room at glyph = then_any _ (entry_exit start table at) _ (λ e. omega arith)

pub cursive_pos_fits : (room : ℕ) (table : List ℕ) (at : ℕ) → Fitting (optional_row_count cursive_pos_row_count) room (cursive_pos_at room table at)
cursive_pos_fits room table at =
    then_any _ (need table at 2) _ (λ _.
    if_either _ (word table at == 1) (some_value cursive_of (cursive_rows room table at)) _
    (some_value_fits (total_row_count (λ _. 0)) cursive_pos_row_count cursive_of (λ rows. length_total rows) room (cursive_rows room table at)
    (then_any _ (need table at 6) _ (λ _. then_any _ (need table (at + 6) (4 * word table (at + 4))) _ (λ _.
    rows_at_fit (λ _. 0) (entry_exit_row at table) (λ r o g. entry_exit_row_fits at table r o g) table at (word table (at + 2)) 4 (at + 6) (word table (at + 4)) room))))
    (omega arith))

-- ---- marks

anchor_item_fits : (base : ℕ) (table : List ℕ) (room at : ℕ) → Fitting (optional_row_count (λ _. 0)) room (anchor_item base table room at)
anchor_item_fits base table room at = then_any _ (anchor_at base table at) _ (λ a. omega arith)

anchors_fit : (base : ℕ) (table : List ℕ) (at n room : ℕ) → Fitting (total_row_count (λ _. 0)) room (anchor_list base table at n room)
anchors_fit base table at n room = plain_array_fits (λ _. 0) (anchor_item base table) (λ r o. anchor_item_fits base table r o) 2 at n room

array_rows_fit : {R : Type 0} (count : R → ℕ) (row : ℕ → ℕ → ℕ → ℕ → Result (Option R × ℕ) TableFault)
    → ((base room at glyph : ℕ) → Fitting (optional_row_count count) room (row base room at glyph))
    → (width room : ℕ) (table : List ℕ) (start coverage offset : ℕ) → Fitting (total_row_count count) room (array_rows row width room table start coverage offset)
array_rows_fit count row each width room table start coverage offset =
    if_either _ (offset == 0) (Ok ([], room)) _ (omega arith)
    (then_any _ (need table (start + offset) 2) _ (λ _. then_any _ (need table (start + offset + 2) (width * word table (start + offset))) _ (λ _.
    rows_at_fit count (row (start + offset)) (λ r o g. each (start + offset) r o g) table start coverage width (start + offset + 2) (word table (start + offset)) room)))

mark_row_fits : (class_count : ℕ) (table : List ℕ) (base room at glyph : ℕ) → Fitting (optional_row_count (λ _. 0)) room (mark_row class_count table base room at glyph)
mark_row_fits class_count table base room at glyph =
    if_either _ (nat_lt (word table at) class_count) _ (Ok (None, room)) (then_any _ (anchor_at base table (at + 2)) _ (λ a. omega arith)) (omega arith)

base_row_fits : (class_count : ℕ) (table : List ℕ) (base room at glyph : ℕ) → Fitting (optional_row_count base_row_count) room (base_row class_count table base room at glyph)
base_row_fits class_count table base room at glyph =
    some_value_fits (total_row_count (λ _. 0)) base_row_count (λ anchors. record { glyph = glyph; anchors = anchors }) (λ anchors. length_total anchors) room
    (anchor_list base table at class_count room) (anchors_fit base table at class_count room)

component_fits : (class_count base : ℕ) (table : List ℕ) (room at : ℕ) → Fitting (optional_row_count component_row_count) room (component_item class_count base table room at)
component_fits class_count base table room at =
    some_value_fits (total_row_count (λ _. 0)) component_row_count (λ anchors. record { anchors = anchors }) (λ anchors. length_total anchors) room
    (anchor_list base table at class_count room) (anchors_fit base table at class_count room)

component_list_fits : (class_count room : ℕ) (table : List ℕ) (at : ℕ) → Fitting (total_row_count component_row_count) room (component_list class_count room table at)
component_list_fits class_count room table at =
    then_any _ (need table at 2) _ (λ _. then_any _ (need table (at + 2) (2 * class_count * word table at)) _ (λ _.
    plain_array_fits component_row_count (component_item class_count at table) (λ r o. component_fits class_count at table r o) (2 * class_count) (at + 2) (word table at) room))

ligature_row_fits : (class_count : ℕ) (table : List ℕ) (base room at glyph : ℕ) → Fitting (optional_row_count ligature_attach_row_count) room (ligature_row class_count table base room at glyph)
ligature_row_fits class_count table base room at glyph =
    if_either _ (word table at == 0) (Ok (None, room)) _ (omega arith)
    (some_value_fits (total_row_count component_row_count) ligature_attach_row_count (λ components. record { glyph = glyph; components = components }) (λ components. omega arith) room
    (component_list class_count room table (base + word table at)) (component_list_fits class_count room table (base + word table at)))

mark_base_fits : (room : ℕ) (table : List ℕ) (at : ℕ) → Fitting mark_base_row_count room (mark_base room table at)
mark_base_fits room table at =
    let n = word table (at + 6) in
    then_any _ (need table at 12) _ (λ _.
    then_if (λ r. total_row_count (λ _. 0) r.0 + r.1 ≤ room) _ (array_rows (mark_row n table) 4 room table at (word table (at + 2)) (word table (at + 8))) _
    (array_rows_fit (λ _. 0) (mark_row n table) (λ b r o g. mark_row_fits n table b r o g) 4 room table at (word table (at + 2)) (word table (at + 8))) (λ marks h.
    then_if (λ r. total_row_count base_row_count r.0 + r.1 ≤ marks.1) _ (array_rows (base_row n table) (2 * n) marks.1 table at (word table (at + 4)) (word table (at + 10))) _
    (array_rows_fit base_row_count (base_row n table) (λ b r o g. base_row_fits n table b r o g) (2 * n) marks.1 table at (word table (at + 4)) (word table (at + 10))) (λ bases k.
    let few = length_total marks.0 in omega arith)))

mark_ligature_fits : (room : ℕ) (table : List ℕ) (at : ℕ) → Fitting mark_lig_row_count room (mark_ligature room table at)
mark_ligature_fits room table at =
    let n = word table (at + 6) in
    then_any _ (need table at 12) _ (λ _.
    then_if (λ r. total_row_count (λ _. 0) r.0 + r.1 ≤ room) _ (array_rows (mark_row n table) 4 room table at (word table (at + 2)) (word table (at + 8))) _
    (array_rows_fit (λ _. 0) (mark_row n table) (λ b r o g. mark_row_fits n table b r o g) 4 room table at (word table (at + 2)) (word table (at + 8))) (λ marks h.
    then_if (λ r. total_row_count ligature_attach_row_count r.0 + r.1 ≤ marks.1) _ (array_rows (ligature_row n table) 2 marks.1 table at (word table (at + 4)) (word table (at + 10))) _
    (array_rows_fit ligature_attach_row_count (ligature_row n table) (λ b r o g. ligature_row_fits n table b r o g) 2 marks.1 table at (word table (at + 4)) (word table (at + 10))) (λ ligatures k.
    let few = length_total marks.0 in omega arith)))

pub mark_base_pos_fits : (room : ℕ) (table : List ℕ) (at : ℕ) → Fitting (optional_row_count mark_base_row_count) room (mark_base_pos_at room table at)
mark_base_pos_fits room table at =
    then_any _ (need table at 2) _ (λ _.
    if_either _ (word table at == 1) (some_value (λ p. p) (mark_base room table at)) _
    (some_value_fits mark_base_row_count mark_base_row_count (λ p. p) (λ p. omega arith) room (mark_base room table at) (mark_base_fits room table at))
    (omega arith))

pub mark_lig_pos_fits : (room : ℕ) (table : List ℕ) (at : ℕ) → Fitting (optional_row_count mark_lig_row_count) room (mark_lig_pos_at room table at)
mark_lig_pos_fits room table at =
    then_any _ (need table at 2) _ (λ _.
    if_either _ (word table at == 1) (some_value (λ p. p) (mark_ligature room table at)) _
    (some_value_fits mark_lig_row_count mark_lig_row_count (λ p. p) (λ p. omega arith) room (mark_ligature room table at) (mark_ligature_fits room table at))
    (omega arith))
