-- Subtables of GSUB fit the room that they take.
use Rattle.std.proofs.Common.{◌≡◌, ℕ, ◌+◌, ◌*◌, ◌-◌, ◌≤◌, ◌==◌, List, [], length, None, Ok, refl, arith}
use Rattle.font_bytes.specs.Room.{room_after}
use Rattle.font_bytes.specs.Words.{need, word}
use Rattle.font_common.specs.Coverage.{coverage_at, glyphs_in_room}
use Rattle.font_common.specs.Offsets.{list_at}
use Rattle.font_records.specs.Covered.{first_records, rows_in, rows_at}
use Rattle.font_records.specs.Turns.{record_offsets, some_value}
use Rattle.font_substitution.specs.Glyphs.{glyph_list, counted_glyphs}
use Rattle.font_substitution.specs.Single.{single_of, delta_row, substitute_row, single_delta, single_listed, single_subst_at}
use Rattle.font_substitution.specs.Sequence.{multiple_of, alternate_of, sequence_glyphs, sequence_row, sequence_rows, multiple_subst_at, alternate_subst_at}
use Rattle.font_substitution.specs.Ligature.{ligature_table, ligature_item, ligature_list, set_ligatures, set_row, ligature_sets, ligature_subst_at}
use Rattle.font_substitution.specs.Reverse.{reverse_rows, reverse_chain, reverse_subst_at}
use Rattle.font_laws.specs.RowCounts.{total_row_count, optional_row_count}
use Rattle.font_laws.specs.Substitutions.{single_subst_row_count, sequence_row_count, multiple_subst_row_count, alternate_subst_row_count, ligature_row_count, ligature_set_row_count, ligature_subst_row_count, reverse_subst_row_count}
use Rattle.font_laws.proofs.Within.{Fitting, then_if, then_any, if_either, weaker, room_taken}
use Rattle.font_laws.proofs.Totals.{length_total, records_length, first_records_length}
use Rattle.font_laws.proofs.Coverages.{glyphs_fit, coverage_fits}
use Rattle.font_laws.proofs.Turns.{some_value_fits, rows_in_fit, rows_at_fit, plain_array_fits, list_fits}

-- ---- single

single_delta_fits : (room : ℕ) (table : List ℕ) (at : ℕ) → Fitting (optional_row_count single_subst_row_count) room (single_delta room table at)
single_delta_fits room table at =
    then_any _ (need table at 6) _ (λ _.
    then_if (λ c. length c.0 + c.1 ≤ room) _ (glyphs_in_room room table at (word table (at + 2))) _ (glyphs_fit room table at (word table (at + 2))) (λ c h.
    some_value_fits (total_row_count (λ _. 0)) single_subst_row_count single_of (λ rows. length_total rows) room (rows_in (delta_row (word table (at + 4))) 0 0 (length c.0) c.0 c.1)
    (weaker (λ r. total_row_count (λ _. 0) r.0 + r.1 ≤ c.1 + 1 * length (first_records 0 c.0 (record_offsets 0 0 (length c.0)))) _ (rows_in (delta_row (word table (at + 4))) 0 0 (length c.0) c.0 c.1)
    (rows_in_fit (λ _. 0) (delta_row (word table (at + 4))) (λ r o g. omega arith) 0 0 (length c.0) c.0 c.1) (λ r k.
    let few = first_records_length 0 c.0 (record_offsets 0 0 (length c.0)) in omega arith))))

substitutes_fit : (table : List ℕ) (start coverage at n room : ℕ) → Fitting (total_row_count (λ _. 0)) room (rows_at (substitute_row table) table start coverage 2 at n room)
substitutes_fit table start coverage at n room = rows_at_fit (λ _. 0) (substitute_row table) (λ r o g. omega arith) table start coverage 2 at n room

single_listed_fits : (room : ℕ) (table : List ℕ) (at : ℕ) → Fitting (optional_row_count single_subst_row_count) room (single_listed room table at)
single_listed_fits room table at =
    then_any _ (need table at 6) _ (λ _. then_any _ (need table (at + 6) (2 * word table (at + 4))) _ (λ _.
    some_value_fits (total_row_count (λ _. 0)) single_subst_row_count single_of (λ rows. length_total rows) room
    (rows_at (substitute_row table) table at (word table (at + 2)) 2 (at + 6) (word table (at + 4)) room)
    (substitutes_fit table at (word table (at + 2)) (at + 6) (word table (at + 4)) room)))

pub single_subst_fits : (room : ℕ) (table : List ℕ) (at : ℕ) → Fitting (optional_row_count single_subst_row_count) room (single_subst_at room table at)
single_subst_fits room table at =
    then_any _ (need table at 2) _ (λ _.
    if_either _ (word table at == 1) (single_delta room table at) _ (single_delta_fits room table at)
    (if_either _ (word table at == 2) (single_listed room table at) _ (single_listed_fits room table at) (omega arith)))

-- ---- sequences

glyph_list_fits : (room : ℕ) (table : List ℕ) (at n : ℕ) → Fitting length room (glyph_list room table at n)
glyph_list_fits room table at n =
    then_any _ (need table at (2 * n)) _ (λ _. then_if (λ left. n + left ≡ room) _ (room_after room n) _ (room_taken room n) (λ left e.
    let as_many = records_length (word table) 2 at n in omega arith))

sequence_fits : (table : List ℕ) (start room offset : ℕ) → Fitting length room (sequence_glyphs table start room offset)
sequence_fits table start room offset =
    if_either _ (offset == 0) (Ok ([], room)) (counted_glyphs room table (start + offset)) (omega arith)
    (then_any _ (need table (start + offset) 2) _ (λ _. glyph_list_fits room table (start + offset + 2) (word table (start + offset))))

sequence_row_fits : (start : ℕ) (table : List ℕ) (room at glyph : ℕ) → Fitting (optional_row_count sequence_row_count) room (sequence_row start table room at glyph)
sequence_row_fits start table room at glyph =
    some_value_fits length sequence_row_count (λ gs. record { glyph = glyph; glyphs = gs }) (λ gs. omega arith) room (sequence_glyphs table start room (word table at))
    (sequence_fits table start room (word table at))

sequence_rows_fit : (room : ℕ) (table : List ℕ) (at : ℕ) → Fitting (total_row_count sequence_row_count) room (sequence_rows room table at)
sequence_rows_fit room table at =
    then_any _ (need table at 6) _ (λ _. then_any _ (need table (at + 6) (2 * word table (at + 4))) _ (λ _.
    rows_at_fit sequence_row_count (sequence_row at table) (λ r o g. sequence_row_fits at table r o g) table at (word table (at + 2)) 2 (at + 6) (word table (at + 4)) room))

pub multiple_subst_fits : (room : ℕ) (table : List ℕ) (at : ℕ) → Fitting (optional_row_count multiple_subst_row_count) room (multiple_subst_at room table at)
multiple_subst_fits room table at =
    then_any _ (need table at 2) _ (λ _.
    if_either _ (word table at == 1) (some_value multiple_of (sequence_rows room table at)) _
    (some_value_fits (total_row_count sequence_row_count) multiple_subst_row_count multiple_of (λ rows. omega arith) room (sequence_rows room table at) (sequence_rows_fit room table at))
    (omega arith))

pub alternate_subst_fits : (room : ℕ) (table : List ℕ) (at : ℕ) → Fitting (optional_row_count alternate_subst_row_count) room (alternate_subst_at room table at)
alternate_subst_fits room table at =
    then_any _ (need table at 2) _ (λ _.
    if_either _ (word table at == 1) (some_value alternate_of (sequence_rows room table at)) _
    (some_value_fits (total_row_count sequence_row_count) alternate_subst_row_count alternate_of (λ rows. omega arith) room (sequence_rows room table at) (sequence_rows_fit room table at))
    (omega arith))

-- ---- ligatures

ligature_table_fits : (room : ℕ) (table : List ℕ) (at : ℕ) → Fitting (optional_row_count ligature_row_count) room (ligature_table room table at)
ligature_table_fits room table at =
    then_any _ (need table at 4) _ (λ _.
    if_either _ (word table (at + 2) == 0) (Ok (None, room)) _ (omega arith)
    (some_value_fits length ligature_row_count (λ gs. record { components = gs; glyph = word table at }) (λ gs. omega arith) room (glyph_list room table (at + 4) (word table (at + 2) - 1))
    (glyph_list_fits room table (at + 4) (word table (at + 2) - 1))))

ligature_item_fits : (start : ℕ) (table : List ℕ) (room at : ℕ) → Fitting (optional_row_count ligature_row_count) room (ligature_item start table room at)
ligature_item_fits start table room at =
    if_either _ (word table at == 0) (Ok (None, room)) (ligature_table room table (start + word table at)) (omega arith) (ligature_table_fits room table (start + word table at))

ligature_list_fits : (room : ℕ) (table : List ℕ) (at : ℕ) → Fitting (total_row_count ligature_row_count) room (ligature_list room table at)
ligature_list_fits room table at =
    then_any _ (need table at 2) _ (λ _. then_any _ (need table (at + 2) (2 * word table at)) _ (λ _.
    plain_array_fits ligature_row_count (ligature_item at table) (λ r o. ligature_item_fits at table r o) 2 (at + 2) (word table at) room))

set_ligatures_fit : (table : List ℕ) (start room offset : ℕ) → Fitting (total_row_count ligature_row_count) room (set_ligatures table start room offset)
set_ligatures_fit table start room offset =
    if_either _ (offset == 0) (Ok ([], room)) (ligature_list room table (start + offset)) (omega arith) (ligature_list_fits room table (start + offset))

set_row_fits : (start : ℕ) (table : List ℕ) (room at glyph : ℕ) → Fitting (optional_row_count ligature_set_row_count) room (set_row start table room at glyph)
set_row_fits start table room at glyph =
    some_value_fits (total_row_count ligature_row_count) ligature_set_row_count (λ ls. record { first = glyph; ligatures = ls }) (λ ls. omega arith) room
    (set_ligatures table start room (word table at)) (set_ligatures_fit table start room (word table at))

ligature_sets_fit : (room : ℕ) (table : List ℕ) (at : ℕ) → Fitting (total_row_count ligature_set_row_count) room (ligature_sets room table at)
ligature_sets_fit room table at =
    then_any _ (need table at 6) _ (λ _. then_any _ (need table (at + 6) (2 * word table (at + 4))) _ (λ _.
    rows_at_fit ligature_set_row_count (set_row at table) (λ r o g. set_row_fits at table r o g) table at (word table (at + 2)) 2 (at + 6) (word table (at + 4)) room))

pub ligature_subst_fits : (room : ℕ) (table : List ℕ) (at : ℕ) → Fitting (optional_row_count ligature_subst_row_count) room (ligature_subst_at room table at)
ligature_subst_fits room table at =
    then_any _ (need table at 2) _ (λ _.
    if_either _ (word table at == 1) (some_value (λ sets. sets) (ligature_sets room table at)) _
    (some_value_fits (total_row_count ligature_set_row_count) ligature_subst_row_count (λ sets. sets) (λ sets. omega arith) room (ligature_sets room table at) (ligature_sets_fit room table at))
    (omega arith))

-- ---- reverse chaining

reverse_rows_fit : (room : ℕ) (table : List ℕ) (start at : ℕ) → Fitting (total_row_count (λ _. 0)) room (reverse_rows room table start at)
reverse_rows_fit room table start at =
    then_any _ (need table at 2) _ (λ _. then_any _ (need table (at + 2) (2 * word table at)) _ (λ _.
    substitutes_fit table start (word table (start + 2)) (at + 2) (word table at) room))

coverages_fit : (table : List ℕ) (base at room : ℕ) → Fitting (total_row_count length) room (list_at [] coverage_at table base at room)
coverages_fit table base at room = list_fits length [] coverage_at table refl (λ r o. coverage_fits r table o) base at room

reverse_chain_fits : (room : ℕ) (table : List ℕ) (at : ℕ) → Fitting reverse_subst_row_count room (reverse_chain room table at)
reverse_chain_fits room table at =
    then_any _ (need table at 6) _ (λ _.
    then_if (λ r. total_row_count length r.0 + r.1 ≤ room) _ (list_at [] coverage_at table at (at + 4) room) _ (coverages_fit table at (at + 4) room) (λ back h.
    let ahead_at = at + 6 + 2 * word table (at + 4) in
    then_if (λ r. total_row_count length r.0 + r.1 ≤ back.1) _ (list_at [] coverage_at table at ahead_at back.1) _ (coverages_fit table at ahead_at back.1) (λ ahead j.
    then_if (λ r. total_row_count (λ _. 0) r.0 + r.1 ≤ ahead.1) _ (reverse_rows ahead.1 table at (ahead_at + 2 + 2 * word table ahead_at)) _
    (reverse_rows_fit ahead.1 table at (ahead_at + 2 + 2 * word table ahead_at)) (λ rows k. let few = length_total rows.0 in omega arith))))

pub reverse_subst_fits : (room : ℕ) (table : List ℕ) (at : ℕ) → Fitting (optional_row_count reverse_subst_row_count) room (reverse_subst_at room table at)
reverse_subst_fits room table at =
    then_any _ (need table at 2) _ (λ _.
    if_either _ (word table at == 1) (some_value (λ r. r) (reverse_chain room table at)) _
    (some_value_fits reverse_subst_row_count reverse_subst_row_count (λ r. r) (λ r. omega arith) room (reverse_chain room table at) (reverse_chain_fits room table at))
    (omega arith))
