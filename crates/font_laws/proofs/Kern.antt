-- The lookups and features of the table kern have at most three rows for each that they take of its room.
use Rattle.std.proofs.Common.{◌≡◌, ℕ, zero, suc, ◌+◌, ◌*◌, ◌/◌, ◌-◌, ◌≤◌, ◌==◌, ◌&&◌, ◌||◌, nat_le, nat_lt, Bool, true, false, if◌then◌else◌, List, [], ◌∷◌, length, map, None, Result, Ok, refl, arith}
use Rattle.std.specs.Result.{IfOk}
use Rattle.std.specs.List.{flat_map}
use Rattle.std.specs.Ordering.{nat_cmp}
use Rattle.std.proofs.Math.ListN.{length-append}
use Rattle.std.proofs.lemmas.List.{length-map}
use Rattle.buffer_rows.specs.KeyOrder.{key_order}
use Rattle.font_bytes.specs.declared.fault.TableFault.{TableFault}
use Rattle.font_bytes.specs.Records.{records}
use Rattle.font_bytes.specs.Room.{room_after}
use Rattle.font_bytes.specs.Words.{need, word}
use Rattle.layout_common.specs.declared.glyph_row.GlyphRow.{GlyphRow}
use Rattle.layout_tables.specs.Fits.{class_count}
use Rattle.layout_tables.specs.PairRows.{pair_order}
use Rattle.font_kern.specs.declared.classes.ClassHeader.{ClassHeader}
use Rattle.font_kern.specs.declared.kerning.Kerning.{Kerning}
use Rattle.font_kern.specs.declared.subtables.Subtable.{Subtable}
use Rattle.font_kern.specs.Subtables.{header_size, length_at, directory_at, subtable_taken, subtables_from, subtables_at, format_at, kerns_line, coverage_bits_at}
use Rattle.font_kern.specs.Pairs.{pair_row, pairs_at, pair_number, rows_of_pairs, firsts_of, kern_values}
use Rattle.font_kern.specs.Classes.{class_header, listed_values, glyphs_from, class_list, left_class, right_class, left_classes, right_classes, distance_at, class_record, room_of_classes, forward_kerning, backward_kerning, kerning_of_classes, classes_at}
use Rattle.font_kern.specs.Kerning.{pair_kerning_at, kerning_at}
use Rattle.font_kern.specs.Lookups.{lookups_of, kern_lookups, kern_feature}
use Rattle.font_kern.specs.Kern.{KernLists, with_feature, with_direction}
use Rattle.font_laws.specs.RowCounts.{total_row_count}
use Rattle.font_laws.specs.Lists.{feature_row_count}
use Rattle.font_laws.specs.Positions.{class1_row_count, pair_pos_row_count, positioning_lookup_row_count}
use Rattle.font_laws.proofs.Within.{Fitting, then_if, then_any, if_either, weaker, room_taken}
use Rattle.font_laws.proofs.Totals.{total_append, key_order_length, records_length, first_rows_length, when_short}

-- ---- subtables

-- each subtable took 64 rows
from_fit : (is_apple : Bool) (table : List ℕ) (room at n : ℕ) → Fitting (λ ss. 64 * length ss) room (subtables_from is_apple table room at n)
unfolding subtables_from
from_fit is_apple table room at zero = omega arith
from_fit is_apple table room at (suc n) =
    then_if (λ left. 64 + left ≡ room) _ (room_after room 64) _ (room_taken room 64) (λ left e.
    then_any _ (need table at (header_size is_apple)) _ (λ _.
    then_if (λ r. 64 * length r.0 + r.1 ≤ left) _ (subtables_from is_apple table left (at + length_at is_apple table at) n) _ (from_fit is_apple table left (at + length_at is_apple table at) n) (λ r h.
    let one : length (subtable_taken is_apple table at) ≤ 1 = when_short ((format_at is_apple table at == 0 || format_at is_apple table at == 2) && kerns_line is_apple (coverage_bits_at is_apple table at))
    (record { body = at + header_size is_apple; header = header_size is_apple; by_classes = format_at is_apple table at == 2 } ∷ []) 1 (omega arith) in
    let split = length-append (subtable_taken is_apple table at) r.0 in
    omega arith)))

pub subtables_fit : (room : ℕ) (table : List ℕ) → Fitting (λ ss. 64 * length ss) room (subtables_at room table)
subtables_fit room table = then_any _ (directory_at table) _ (λ d. from_fit d.is_apple table room d.at d.count)

-- ---- classes of glyphs

flat_length : {X Y : Type 0} (f : X → List Y) → ((x : X) → length (f x) ≤ 1) → (xs : List X) → length (flat_map f xs) ≤ length xs
flat_length f each [] = omega arith
flat_length f each (x ∷ xs) =
    let one = each x in
    let rest = flat_length f each xs in
    let split = length-append (f x) (flat_map f xs) in
    omega arith

-- ---- pairs of glyphs

abbrev kerning_row_count : Kerning → ℕ
kerning_row_count k = pair_pos_row_count k.pairs + length k.firsts

abbrev KernFits : ℕ → Result (Kerning × ℕ) TableFault → Type 0
KernFits room read = IfOk read (λ k. kerning_row_count k.0 + 3 * k.1 ≤ 3 * room)

pairs_fit : (is_backward : Bool) (room : ℕ) (table : List ℕ) (at : ℕ) → Fitting length room (pairs_at is_backward room table at)
pairs_fit is_backward room table at =
    then_any _ (need table at 8) _ (λ _.
    then_if (λ left. word table at + left ≡ room) _ (room_after room (word table at)) _ (room_taken room (word table at)) (λ left e.
    then_any _ (need table (at + 8) (6 * word table at)) _ (λ _.
    let as_many = records_length (pair_row is_backward table) 6 (at + 8) (word table at) in omega arith)))

pair_kerning_fits : (is_backward : Bool) (room : ℕ) (table : List ℕ) (at : ℕ) → KernFits room (pair_kerning_at is_backward room table at)
pair_kerning_fits is_backward room table at =
    then_if (λ r. length r.0 + r.1 ≤ room) _ (pairs_at is_backward room table at) _ (pairs_fit is_backward room table at) (λ p h.
    let sorted = key_order_length pair_number p.0 in
    let rows = first_rows_length pair_order (λ r. (r.first, r.second)) None (key_order pair_number p.0) in
    let firsts = first_rows_length nat_cmp (λ (g : ℕ). g) None (map (λ r. r.first) (rows_of_pairs p.0)) in
    let same = length-map (rows_of_pairs p.0) (λ r. r.first) in
    let covered = key_order_length (λ (g : ℕ). g) (firsts_of (rows_of_pairs p.0)) in
    omega arith)

-- ---- pairs of classes

values_length : (table : List ℕ) (at glyph n : ℕ) → length (listed_values table at glyph n) ≡ n
unfolding listed_values
values_length table at glyph zero = refl
values_length table at glyph (suc n) = let rest = values_length table (at + 2) (glyph + 1) n in omega arith

class_list_fits : (room : ℕ) (table : List ℕ) (at : ℕ) → Fitting length room (class_list room table at)
class_list_fits room table at =
    then_any _ (need table at 4) _ (λ _.
    then_if (λ left. word table (at + 2) + left ≡ room) _ (room_after room (word table (at + 2))) _ (room_taken room (word table (at + 2))) (λ left e.
    then_any _ (need table (at + 4) (2 * word table (at + 2))) _ (λ _.
    let as_many = values_length table (at + 4) (word table at) (glyphs_from (word table at) (word table (at + 2))) in omega arith)))

abbrev class_unless : ℕ → ℕ → Bool → List (GlyphRow ℕ)
class_unless glyph class t = if t then record { glyph = glyph; value = class } ∷ [] else []

one_class : (glyph class : ℕ) (t : Bool) → length (class_unless glyph class t) ≤ 1
one_class glyph class true = omega arith
one_class glyph class false = omega arith

lefts_length : (h : ClassHeader) (rows : List (GlyphRow ℕ)) → length (left_classes h rows) ≤ length rows
lefts_length h rows =
    let one = flat_length (left_class h) (λ r. one_class r.glyph ((r.value - h.array) / h.width) (nat_le h.array r.value && nat_lt 0 h.width)) rows in
    let other = first_rows_length nat_cmp (λ r. r.glyph) None (flat_map (left_class h) rows) in
    omega arith

rights_length : (h : ClassHeader) (rows : List (GlyphRow ℕ)) → length (right_classes h rows) ≤ length rows
rights_length h rows =
    let one = flat_length (right_class h) (λ r. one_class r.glyph (r.value / 2) (nat_lt (r.value / 2) (h.width / 2))) rows in
    let other = first_rows_length nat_cmp (λ r. r.glyph) None (flat_map (right_class h) rows) in
    omega arith

class_total : (is_backward : Bool) (table : List ℕ) (inner inner_count outer at outer_count : ℕ)
    → total_row_count class1_row_count (records (λ o. class_record is_backward table inner inner_count o) outer at outer_count) ≡ outer_count * (inner_count + 1)
unfolding records
class_total is_backward table inner inner_count outer at zero = omega arith
class_total is_backward table inner inner_count outer at (suc outer_count) =
    let rest = class_total is_backward table inner inner_count outer (at + outer) outer_count in
    let one = records_length (λ o. kern_values is_backward (distance_at table o)) inner at inner_count in
    omega arith

forward_fits : (table : List ℕ) (h : ClassHeader) (lefts rights : List (GlyphRow ℕ))
    → kerning_row_count (forward_kerning table h lefts rights) ≤ 3 * length lefts + length rights + room_of_classes (class_count 0 lefts) (h.width / 2)
forward_fits table h lefts rights =
    let all = class_total false table 2 (h.width / 2) h.width h.array_at (class_count 0 lefts) in
    let covered = key_order_length (λ (g : ℕ). g) (map (λ r. r.glyph) lefts) in
    let same = length-map lefts (λ r. r.glyph) in
    omega arith

backward_fits : (table : List ℕ) (h : ClassHeader) (lefts rights : List (GlyphRow ℕ))
    → kerning_row_count (backward_kerning table h lefts rights) ≤ length lefts + length rights + room_of_classes (class_count 0 lefts) (h.width / 2) + 131072
backward_fits table h lefts rights =
    let all = class_total true table h.width (class_count 0 lefts) 2 h.array_at (h.width / 2) in
    let covered = key_order_length (λ (g : ℕ). g) (records (λ (g : ℕ). g) 1 0 65536) in
    let same = records_length (λ (g : ℕ). g) 1 0 65536 in
    omega arith

kerning_of_classes_fits : (is_backward : Bool) (room : ℕ) (table : List ℕ) (h : ClassHeader) (lefts rights : List (GlyphRow ℕ))
    → IfOk (kerning_of_classes is_backward room table h lefts rights) (λ k. kerning_row_count k.0 + 3 * k.1 ≤ 3 * room + 3 * length lefts + length rights)
kerning_of_classes_fits is_backward room table h lefts rights =
    then_if (λ left. room_of_classes (class_count 0 lefts) (h.width / 2) + left ≡ room) _ (room_after room (room_of_classes (class_count 0 lefts) (h.width / 2))) _
    (room_taken room (room_of_classes (class_count 0 lefts) (h.width / 2))) (λ left e.
    if_either _ is_backward _ (Ok (forward_kerning table h lefts rights, left))
    (then_if (λ last. 65536 + last ≡ left) _ (room_after left 65536) _ (room_taken left 65536) (λ last k. let few = backward_fits table h lefts rights in omega arith))
    (let few = forward_fits table h lefts rights in omega arith))

class_kerning_fits : (is_backward : Bool) (room : ℕ) (table : List ℕ) (start at : ℕ) → KernFits room (classes_at is_backward room table start at)
class_kerning_fits is_backward room table start at =
    let h = class_header table start at in
    then_any _ (need table at 8) _ (λ _.
    then_if (λ r. length r.0 + r.1 ≤ room) _ (class_list room table h.left_at) _ (class_list_fits room table h.left_at) (λ l i.
    then_if (λ r. length r.0 + r.1 ≤ l.1) _ (class_list l.1 table h.right_at) _ (class_list_fits l.1 table h.right_at) (λ r j.
    weaker (λ k. kerning_row_count k.0 + 3 * k.1 ≤ 3 * r.1 + 3 * length (left_classes h l.0) + length (right_classes h r.0)) _
    (kerning_of_classes is_backward r.1 table h (left_classes h l.0) (right_classes h r.0))
    (kerning_of_classes_fits is_backward r.1 table h (left_classes h l.0) (right_classes h r.0)) (λ k m.
    let lefts = lefts_length h l.0 in
    let rights = rights_length h r.0 in
    omega arith))))

kerning_fits : (is_backward : Bool) (room : ℕ) (table : List ℕ) (s : Subtable) → KernFits room (kerning_at is_backward room table s)
kerning_fits is_backward room table s =
    if_either _ s.by_classes (classes_at is_backward room table (s.body - s.header) s.body) (pair_kerning_at is_backward room table s.body)
    (class_kerning_fits is_backward room table (s.body - s.header) s.body) (pair_kerning_fits is_backward room table s.body)

-- ---- lookups and features

-- two lookups for each subtable
lookups_count : (index : ℕ) (k : Kerning) → total_row_count positioning_lookup_row_count (lookups_of index k) ≡ 7 + kerning_row_count k
lookups_count index k = omega arith

pub lookups_fit : (is_backward : Bool) (table : List ℕ) (room index : ℕ) (ss : List Subtable)
    → IfOk (kern_lookups is_backward table room index ss) (λ r. total_row_count positioning_lookup_row_count r.0 + 3 * r.1 ≤ 3 * room + 7 * length ss)
lookups_fit is_backward table room index [] = omega arith
lookups_fit is_backward table room index (s ∷ ss) =
    then_if (λ k. kerning_row_count k.0 + 3 * k.1 ≤ 3 * room) _ (kerning_at is_backward room table s) _ (kerning_fits is_backward room table s) (λ k h.
    then_if (λ r. total_row_count positioning_lookup_row_count r.0 + 3 * r.1 ≤ 3 * k.1 + 7 * length ss) _ (kern_lookups is_backward table k.1 (index + 2) ss) _ (lookups_fit is_backward table k.1 (index + 2) ss) (λ r m.
    let two = lookups_count index k.0 in
    let split = total_append positioning_lookup_row_count (lookups_of index k.0) r.0 in
    omega arith))

abbrev pub kern_lists_row_count : KernLists → ℕ
kern_lists_row_count l = total_row_count feature_row_count l.features + total_row_count positioning_lookup_row_count l.lookups

feature_fits : (is_backward : Bool) (table : List ℕ) (ss : List Subtable) (l : KernLists × ℕ)
    → IfOk (with_feature is_backward table ss l) (λ r. kern_lists_row_count r.0 + 3 * r.1 ≤ kern_lists_row_count l.0 + 3 * l.1 + 8 * length ss + 1)
feature_fits is_backward table ss l =
    let n = length l.0.lookups in
    then_if (λ r. total_row_count positioning_lookup_row_count r.0 + 3 * r.1 ≤ 3 * l.1 + 7 * length ss) _ (kern_lookups is_backward table l.1 n ss) _ (lookups_fit is_backward table l.1 n ss) (λ r h.
    let lookups = total_append positioning_lookup_row_count l.0.lookups r.0 in
    let features = total_append feature_row_count l.0.features (kern_feature n (length ss) ∷ []) in
    let as_many = records_length (λ (i : ℕ). i) 2 (n + 1) (length ss) in
    omega arith)

pub direction_fits : (lacks is_backward : Bool) (table : List ℕ) (ss : List Subtable) (l : KernLists × ℕ)
    → IfOk (with_direction lacks is_backward table ss l) (λ r. kern_lists_row_count r.0 + 3 * r.1 ≤ kern_lists_row_count l.0 + 3 * l.1 + 8 * length ss + 1)
direction_fits lacks is_backward table ss l = if_either _ lacks (with_feature is_backward table ss l) (Ok l) (feature_fits is_backward table ss l) (omega arith)
