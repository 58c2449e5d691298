-- Characters and variants fit the room that they take.
use Rattle.std.proofs.Common.{◌≡◌, ℕ, zero, suc, ◌+◌, ◌*◌, ◌≤◌, ◌==◌, max, if◌then◌else◌, List, [], ◌∷◌, length, Option, Some, None, Ok, refl, arith}
use Rattle.std.specs.List.{flat_map}
use Rattle.std.proofs.Math.ListN.{length-append}
use Rattle.layout_face.specs.declared.parts.CharacterRow.{CharacterRow}
use Rattle.layout_face.specs.declared.parts.VariationRow.{VariationRow}
use Rattle.font_bytes.specs.Records.{records}
use Rattle.font_bytes.specs.Room.{room_after}
use Rattle.font_bytes.specs.Words.{need, triple, word, long}
use Rattle.font_cmap.specs.declared.encodings.Encoding.{Encoding}
use Rattle.font_cmap.specs.declared.encodings.Encoding.TheVariants.{Symbol, Unicode, Roman}
use Rattle.font_cmap.specs.declared.ranges.CharacterRange.{CharacterRange}
use Rattle.font_cmap.specs.declared.ranges.RangeArray.{RangeArray}
use Rattle.font_cmap.specs.Rows.{is_character, character_row, rows_in, range_count, rows_of, count_of, ranges_of}
use Rattle.font_cmap.specs.Ranges.{glyph_in}
use Rattle.font_cmap.specs.Roman.{upper_codes}
use Rattle.font_cmap.specs.Encoded.{row_glyph, symbol_glyph, symbol_rows, roman_row, roman_rows, encoded_rows}
use Rattle.font_cmap.specs.Encodings.{record_count, find_subtable, chosen_subtable}
use Rattle.font_cmap.specs.Subtables.{ranges_at, rows_of_array}
use Rattle.font_cmap.specs.Characters.{characters_of, characters_chosen, characters_at}
use Rattle.font_cmap.specs.Variations.{variation_row, variants_in, itself, range_size, range_rows, ranges_size, mapping_row, usual_at, mappings_at, selector_at, selectors_in, selectors_at, variation_key, pair_order, sorted_variations, variations_of, variations_at}
use Rattle.buffer_rows.specs.KeyOrder.{key_order}
use Rattle.font_laws.proofs.Within.{Fitting, then_if, then_any, if_either, weaker, room_taken}
use Rattle.font_laws.proofs.Totals.{unless_short, when_short, key_order_length, first_rows_length, records_length}
use Rattle.font_laws.proofs.Turns.{FittingBut}

-- ---- rows of ranges

abbrev row_list : ℕ → ℕ → List CharacterRow
row_list c g = record { character = c; glyph = g } ∷ []

row_length : (c g : ℕ) → length (character_row c g) ≤ 1
unfolding character_row
row_length c g = unless_short (g == 0) (if is_character c then row_list c g else []) 1 (when_short (is_character c) (row_list c g) 1 (omega arith))

rows_length : (glyph : ℕ → ℕ) (c count : ℕ) → length (rows_in glyph c count) ≤ count
unfolding rows_in
rows_length glyph c zero = omega arith
rows_length glyph c (suc count) =
    let one = row_length c (glyph c) in
    let rest = rows_length glyph (c + 1) count in
    let split = length-append (character_row c (glyph c)) (rows_in glyph (c + 1) count) in
    omega arith

ranges_length : (table : List ℕ) (least : ℕ) (rs : List CharacterRange) → length (rows_of table least rs) ≤ count_of least rs
ranges_length table least [] = omega arith
ranges_length table least (r ∷ rs) =
    let one = rows_length (glyph_in table r) (max least r.first) (range_count least r) in
    let rest = ranges_length table (max least r.end) rs in
    let split = length-append (rows_in (glyph_in table r) (max least r.first) (range_count least r)) (rows_of table (max least r.end) rs) in
    omega arith

-- fewer characters of ranges aren't below a greater least one
range_count_falls : (least higher : ℕ) (r : CharacterRange) → least ≤ higher → range_count higher r ≤ range_count least r
unfolding range_count
range_count_falls least higher r h = omega arith

count_falls : (least higher : ℕ) (rs : List CharacterRange) → least ≤ higher → count_of higher rs ≤ count_of least rs
count_falls least higher [] h = omega arith
count_falls least higher (r ∷ rs) h =
    let one = range_count_falls least higher r h in
    let rest = count_falls (max least r.end) (max higher r.end) rs (omega arith) in
    omega arith

-- ---- encodings

symbol_length : (table : List ℕ) (a : RangeArray) (rows : List CharacterRow) → length (symbol_rows table a rows) ≤ 256 + count_of 0 (ranges_of table a)
unfolding symbol_rows
symbol_length table a rows =
    let low = rows_length (symbol_glyph (row_glyph rows)) 0 256 in
    let high = ranges_length table 256 (ranges_of table a) in
    let fewer = count_falls 0 256 (ranges_of table a) (omega arith) in
    let split = length-append (rows_in (symbol_glyph (row_glyph rows)) 0 256) (rows_of table 256 (ranges_of table a)) in
    omega arith

coded_length : (rows : List CharacterRow) (codes : List (ℕ × ℕ)) → length (flat_map (roman_row rows) codes) ≤ length codes
coded_length rows [] = omega arith
coded_length rows (p ∷ codes) =
    let one = row_length p.0 (row_glyph rows p.1) in
    let rest = coded_length rows codes in
    let split = length-append (roman_row rows p) (flat_map (roman_row rows) codes) in
    omega arith

upper_length : length upper_codes ≡ 128
unfolding upper_codes
upper_length = refl

roman_length : (rows : List CharacterRow) → length (roman_rows rows) ≤ 256
unfolding roman_rows
roman_length rows =
    let low = rows_length (row_glyph rows) 0 128 in
    let high = coded_length rows upper_codes in
    let many = upper_length in
    let split = length-append (rows_in (row_glyph rows) 0 128) (flat_map (roman_row rows) upper_codes) in
    omega arith

encoded_length : (table : List ℕ) (a : RangeArray) (e : Encoding) → length (encoded_rows table a e (rows_of table 0 (ranges_of table a))) ≤ 256 + count_of 0 (ranges_of table a)
encoded_length table a Symbol = symbol_length table a (rows_of table 0 (ranges_of table a))
encoded_length table a Unicode = let few = ranges_length table 0 (ranges_of table a) in omega arith
encoded_length table a Roman = let few = roman_length (rows_of table 0 (ranges_of table a)) in omega arith

-- ---- characters

subtable_fits : (room : ℕ) (table : List ℕ) (e : Encoding) (at : ℕ) → FittingBut length 256 room (characters_of room table e at)
unfolding characters_of rows_of_array
subtable_fits room table e at =
    then_any _ (ranges_at table at) _ (λ a.
    then_if (λ r. length (encoded_rows table a e r.0) + r.1 ≤ room + 256) _ (rows_of_array room table a) _
    (then_if (λ left. count_of 0 (ranges_of table a) + left ≡ room) _ (room_after room (count_of 0 (ranges_of table a))) _ (room_taken room (count_of 0 (ranges_of table a))) (λ left h.
    let few = encoded_length table a e in omega arith)) (λ r h. h))

chosen_fit : (room : ℕ) (table : List ℕ) (c : Option (Encoding × ℕ)) → FittingBut length 256 room (characters_chosen room table c)
chosen_fit room table None = omega arith
chosen_fit room table (Some c) = subtable_fits room table c.0 c.1

pub characters_fit : (room : ℕ) (table : List ℕ) → FittingBut length 256 room (characters_at room table)
unfolding characters_at
characters_fit room table = then_any _ (chosen_subtable table) _ (λ c. chosen_fit room table c)

-- ---- variants

abbrev variation_list : ℕ → ℕ → ℕ → List VariationRow
variation_list s c g = record { character = c; selector = s; glyph = g } ∷ []

variation_length : (s c g : ℕ) → length (variation_row s c g) ≤ 1
unfolding variation_row
variation_length s c g =
    unless_short (g == 0) (if is_character c then (if is_character s then variation_list s c g else []) else []) 1
    (when_short (is_character c) (if is_character s then variation_list s c g else []) 1 (when_short (is_character s) (variation_list s c g) 1 (omega arith)))

variants_length : (glyph : ℕ → ℕ) (s c count : ℕ) → length (variants_in glyph s c count) ≤ count
unfolding variants_in
variants_length glyph s c zero = omega arith
variants_length glyph s c (suc count) =
    let one = variation_length s c (glyph c) in
    let rest = variants_length glyph s (c + 1) count in
    let split = length-append (variation_row s c (glyph c)) (variants_in glyph s (c + 1) count) in
    omega arith

usual_length : (table : List ℕ) (glyph : ℕ → ℕ) (s : ℕ) (ats : List ℕ) → length (flat_map (range_rows table glyph s) ats) ≤ ranges_size table ats
usual_length table glyph s [] = omega arith
usual_length table glyph s (at ∷ ats) =
    let one = variants_length glyph s (triple table at) (range_size table at) in
    let rest = usual_length table glyph s ats in
    let split = length-append (range_rows table glyph s at) (flat_map (range_rows table glyph s) ats) in
    omega arith

mappings_length : (table : List ℕ) (s : ℕ) (ats : List ℕ) → length (flat_map (mapping_row table s) ats) ≤ length ats
mappings_length table s [] = omega arith
mappings_length table s (at ∷ ats) =
    let one = variation_length s (triple table at) (word table (at + 3)) in
    let rest = mappings_length table s ats in
    let split = length-append (mapping_row table s at) (flat_map (mapping_row table s) ats) in
    omega arith

usual_fit : (table : List ℕ) (glyph : ℕ → ℕ) (s base offset room : ℕ) → Fitting length room (usual_at table glyph s base offset room)
unfolding usual_at
usual_fit table glyph s base offset room =
    if_either _ (offset == 0) (Ok ([], room)) _ (omega arith)
    (then_any _ (need table (base + offset) 4) _ (λ _. then_any _ (need table (base + offset + 4) (4 * long table (base + offset))) _ (λ _.
    let ats = records itself 4 (base + offset + 4) (long table (base + offset)) in
    then_if (λ left. ranges_size table ats + left ≡ room) _ (room_after room (ranges_size table ats)) _ (room_taken room (ranges_size table ats)) (λ left e.
    let few = usual_length table glyph s ats in omega arith))))

mappings_fit : (table : List ℕ) (s base offset room : ℕ) → Fitting length room (mappings_at table s base offset room)
unfolding mappings_at
mappings_fit table s base offset room =
    if_either _ (offset == 0) (Ok ([], room)) _ (omega arith)
    (then_any _ (need table (base + offset) 4) _ (λ _. then_any _ (need table (base + offset + 4) (5 * long table (base + offset))) _ (λ _.
    then_if (λ left. long table (base + offset) + left ≡ room) _ (room_after room (long table (base + offset))) _ (room_taken room (long table (base + offset))) (λ left e.
    let few = mappings_length table s (records itself 5 (base + offset + 4) (long table (base + offset))) in
    let as_many = records_length itself 5 (base + offset + 4) (long table (base + offset)) in
    omega arith))))

selector_fits : (table : List ℕ) (glyph : ℕ → ℕ) (base room at : ℕ) → Fitting length room (selector_at table glyph base room at)
unfolding selector_at
selector_fits table glyph base room at =
    then_if (λ r. length r.0 + r.1 ≤ room) _ (usual_at table glyph (triple table at) base (long table (at + 3)) room) _ (usual_fit table glyph (triple table at) base (long table (at + 3)) room) (λ u h.
    then_if (λ r. length r.0 + r.1 ≤ u.1) _ (mappings_at table (triple table at) base (long table (at + 7)) u.1) _ (mappings_fit table (triple table at) base (long table (at + 7)) u.1) (λ r k.
    let split = length-append u.0 r.0 in omega arith))

selectors_fit : (table : List ℕ) (glyph : ℕ → ℕ) (base room : ℕ) (ats : List ℕ) → Fitting length room (selectors_in table glyph base room ats)
selectors_fit table glyph base room [] = omega arith
selectors_fit table glyph base room (at ∷ ats) =
    then_if (λ r. length r.0 + r.1 ≤ room) _ (selector_at table glyph base room at) _ (selector_fits table glyph base room at) (λ a h.
    then_if (λ r. length r.0 + r.1 ≤ a.1) _ (selectors_in table glyph base a.1 ats) _ (selectors_fit table glyph base a.1 ats) (λ r k.
    let split = length-append a.0 r.0 in omega arith))

subtable_selectors_fit : (table : List ℕ) (glyph : ℕ → ℕ) (at room : ℕ) → Fitting length room (selectors_at table glyph at room)
unfolding selectors_at
subtable_selectors_fit table glyph at room =
    then_any _ (need table at 10) _ (λ _.
    if_either _ (word table at == 14) _ (Ok ([], room))
    (then_any _ (need table (at + 10) (11 * long table (at + 6))) _ (λ _.
    then_if (λ left. long table (at + 6) + left ≡ room) _ (room_after room (long table (at + 6))) _ (room_taken room (long table (at + 6))) (λ left e.
    weaker (λ r. length r.0 + r.1 ≤ left) _ (selectors_in table glyph at left (records itself 11 (at + 10) (long table (at + 6))))
    (selectors_fit table glyph at left (records itself 11 (at + 10) (long table (at + 6)))) (λ r k. omega arith))))
    (omega arith))

sorted_length : (rows : List VariationRow) → length (sorted_variations rows) ≤ length rows
unfolding sorted_variations
sorted_length rows =
    let one = first_rows_length pair_order (λ r. (r.character, r.selector)) None (key_order variation_key rows) in
    let other = key_order_length variation_key rows in
    omega arith

variations_of_fit : (table : List ℕ) (glyph : ℕ → ℕ) (room : ℕ) (at : Option ℕ) → Fitting length room (variations_of table glyph room at)
variations_of_fit table glyph room None = omega arith
variations_of_fit table glyph room (Some at) =
    then_if (λ r. length r.0 + r.1 ≤ room) _ (selectors_at table glyph at room) _ (subtable_selectors_fit table glyph at room) (λ r h.
    let few = sorted_length r.0 in omega arith)

pub variations_fit : (room : ℕ) (table : List ℕ) (usual : List CharacterRow) → Fitting length room (variations_at room table usual)
unfolding variations_at
variations_fit room table usual = then_any _ (record_count table) _ (λ count. variations_of_fit table (row_glyph usual) room (find_subtable table count 0 5))
