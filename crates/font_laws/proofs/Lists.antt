-- Scripts, features and glyph definitions fit the room that they take.
use Rattle.std.proofs.Common.{◌≡◌, ℕ, ◌+◌, ◌*◌, ◌≤◌, ◌==◌, nat_le, nat_lt, if◌then◌else◌, List, [], ◌∷◌, length, None, Result, Ok, Err, refl, arith}
use Rattle.std.specs.Ordering.{nat_cmp}
use Rattle.buffer_rows.specs.KeyOrder.{key_order}
use Rattle.font_bytes.specs.declared.fault.TableFault.{TableFault}
use Rattle.font_bytes.specs.declared.fault.TableFault.TheVariants.{Kind}
use Rattle.font_bytes.specs.Records.{records}
use Rattle.font_bytes.specs.Room.{room_after}
use Rattle.font_bytes.specs.Words.{need, word, long}
use Rattle.layout_common.specs.declared.glyph_row.GlyphRow.{GlyphRow}
use Rattle.font_common.specs.ClassDefinition.{class_definition_at, class_rows_at}
use Rattle.font_common.specs.Coverage.{coverage_at}
use Rattle.font_common.specs.Offsets.{value_at_offset}
use Rattle.font_common.specs.Words.{words_at}
use Rattle.font_lists.specs.declared.header.LayoutHeader.{LayoutHeader}
use Rattle.font_lists.specs.declared.tagged.TagRecord.{TagRecord}
use Rattle.font_lists.specs.declared.variations.AlternateFeature.{AlternateFeature}
use Rattle.font_lists.specs.Tagged.{table_offset, tag_record, tag_records, by_tag, tagged_tables}
use Rattle.font_lists.specs.Scripts.{known_indices, lang_sys_at, no_lang_sys, lang_sys_of, default_lang_sys_at, lang_systems_at, script_at, script_of, script_list_at, scripts_of}
use Rattle.font_lists.specs.Features.{feature_at, feature_of, default_records, feature_list_at, features_of}
use Rattle.font_lists.specs.Variations.{condition_set_fits, conditions_fit, set_fits, first_fitting, substitution_at, variation_records, variations_at, variations_of}
use Rattle.font_lists.specs.Header.{lists_at}
use Rattle.font_lists.specs.Definition.{glyph_classes, attachment_classes_at, coverages_in, listed_sets, mark_sets_at, marks_at, definition_header, definition_at}
use Rattle.font_laws.specs.RowCounts.{total_row_count, optional_row_count}
use Rattle.font_laws.specs.Lists.{lang_sys_row_count, lang_sys_entry_row_count, script_row_count, feature_row_count, list_row_count, class_row_count, definition_row_count}
use Rattle.font_laws.proofs.Within.{Fitting, then_if, then_any, if_either, weaker, room_taken}
use Rattle.font_laws.proofs.Totals.{records_length, first_rows_length, key_order_length, filter_length}
use Rattle.font_laws.proofs.Coverages.{coverage_fits, classes_fit, class_rows_fit}
use Rattle.font_laws.proofs.Turns.{FittingBut, value_fits, tables_in_fit}

-- ---- tables by tags

tagged_fit : {A : Type 0} (count : A → ℕ) (read : ℕ → TagRecord → Result (A × ℕ) TableFault) → ((room : ℕ) (r : TagRecord) → Fitting count room (read room r))
    → (room : ℕ) (rs : List TagRecord) → FittingBut (total_row_count count) (length rs) room (tagged_tables read room rs)
tagged_fit count read each room [] = omega arith
tagged_fit count read each room (x ∷ rs) =
    then_if (λ a. count a.0 + a.1 ≤ room) _ (read room x) _ (each room x) (λ a h.
    then_if (λ r. total_row_count count r.0 + r.1 ≤ a.1 + length rs) _ (tagged_tables read a.1 rs) _ (tagged_fit count read each a.1 rs) (λ r k. omega arith))

by_tag_few : (table : List ℕ) (base at n : ℕ) → length (by_tag (tag_records table base at n)) ≤ n
by_tag_few table base at n =
    let one = first_rows_length nat_cmp (λ r. r.tag.0) None (key_order (λ r. r.tag.0) (tag_records table base at n)) in
    let other = key_order_length (λ r. r.tag.0) (tag_records table base at n) in
    let as_many = records_length (tag_record table base) 6 at n in
    omega arith

indices_few : (count : ℕ) (table : List ℕ) (at n : ℕ) → length (known_indices count (words_at table at n)) ≤ n
indices_few count table at n =
    let few = filter_length (λ i. nat_lt i count) (words_at table at n) in
    let as_many = records_length (word table) 2 at n in
    omega arith

-- ---- scripts

lang_sys_fits : (feature_count room : ℕ) (table : List ℕ) (at : ℕ) → Fitting lang_sys_row_count room (lang_sys_at feature_count room table at)
lang_sys_fits feature_count room table at =
    then_any _ (need table at 6) _ (λ _. then_any _ (need table (at + 6) (2 * word table (at + 4))) _ (λ _.
    then_if (λ left. word table (at + 4) + left ≡ room) _ (room_after room (word table (at + 4))) _ (room_taken room (word table (at + 4))) (λ left e.
    let few = indices_few feature_count table (at + 6) (word table (at + 4)) in omega arith)))

lang_sys_entry_fits : (feature_count room : ℕ) (table : List ℕ) (r : TagRecord) → Fitting lang_sys_entry_row_count room (lang_sys_of feature_count room table r)
lang_sys_entry_fits feature_count room table r =
    then_if (λ s. lang_sys_row_count s.0 + s.1 ≤ room) _ (if r.at == 0 then Ok (no_lang_sys, room) else lang_sys_at feature_count room table r.at) _
    (if_either _ (r.at == 0) (Ok (no_lang_sys, room)) (lang_sys_at feature_count room table r.at) (omega arith) (lang_sys_fits feature_count room table r.at)) (λ s h. omega arith)

default_fits : (feature_count room : ℕ) (table : List ℕ) (at : ℕ) → Fitting (optional_row_count lang_sys_row_count) room (default_lang_sys_at feature_count room table at)
default_fits feature_count room table at =
    if_either _ (at == 0) (Ok (None, room)) _ (omega arith)
    (then_if (λ s. lang_sys_row_count s.0 + s.1 ≤ room) _ (lang_sys_at feature_count room table at) _ (lang_sys_fits feature_count room table at) (λ s h. omega arith))

lang_systems_fit : (feature_count room : ℕ) (table : List ℕ) (base n : ℕ) → Fitting (total_row_count lang_sys_entry_row_count) room (lang_systems_at feature_count room table base n)
lang_systems_fit feature_count room table base n =
    then_any _ (need table (base + 4) (6 * n)) _ (λ _.
    then_if (λ left. n + left ≡ room) _ (room_after room n) _ (room_taken room n) (λ left e.
    let rs = by_tag (tag_records table base (base + 4) n) in
    weaker (λ r. total_row_count lang_sys_entry_row_count r.0 + r.1 ≤ left + length rs) _ (tagged_tables (λ r t. lang_sys_of feature_count r table t) left rs)
    (tagged_fit lang_sys_entry_row_count (λ r t. lang_sys_of feature_count r table t) (λ r t. lang_sys_entry_fits feature_count r table t) left rs) (λ r k.
    let few = by_tag_few table base (base + 4) n in omega arith)))

script_fits : (feature_count room : ℕ) (table : List ℕ) (r : TagRecord) → Fitting script_row_count room (script_at feature_count room table r)
script_fits feature_count room table r =
    then_any _ (need table r.at 4) _ (λ _.
    then_if (λ d. optional_row_count lang_sys_row_count d.0 + d.1 ≤ room) _ (default_lang_sys_at feature_count room table (table_offset r.at (word table r.at))) _
    (default_fits feature_count room table (table_offset r.at (word table r.at))) (λ d h.
    then_if (λ s. total_row_count lang_sys_entry_row_count s.0 + s.1 ≤ d.1) _ (lang_systems_at feature_count d.1 table r.at (word table (r.at + 2))) _
    (lang_systems_fit feature_count d.1 table r.at (word table (r.at + 2))) (λ s k. omega arith)))

script_of_fits : (feature_count room : ℕ) (table : List ℕ) (r : TagRecord) → Fitting script_row_count room (script_of feature_count room table r)
script_of_fits feature_count room table r =
    if_either _ (r.at == 0) _ (script_at feature_count room table r) (omega arith) (script_fits feature_count room table r)

script_list_fits : (feature_count room : ℕ) (table : List ℕ) (at : ℕ) → Fitting (total_row_count script_row_count) room (script_list_at feature_count room table at)
script_list_fits feature_count room table at =
    then_any _ (need table at 2) _ (λ _. then_any _ (need table (at + 2) (6 * word table at)) _ (λ _.
    then_if (λ left. word table at + left ≡ room) _ (room_after room (word table at)) _ (room_taken room (word table at)) (λ left e.
    let rs = by_tag (tag_records table at (at + 2) (word table at)) in
    weaker (λ r. total_row_count script_row_count r.0 + r.1 ≤ left + length rs) _ (tagged_tables (λ r t. script_of feature_count r table t) left rs)
    (tagged_fit script_row_count (λ r t. script_of feature_count r table t) (λ r t. script_of_fits feature_count r table t) left rs) (λ r k.
    let few = by_tag_few table at (at + 2) (word table at) in omega arith))))

scripts_fit : (feature_count room : ℕ) (table : List ℕ) (at : ℕ) → Fitting (total_row_count script_row_count) room (scripts_of feature_count room table at)
scripts_fit feature_count room table at =
    if_either _ (at == 0) (Ok ([], room)) (script_list_at feature_count room table at) (omega arith) (script_list_fits feature_count room table at)

-- ---- features

feature_fits : (lookup_count room : ℕ) (table : List ℕ) (r : TagRecord) → Fitting feature_row_count room (feature_at lookup_count room table r)
feature_fits lookup_count room table r =
    then_any _ (need table r.at 4) _ (λ _. then_any _ (need table (r.at + 4) (2 * word table (r.at + 2))) _ (λ _.
    then_if (λ left. word table (r.at + 2) + left ≡ room) _ (room_after room (word table (r.at + 2))) _ (room_taken room (word table (r.at + 2))) (λ left e.
    let few = indices_few lookup_count table (r.at + 4) (word table (r.at + 2)) in omega arith)))

feature_of_fits : (lookup_count room : ℕ) (table : List ℕ) (r : TagRecord) → Fitting feature_row_count room (feature_of lookup_count room table r)
feature_of_fits lookup_count room table r =
    if_either _ (r.at == 0) _ (feature_at lookup_count room table r) (omega arith) (feature_fits lookup_count room table r)

default_records_length : (alternates : List AlternateFeature) (index : ℕ) (rs : List TagRecord) → length (default_records alternates index rs) ≡ length rs
default_records_length alternates index [] = refl
default_records_length alternates index (r ∷ rs) = let rest = default_records_length alternates (index + 1) rs in omega arith

feature_list_fits : (lookup_count : ℕ) (alternates : List AlternateFeature) (room : ℕ) (table : List ℕ) (at : ℕ)
    → Fitting (total_row_count feature_row_count) room (feature_list_at lookup_count alternates room table at)
feature_list_fits lookup_count alternates room table at =
    then_any _ (need table at 2) _ (λ _. then_any _ (need table (at + 2) (6 * word table at)) _ (λ _.
    then_if (λ left. word table at + left ≡ room) _ (room_after room (word table at)) _ (room_taken room (word table at)) (λ left e.
    let rs = default_records alternates 0 (tag_records table at (at + 2) (word table at)) in
    weaker (λ r. total_row_count feature_row_count r.0 + r.1 ≤ left + length rs) _ (tagged_tables (λ r t. feature_of lookup_count r table t) left rs)
    (tagged_fit feature_row_count (λ r t. feature_of lookup_count r table t) (λ r t. feature_of_fits lookup_count r table t) left rs) (λ r k.
    let one = default_records_length alternates 0 (tag_records table at (at + 2) (word table at)) in
    let as_many = records_length (tag_record table at) 6 (at + 2) (word table at) in omega arith))))

features_fit : (lookup_count : ℕ) (alternates : List AlternateFeature) (room : ℕ) (table : List ℕ) (at : ℕ)
    → Fitting (total_row_count feature_row_count) room (features_of lookup_count alternates room table at)
features_fit lookup_count alternates room table at =
    if_either _ (at == 0) (Ok ([], room)) (feature_list_at lookup_count alternates room table at) (omega arith) (feature_list_fits lookup_count alternates room table at)

-- ---- feature variations, which leave no more room than there was

abbrev Less : {A : Type 0} → ℕ → Result (A × ℕ) TableFault → Type 0
Less room read = Fitting (λ _. 0) room read

condition_set_less : (room : ℕ) (table : List ℕ) (at : ℕ) → Less room (condition_set_fits room table at)
condition_set_less room table at =
    then_any _ (need table at 2) _ (λ _. then_any _ (need table (at + 2) (4 * word table at)) _ (λ _.
    then_if (λ left. word table at + left ≡ room) _ (room_after room (word table at)) _ (room_taken room (word table at)) (λ left e.
    then_any _ (conditions_fit table at (records (long table) 4 (at + 2) (word table at))) _ (λ fits. omega arith))))

set_less : (room : ℕ) (table : List ℕ) (at : ℕ) → Less room (set_fits room table at)
set_less room table at = if_either _ (at == 0) _ (condition_set_fits room table at) (omega arith) (condition_set_less room table at)

first_less : (table : List ℕ) (base room : ℕ) (ats : List ℕ) → Less room (first_fitting table base room ats)
first_less table base room [] = omega arith
first_less table base room (at ∷ ats) =
    then_if (λ f. 0 + f.1 ≤ room) _ (set_fits room table (table_offset base (long table at))) _ (set_less room table (table_offset base (long table at))) (λ f h.
    if_either _ f.0 _ (first_fitting table base f.1 ats) (omega arith)
    (weaker (λ r. 0 + r.1 ≤ f.1) _ (first_fitting table base f.1 ats) (first_less table base f.1 ats) (λ r k. omega arith)))

substitution_less : (room : ℕ) (table : List ℕ) (at : ℕ) → Less room (substitution_at room table at)
substitution_less room table at =
    then_any _ (need table at 6) _ (λ _. then_any _ (need table (at + 6) (6 * word table (at + 4))) _ (λ _.
    then_if (λ left. word table (at + 4) + left ≡ room) _ (room_after room (word table (at + 4))) _ (room_taken room (word table (at + 4))) (λ left e. omega arith)))

variations_less : (room : ℕ) (table : List ℕ) (at : ℕ) → Less room (variations_at room table at)
variations_less room table at =
    then_any _ (need table at 8) _ (λ _.
    if_either _ (word table at == 1) _ (Err (Kind at))
    (then_any _ (need table (at + 8) (8 * long table (at + 4))) _ (λ _.
    then_if (λ left. long table (at + 4) + left ≡ room) _ (room_after room (long table (at + 4))) _ (room_taken room (long table (at + 4))) (λ left e.
    then_if (λ f. 0 + f.1 ≤ left) _ (first_fitting table at left (variation_records table at)) _ (first_less table at left (variation_records table at)) (λ p h.
    if_either _ (p.0 == 0) (Ok ([], p.1)) (substitution_at p.1 table p.0) (omega arith)
    (weaker (λ r. 0 + r.1 ≤ p.1) _ (substitution_at p.1 table p.0) (substitution_less p.1 table p.0) (λ r k. omega arith))))))
    tt)

-- ---- scripts and features

pub lists_fit : (room : ℕ) (table : List ℕ) (h : LayoutHeader) → Fitting list_row_count room (lists_at room table h)
lists_fit room table h =
    then_if (λ r. 0 + r.1 ≤ room) _ (variations_of room table h.variations) _
    (if_either _ (h.variations == 0) (Ok ([], room)) (variations_at room table h.variations) (omega arith) (variations_less room table h.variations)) (λ a i.
    then_if (λ r. total_row_count feature_row_count r.0 + r.1 ≤ a.1) _ (features_of h.lookup_count a.0 a.1 table h.features) _ (features_fit h.lookup_count a.0 a.1 table h.features) (λ f j.
    then_if (λ r. total_row_count script_row_count r.0 + r.1 ≤ f.1) _ (scripts_of h.feature_count f.1 table h.scripts) _ (scripts_fit h.feature_count f.1 table h.scripts) (λ s k.
    omega arith)))

-- ---- glyph definitions

glyph_classes_fit : (room : ℕ) (table : List ℕ) (offset : ℕ) → Fitting (optional_row_count class_row_count) room (glyph_classes room table offset)
glyph_classes_fit room table offset =
    if_either _ (offset == 0) (Ok (None, room)) _ (omega arith)
    (then_if (λ r. class_row_count r.0 + r.1 ≤ room) _ (class_definition_at room table offset) _ (classes_fit room table offset) (λ c h. omega arith))

attachment_fits : (room : ℕ) (table : List ℕ) (at : ℕ) → Fitting class_row_count room (attachment_classes_at room table at)
attachment_fits room table at =
    then_if (λ r. length r.0 + r.1 ≤ room) _ (class_rows_at room table at) _ (class_rows_fit room table at) (λ r h.
    let few = filter_length (λ (g : GlyphRow ℕ). nat_le g.value 255) r.0 in omega arith)

listed_sets_fit : (room : ℕ) (table : List ℕ) (at : ℕ) → Fitting (total_row_count length) room (listed_sets room table at)
listed_sets_fit room table at =
    then_any _ (need table at 4) _ (λ _. then_any _ (need table (at + 4) (4 * word table (at + 2))) _ (λ _.
    then_if (λ left. word table (at + 2) + left ≡ room) _ (room_after room (word table (at + 2))) _ (room_taken room (word table (at + 2))) (λ left e.
    let os = records (long table) 4 (at + 4) (word table (at + 2)) in
    weaker (λ r. total_row_count length r.0 + r.1 ≤ left + length os) _ (coverages_in left table at os)
    (tables_in_fit length (λ r o. value_at_offset [] coverage_at r table at o) (λ r o. value_fits length [] coverage_at table refl (λ s p. coverage_fits s table p) r at o) left os) (λ r k.
    let as_many = records_length (long table) 4 (at + 4) (word table (at + 2)) in omega arith))))

mark_sets_fit : (room : ℕ) (table : List ℕ) (at : ℕ) → Fitting (total_row_count length) room (mark_sets_at room table at)
mark_sets_fit room table at =
    then_any _ (need table at 2) _ (λ _. if_either _ (word table at == 1) (listed_sets room table at) (Ok ([], room)) (listed_sets_fit room table at) (omega arith))

pub definition_fits : (room : ℕ) (table : List ℕ) → Fitting definition_row_count room (definition_at room table)
definition_fits room table =
    then_any _ (definition_header table) _ (λ sets_at.
    then_if (λ r. optional_row_count class_row_count r.0 + r.1 ≤ room) _ (glyph_classes room table (word table 4)) _ (glyph_classes_fit room table (word table 4)) (λ classes h.
    then_if (λ r. (class_row_count r.0.0 + total_row_count length r.0.1) + r.1 ≤ classes.1) _ (marks_at classes.1 table sets_at) _
    (then_if (λ r. class_row_count r.0 + r.1 ≤ classes.1) _ (value_at_offset (record { rows = [] }) attachment_classes_at classes.1 table 0 (word table 10)) _
    (value_fits class_row_count (record { rows = [] }) attachment_classes_at table refl (λ r o. attachment_fits r table o) classes.1 0 (word table 10)) (λ attach j.
    then_if (λ r. total_row_count length r.0 + r.1 ≤ attach.1) _ (value_at_offset [] mark_sets_at attach.1 table 0 sets_at) _
    (value_fits (total_row_count length) [] mark_sets_at table refl (λ r o. mark_sets_fit r table o) attach.1 0 sets_at) (λ sets k. omega arith))) (λ marks j. omega arith)))
