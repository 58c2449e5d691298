-- Contexts and chained contexts fit the room that they take.
use Rattle.std.proofs.Common.{◌≡◌, ℕ, ◌+◌, ◌≤◌, ◌==◌, nat_lt, Bool, if◌then◌else◌, List, [], ◌∷◌, length, Result, Ok, refl, arith}
use Rattle.font_bytes.specs.declared.fault.TableFault.{TableFault}
use Rattle.font_bytes.specs.Room.{room_after}
use Rattle.font_bytes.specs.Words.{need, word}
use Rattle.font_bytes.specs.Records.{records}
use Rattle.layout_common.specs.declared.glyph_row.GlyphRow.{GlyphRow}
use Rattle.layout_tables.specs.declared.context.ContextSubtable.{ContextSubtable}
use Rattle.layout_tables.specs.declared.context.ContextSubtable.TheVariants.{Glyphs, Coverage}
use Rattle.layout_tables.specs.declared.context.SequenceRule.{SequenceRule}
use Rattle.font_common.specs.ClassDefinition.{class_definition_at}
use Rattle.font_common.specs.Coverage.{coverage_at, glyphs_in_room}
use Rattle.font_contexts.specs.declared.arrays.ElementArray.{ElementArray}
use Rattle.font_contexts.specs.declared.arrays.RuleArrays.{RuleArrays}
use Rattle.font_contexts.specs.declared.classes.ClassMaps.{ClassMaps}
use Rattle.font_contexts.specs.Arrays.{element_count, arrays_at, counted_array}
use Rattle.font_contexts.specs.Rules.{lookup_record, lookup_records, rule_at, rule_of, empty_rule, rule_set_at, rules_at_offset, rules_of_sets}
use Rattle.font_contexts.specs.Contexts.{glyph_sets, class_sets, glyph_rules_at, class_rules_at, classes_of, plain_maps, chained_maps, class_maps_at, sets_offset, first_coverage, class_context_at, coverages_of, coverage_rule, coverage_context_at, context_at, read_subtable}
use Rattle.font_laws.specs.RowCounts.{total_row_count, optional_row_count}
use Rattle.font_laws.specs.Lists.{class_row_count}
use Rattle.font_laws.specs.Contexts.{rule_row_count, coverage_rule_row_count, context_row_count}
use Rattle.font_laws.proofs.Within.{Fitting, then_if, then_any, if_either, weaker, room_taken}
use Rattle.font_laws.proofs.Totals.{total_append, filter_length, records_length}
use Rattle.font_laws.proofs.Coverages.{glyphs_fit, coverage_fits, classes_fit}
use Rattle.font_laws.proofs.Turns.{FittingBut, value_fits, tables_at_fit, list_fits}

-- ---- rules

records_few : (lookup_count : ℕ) (table : List ℕ) (a : ElementArray) → length (lookup_records lookup_count table a) ≤ a.count
records_few lookup_count table a =
    let few = filter_length (λ r. nat_lt r.lookup_index lookup_count) (records (lookup_record table) 4 a.at a.count) in
    let as_many = records_length (lookup_record table) 4 a.at a.count in
    omega arith

rule_few : (lookup_count first : ℕ) (table : List ℕ) (p : RuleArrays) → rule_row_count (rule_of lookup_count first table p) ≤ element_count p
rule_few lookup_count first table p =
    let back = records_length (word table) 2 p.backtrack.at p.backtrack.count in
    let input = records_length (word table) 2 p.input.at p.input.count in
    let ahead = records_length (word table) 2 p.lookahead.at p.lookahead.count in
    let lookups = records_few lookup_count table p.records in
    omega arith

rule_fits : (chained : Bool) (lookup_count first room : ℕ) (table : List ℕ) (at : ℕ) → Fitting rule_row_count room (rule_at chained lookup_count first room table at)
rule_fits chained lookup_count first room table at =
    then_any _ (arrays_at chained 1 table at) _ (λ p.
    then_if (λ left. element_count p + left ≡ room) _ (room_after room (element_count p)) _ (room_taken room (element_count p)) (λ left e.
    let few = rule_few lookup_count first table p in omega arith))

rules_fit : (chained : Bool) (lookup_count : ℕ) (table : List ℕ) (base first room offset : ℕ)
    → Fitting (total_row_count rule_row_count) room (rules_at_offset chained lookup_count table base first room offset)
rules_fit chained lookup_count table base first room offset =
    value_fits (total_row_count rule_row_count) [] (rule_set_at chained lookup_count first) table refl (λ r at.
    list_fits rule_row_count (empty_rule first) (rule_at chained lookup_count first) table refl (λ s o. rule_fits chained lookup_count first s table o) at at r)
    room base offset

sets_fit : (read : ℕ → ℕ → ℕ → Result (List (SequenceRule ℕ) × ℕ) TableFault)
    → ((first room offset : ℕ) → Fitting (total_row_count rule_row_count) room (read first room offset))
    → (room : ℕ) (sets : List (GlyphRow ℕ)) → Fitting (total_row_count rule_row_count) room (rules_of_sets read room sets)
sets_fit read each room [] = omega arith
sets_fit read each room (s ∷ sets) =
    then_if (λ a. total_row_count rule_row_count a.0 + a.1 ≤ room) _ (read s.glyph room s.value) _ (each s.glyph room s.value) (λ a h.
    then_if (λ r. total_row_count rule_row_count r.0 + r.1 ≤ a.1) _ (rules_of_sets read a.1 sets) _ (sets_fit read each a.1 sets) (λ r k.
    let split = total_append rule_row_count a.0 r.0 in omega arith))

-- ---- format 1

glyph_rules_fit : (chained : Bool) (lookup_count room : ℕ) (table : List ℕ) (at : ℕ)
    → Fitting (total_row_count rule_row_count) room (glyph_rules_at chained lookup_count room table at)
glyph_rules_fit chained lookup_count room table at =
    then_any _ (need table at 4) _ (λ _. then_any _ (counted_array 2 0 table (at + 4)) _ (λ sets.
    then_if (λ left. sets.count + left ≡ room) _ (room_after room sets.count) _ (room_taken room sets.count) (λ left e.
    then_if (λ c. length c.0 + c.1 ≤ left) _ (glyphs_in_room left table at (word table (at + 2))) _ (glyphs_fit left table at (word table (at + 2))) (λ c h.
    weaker (λ r. total_row_count rule_row_count r.0 + r.1 ≤ c.1) _ (rules_of_sets (rules_at_offset chained lookup_count table at) c.1 (glyph_sets c.0 table sets))
    (sets_fit (rules_at_offset chained lookup_count table at) (λ f r o. rules_fit chained lookup_count table at f r o) c.1 (glyph_sets c.0 table sets)) (λ r k. omega arith)))))

-- ---- format 2

class_rules_fit : (chained : Bool) (lookup_count : ℕ) (table : List ℕ) (base at room : ℕ)
    → Fitting (total_row_count rule_row_count) room (class_rules_at chained lookup_count table base at room)
class_rules_fit chained lookup_count table base at room =
    then_any _ (counted_array 2 0 table at) _ (λ sets.
    then_if (λ left. sets.count + left ≡ room) _ (room_after room sets.count) _ (room_taken room sets.count) (λ left e.
    weaker (λ r. total_row_count rule_row_count r.0 + r.1 ≤ left) _ (rules_of_sets (rules_at_offset chained lookup_count table base) left (class_sets table sets))
    (sets_fit (rules_at_offset chained lookup_count table base) (λ f r o. rules_fit chained lookup_count table base f r o) left (class_sets table sets)) (λ r k. omega arith)))

abbrev maps_row_count : ClassMaps → ℕ
maps_row_count m = class_row_count m.backtrack + class_row_count m.input + class_row_count m.lookahead

map_fits : (room : ℕ) (table : List ℕ) (base at : ℕ) → Fitting class_row_count room (classes_of room table base at)
map_fits room table base at = value_fits class_row_count (record { rows = [] }) class_definition_at table refl (λ r o. classes_fit r table o) room base (word table at)

plain_maps_fit : (room : ℕ) (table : List ℕ) (at : ℕ) → Fitting maps_row_count room (plain_maps room table at)
plain_maps_fit room table at =
    then_if (λ r. class_row_count r.0 + r.1 ≤ room) _ (classes_of room table at (at + 4)) _ (map_fits room table at (at + 4)) (λ r h. omega arith)

chained_maps_fit : (room : ℕ) (table : List ℕ) (at : ℕ) → Fitting maps_row_count room (chained_maps room table at)
chained_maps_fit room table at =
    then_if (λ r. class_row_count r.0 + r.1 ≤ room) _ (classes_of room table at (at + 4)) _ (map_fits room table at (at + 4)) (λ b h.
    then_if (λ r. class_row_count r.0 + r.1 ≤ b.1) _ (classes_of b.1 table at (at + 6)) _ (map_fits b.1 table at (at + 6)) (λ i j.
    then_if (λ r. class_row_count r.0 + r.1 ≤ i.1) _ (classes_of i.1 table at (at + 8)) _ (map_fits i.1 table at (at + 8)) (λ l k. omega arith)))

maps_fit : (chained : Bool) (room : ℕ) (table : List ℕ) (at : ℕ) → Fitting maps_row_count room (class_maps_at chained room table at)
maps_fit chained room table at = if_either _ chained (chained_maps room table at) (plain_maps room table at) (chained_maps_fit room table at) (plain_maps_fit room table at)

first_fits : (room : ℕ) (table : List ℕ) (at : ℕ) → Fitting length room (first_coverage room table at)
first_fits room table at = value_fits length [] coverage_at table refl (λ r o. coverage_fits r table o) room at (word table (at + 2))

class_context_fits : (chained : Bool) (lookup_count room : ℕ) (table : List ℕ) (at : ℕ)
    → Fitting context_row_count room (class_context_at chained lookup_count room table at)
class_context_fits chained lookup_count room table at =
    then_any _ (need table at (if chained then 10 else 6)) _ (λ _.
    then_if (λ r. maps_row_count r.0 + r.1 ≤ room) _ (class_maps_at chained room table at) _ (maps_fit chained room table at) (λ maps h.
    then_if (λ r. length r.0 + r.1 ≤ maps.1) _ (first_coverage maps.1 table at) _ (first_fits maps.1 table at) (λ first j.
    then_if (λ r. total_row_count rule_row_count r.0 + r.1 ≤ first.1) _ (class_rules_at chained lookup_count table at (sets_offset chained at) first.1) _
    (class_rules_fit chained lookup_count table at (sets_offset chained at) first.1) (λ rules k. omega arith))))

-- ---- format 3

coverages_fit : (table : List ℕ) (base : ℕ) (a : ElementArray) (room : ℕ) → Fitting (total_row_count length) room (coverages_of table base a room)
coverages_fit table base a room = tables_at_fit length [] coverage_at table refl (λ r o. coverage_fits r table o) base a.at a.count room

coverage_rule_fits : (lookup_count : ℕ) (table : List ℕ) (base : ℕ) (p : RuleArrays) (room : ℕ)
    → Fitting coverage_rule_row_count room (coverage_rule lookup_count table base p room)
coverage_rule_fits lookup_count table base p room =
    then_if (λ left. p.records.count + left ≡ room) _ (room_after room p.records.count) _ (room_taken room p.records.count) (λ left e.
    then_if (λ r. total_row_count length r.0 + r.1 ≤ left) _ (coverages_of table base p.backtrack left) _ (coverages_fit table base p.backtrack left) (λ b h.
    then_if (λ r. total_row_count length r.0 + r.1 ≤ b.1) _ (coverages_of table base p.input b.1) _ (coverages_fit table base p.input b.1) (λ i j.
    then_if (λ r. total_row_count length r.0 + r.1 ≤ i.1) _ (coverages_of table base p.lookahead i.1) _ (coverages_fit table base p.lookahead i.1) (λ l k.
    let few = records_few lookup_count table p.records in omega arith))))

coverage_context_fits : (chained : Bool) (lookup_count room : ℕ) (table : List ℕ) (at : ℕ)
    → FittingBut (total_row_count coverage_rule_row_count) 1 room (coverage_context_at chained lookup_count room table at)
coverage_context_fits chained lookup_count room table at =
    then_any _ (arrays_at chained 0 table (at + 2)) _ (λ p.
    if_either _ (p.input.count == 0) (Ok ([], room)) _ (omega arith)
    (then_if (λ r. coverage_rule_row_count r.0 + r.1 ≤ room) _ (coverage_rule lookup_count table at p room) _ (coverage_rule_fits lookup_count table at p room) (λ r h. omega arith)))

-- ---- all

subtable_fits : {A : Type 0} (count : A → ℕ) (form : A → ContextSubtable) → ((a : A) → context_row_count (form a) ≡ count a)
    → (room : ℕ) (x : Result (A × ℕ) TableFault) → FittingBut count 1 room x → FittingBut (optional_row_count context_row_count) 1 room (read_subtable form x)
subtable_fits count form same room x h = then_if (λ a. count a.0 + a.1 ≤ room + 1) _ x _ h (λ a k. let e = same a.0 in omega arith)

-- a subtable in the room, and the row of its one rule of coverages
pub context_fits : (chained : Bool) (lookup_count room : ℕ) (table : List ℕ) (at : ℕ)
    → FittingBut (optional_row_count context_row_count) 1 room (context_at chained lookup_count room table at)
context_fits chained lookup_count room table at =
    then_any _ (need table at 2) _ (λ _.
    if_either _ (word table at == 1) (read_subtable Glyphs (glyph_rules_at chained lookup_count room table at)) _
    (subtable_fits (total_row_count rule_row_count) Glyphs (λ a. refl) room (glyph_rules_at chained lookup_count room table at)
    (weaker (λ r. total_row_count rule_row_count r.0 + r.1 ≤ room) _ (glyph_rules_at chained lookup_count room table at) (glyph_rules_fit chained lookup_count room table at) (λ r h. omega arith)))
    (if_either _ (word table at == 2) (read_subtable (λ s. s) (class_context_at chained lookup_count room table at)) _
    (subtable_fits context_row_count (λ s. s) (λ a. refl) room (class_context_at chained lookup_count room table at)
    (weaker (λ r. context_row_count r.0 + r.1 ≤ room) _ (class_context_at chained lookup_count room table at) (class_context_fits chained lookup_count room table at) (λ r h. omega arith)))
    (if_either _ (word table at == 3) (read_subtable Coverage (coverage_context_at chained lookup_count room table at)) _
    (subtable_fits (total_row_count coverage_rule_row_count) Coverage (λ a. refl) room (coverage_context_at chained lookup_count room table at)
    (coverage_context_fits chained lookup_count room table at))
    (omega arith))))
