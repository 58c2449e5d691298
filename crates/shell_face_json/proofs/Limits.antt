-- Indices and classes that were read below a limit.
use Rattle.std.proofs.Common.{◌≡◌, ℕ, ◌+◌, Bool, true, List, [], ◌∷◌, length, Option, Some, None, Result, Ok, refl, ap, subst, ◌∙◌, arith}
use Rattle.std.specs.Prelude.{max, nat_lt, nat_le}
use Rattle.std.specs.List.{list_all}
use Rattle.std.specs.Option.{ok_or, option_map_or}
use Rattle.std.specs.Ordering.{nat_cmp}
use Rattle.std.specs.declared.cmp.Ordering.{Ordering}
use Rattle.std.proofs.lemmas.Bool.{and_parts}
use Rattle.std.proofs.lemmas.Bool.Decides.{nat_tests}
use Rattle.serde_json.specs.Data.{Data, Items, no_items, item}
use Rattle.serde_json.specs.Find.{as_array}
use Rattle.shell_json.specs.declared.fault.JsonFault.{JsonFault}
use Rattle.shell_json.specs.declared.fault.JsonFault.TheVariants.{WrongShape}
use Rattle.shell_json.specs.Cell.{u16_value}
use Rattle.shell_json.specs.Items.{list_of}
use Rattle.shell_json.specs.Rows.{ok_cons}
use Rattle.buffer_rows.specs.Keys.{is_above}
use Rattle.shell_face_json.specs.Lists.{item_count, items_of, number_below, value_list, rows_in_turn}
use Rattle.shell_face_json.specs.Row.{first_and_rest, no_more, only, row_of}
use Rattle.shell_face_json.specs.Sorted.{rows_by_key}
use Rattle.shell_face_json.specs.Lengths.{length_or}
use Rattle.shell_face_json.specs.Glyphs.{classes_in, glyph_row, glyph_rows}
use Rattle.shell_face_json.proofs.Inverted.{through, of_first, below_limit, turn_of_items, turn_of_keys, same_length, all_in_turn}
use Rattle.layout_common.specs.declared.glyph_row.GlyphRow.{GlyphRow}
use Rattle.layout_common.specs.declared.class_definition.ClassDefinition.{ClassDefinition}
use Rattle.layout_tables.specs.declared.mark.MarkRecord.{MarkRecord}
use Rattle.layout_tables.specs.Fits.{class_count, mark_class_count}
use Rattle.buffer_facts.proofs.Numbers.{test_through as within}

-- rows that rise by their keys are the rows in turn
pub turn_of_rising : {R K : Type 0} (order : K → K → Ordering) (key : R → K) (read : Data → Result R JsonFault) (ds : Items) (xs : List R) → rows_by_key order key read None ds ≡ Ok xs → rows_in_turn read ds ≡ Ok xs
unfolding rows_by_key
turn_of_rising order key read ds xs e = turn_of_keys read (is_above order) key None ds xs e

-- the one field of a row
pub of_only : {A : Type 0} (read : Data → Result A JsonFault) (ds : Items) (a : A) → only read ds ≡ Ok a → (d : Data) × (read d ≡ Ok a)
of_only read ds a e =
    let step = through (first_and_rest read no_more ds) _ a e in
    let row = of_first read no_more ds step.0 step.1 in
    let same : step.0.0 ≡ a = cc in
    (row.0, row.3 ∙ ap (λ x. Ok x) same)

-- the fields of a row of a glyph
pub of_glyph_row : {V : Type 0} (rest : Items → Result V JsonFault) (d : Data) (r : GlyphRow V) → glyph_row rest d ≡ Ok r → (es : Items) × (rest es ≡ Ok r.value)
of_glyph_row rest d r e =
    let step = through (row_of (first_and_rest u16_value rest) d) _ r e in
    let items = through (list_of d) (first_and_rest u16_value rest) step.0 step.1 in
    let row = of_first u16_value rest items.0 step.0 items.2 in
    let same : step.0.1 ≡ r.value = cc in
    (row.1, row.4 ∙ ap (λ x. Ok x) same)

-- ---- classes

class_below : (limit : ℕ) (d : Data) (r : GlyphRow ℕ) → glyph_row (only (number_below limit)) d ≡ Ok r → nat_lt r.value limit ≡ true
class_below limit d r e =
    let fields = of_glyph_row (only (number_below limit)) d r e in
    let one = of_only (number_below limit) fields.0 r.value fields.1 in
    below_limit limit one.0 r.value one.1

greater_within : (limit count n : ℕ) → nat_lt n limit ≡ true → nat_le count limit ≡ true → nat_le (max count (n + 1)) limit ≡ true
greater_within limit count n p q = grind (arith, nat_tests)

classes_within : (limit count : ℕ) (rows : List (GlyphRow ℕ)) → list_all (λ r. nat_lt r.value limit) rows ≡ true → nat_le count limit ≡ true → nat_le (class_count count rows) limit ≡ true
classes_within limit count [] all le = le
classes_within limit count (r ∷ rows) all le =
    let parts = and_parts (nat_lt r.value limit) (list_all (λ s. nat_lt s.value limit) rows) all in
    classes_within limit (max count (r.value + 1)) rows parts.1 (greater_within limit count r.value parts.0 le)

pub none_within : (limit : ℕ) → nat_le 0 limit ≡ true
none_within limit = grind (arith, nat_tests)

-- classes that were read below a limit are at most so many
pub class_count_within : (limit : ℕ) (ds : Items) (c : ClassDefinition) → classes_in limit ds ≡ Ok c → nat_le (class_count 0 c.rows) limit ≡ true
class_count_within limit ds c e =
    let step = through (glyph_rows (only (number_below limit)) ds) _ c e in
    let turn = turn_of_rising nat_cmp (λ r. r.glyph) (glyph_row (only (number_below limit))) ds step.0 step.1 in
    let all = all_in_turn (glyph_row (only (number_below limit))) (λ r. nat_lt r.value limit) (class_below limit) ds step.0 turn in
    let same : step.0 ≡ c.rows = cc in
    subst (λ rows. nat_le (class_count 0 rows) limit ≡ true) same (classes_within limit 0 step.0 all (none_within limit))

pub marks_within : (limit count : ℕ) (marks : List (GlyphRow MarkRecord)) → list_all (λ r. nat_lt r.value.class limit) marks ≡ true → nat_le count limit ≡ true → nat_le (mark_class_count count marks) limit ≡ true
marks_within limit count [] all le = le
marks_within limit count (r ∷ marks) all le =
    let parts = and_parts (nat_lt r.value.class limit) (list_all (λ s. nat_lt s.value.class limit) marks) all in
    marks_within limit (max count (r.value.class + 1)) marks parts.1 (greater_within limit count r.value.class parts.0 le)

-- ---- least lengths

-- a walk over rows that keeps the least of some lengths: each row's own is at least the result
module _ {A : Type 0} (read : Data → Result A JsonFault) (step : ℕ → Data → ℕ) (lower : (l : ℕ) (d : Data) → nat_le (step l d) l ≡ true) (least : ℕ → Items → ℕ)
    (last : (l : ℕ) → least l no_items ≡ l) (next : (l : ℕ) (d : Data) (ds : Items) → least l (item d ds) ≡ least (step l d) ds) where
  pub least_below : (l : ℕ) (ds : Items) → nat_le (least l ds) l ≡ true
  least_below l no_items = let same = last l in rw same (grind (arith, nat_tests))
  least_below l (item d ds) = rw (next l d ds) (within (least (step l d) ds) (step l d) l (least_below (step l d) ds) (lower l d))

  pub each_at_least : (count : ℕ) (P : A → Bool) → ((l : ℕ) (d : Data) (a : A) → read d ≡ Ok a → nat_le count (step l d) ≡ true → P a ≡ true)
      → (l : ℕ) (ds : Items) (xs : List A) → nat_le count (least l ds) ≡ true → rows_in_turn read ds ≡ Ok xs → list_all P xs ≡ true
  each_at_least count P each l no_items xs le e = let none : [] ≡ xs = cc in subst (λ ys. list_all P ys ≡ true) none refl
  each_at_least count P each l (item d ds) xs le e =
      let row = through (read d) _ xs e in
      let far = subst (λ n. nat_le count n ≡ true) (next l d ds) le in
      let near = within count (least (step l d) ds) (step l d) far (least_below (step l d) ds) in
      let one = each l d row.0 row.1 near in
      ok_cons row.0 (rows_in_turn read ds) xs (λ ys. list_all P ys ≡ true) row.2
      (λ ys was. let rest = each_at_least count P each (step l d) ds ys far was in rw (one, rest) refl)

-- the length of a list that was read
of_array : (o : Option Items) (ds : Items) → ok_or o WrongShape ≡ Ok ds → (l : ℕ) → option_map_or item_count o l ≡ item_count ds
of_array None ds e l = absurd (cc)
of_array (Some es) ds e l = let same : es ≡ ds = cc in ap item_count same

pub length_read : {A : Type 0} (read : Data → Result A JsonFault) (l : ℕ) (d : Data) (xs : List A) → value_list read d ≡ Ok xs → length_or l d ≡ length xs
length_read read l d xs e =
    let step = through (list_of d) (items_of read) xs e in
    let count = same_length read step.0 xs (turn_of_items read step.0 xs step.2) in
    of_array (as_array d) step.0 step.1 l ∙ count
