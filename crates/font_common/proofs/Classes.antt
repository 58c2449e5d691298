-- The rows of class definition tables, step by step.
use Rattle.std.proofs.Common.{◌≡◌, ◌≢◌, ℕ, zero, suc, ◌+◌, ◌-◌, ◌<◌, List, [], ◌∷◌, ◌++◌, refl, sym, ap, ◌∙◌, arith, true}
use Rattle.layout_common.specs.declared.glyph_row.GlyphRow.{GlyphRow}
use Rattle.font_common.specs.declared.class_definition.ClassRangeRecord.{ClassRangeRecord}
use Rattle.font_common.specs.Coverage.{least_after}
use Rattle.font_common.specs.ClassDefinition.{class_row, listed_rows, class_run, is_next_range, are_class_ranges}
use Rattle.buffer_facts.proofs.Lists.{one_done}

run_step : (class first count : ℕ) → count ≢ 0 → class_run class first count ≡ record { glyph = first; value = class } ∷ class_run class (first + 1) (count - 1)
run_step class first zero some = absurd (some refl)
run_step class first (suc count) some = let e : suc count - 1 ≡ count = omega arith in rw e refl

-- the row of the glyph at an offset, and those after it
run_more : (class first count offset : ℕ) → offset < count
    → class_run class (first + offset) (count - offset) ≡ record { glyph = first + offset; value = class } ∷ class_run class (first + (offset + 1)) (count - (offset + 1))
run_more class first count offset inside =
    let some : count - offset ≢ 0 = omega arith in
    let next : first + offset + 1 ≡ first + (offset + 1) = omega arith in
    let left : count - offset - 1 ≡ count - (offset + 1) = omega arith in
    let e : class_run class (first + offset) (count - offset) ≡ record { glyph = first + offset; value = class } ∷ class_run class (first + offset + 1) (count - offset - 1) = run_step class (first + offset) (count - offset) some in
    rw (next, left) at e

-- one more row of a run is done
pub run_pushed : (done all : List (GlyphRow ℕ)) (class first count offset : ℕ) → offset < count → done ++ class_run class (first + offset) (count - offset) ≡ all
    → (done ++ record { glyph = first + offset; value = class } ∷ []) ++ class_run class (first + (offset + 1)) (count - (offset + 1)) ≡ all
run_pushed done all class first count offset inside h =
    one_done done (class_run class (first + (offset + 1)) (count - (offset + 1))) all (record { glyph = first + offset; value = class }) (ap (λ gs. done ++ gs) (sym (run_more class first count offset inside)) ∙ h)

-- the class of the glyph at an index, and those after it
pub listed_more : (first index class : ℕ) (classes : List ℕ) → listed_rows (first + index) (class ∷ classes) ≡ class_row (first + index) class ++ listed_rows (first + (index + 1)) classes
listed_more first index class classes = let next : first + index + 1 ≡ first + (index + 1) = omega arith in rw next refl

-- a range that may follow
pub class_ranges_step : (least : ℕ) (r : ClassRangeRecord) (rs : List ClassRangeRecord) → is_next_range least r ≡ true → are_class_ranges least (r ∷ rs) ≡ are_class_ranges (least_after least r.first r.last) rs
class_ranges_step least r rs next = rw next refl
