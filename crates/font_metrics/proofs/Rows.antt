-- Rows of glyphs, step by step.
use Rattle.std.proofs.Common.{◌≡◌, ◌≢◌, ℕ, zero, suc, ◌+◌, ◌-◌, ◌<◌, ◌≤◌, inl, inr, true, Option, Some, None, List, [], ◌∷◌, ◌++◌, refl, sym, ap, ◌∙◌, append_assoc, arith}
use Rattle.std.specs.Ordering.{nat_cmp}
use Rattle.std.proofs.lemmas.Bool.Decides.{nat_tests}
use Rattle.std.proofs.lemmas.List.{append-nil}
use Rattle.buffer_rows.specs.Keys.{is_above, is_rising}
use Rattle.layout_common.specs.declared.glyph_row.GlyphRow.{GlyphRow}
use Rattle.font_metrics.specs.Values.{value_row, value_rows}

rows_step : {V : Type 0} (value : ℕ → Option V) (g count : ℕ) → count ≢ 0 → value_rows value g count ≡ value_row g (value g) ++ value_rows value (g + 1) (count - 1)
rows_step value g zero some = absurd (some refl)
rows_step value g (suc count) some = let e : suc count - 1 ≡ count = omega arith in rw e refl

rows_more : {V : Type 0} (value : ℕ → Option V) (count g : ℕ) → g < count
    → value_rows value g (count - g) ≡ value_row g (value g) ++ value_rows value (g + 1) (count - (g + 1))
rows_more value count g inside =
    let some : count - g ≢ 0 = omega arith in
    let left : count - g - 1 ≡ count - (g + 1) = omega arith in
    let e : value_rows value g (count - g) ≡ value_row g (value g) ++ value_rows value (g + 1) (count - g - 1) = rows_step value g (count - g) some in
    rw left at e

-- the row of one more glyph is done
pub value_pushed : {V : Type 0} (value : ℕ → Option V) (done all : List (GlyphRow V)) (count g : ℕ) → g < count → done ++ value_rows value g (count - g) ≡ all
    → (done ++ value_row g (value g)) ++ value_rows value (g + 1) (count - (g + 1)) ≡ all
value_pushed value done all count g inside h = append_assoc done _ _ ∙ (ap (λ rs. done ++ rs) (sym (rows_more value count g inside)) ∙ h)

-- no glyph is left
pub value_end : {V : Type 0} (value : ℕ → Option V) (done all : List (GlyphRow V)) (g count : ℕ) → count ≤ g → done ++ value_rows value g (count - g) ≡ all → done ≡ all
value_end value done all g count past h =
    let e : count - g ≡ 0 = omega arith in
    sym (append-nil done) ∙ rw e at h

-- ---- order

abbrev above : Option ℕ → ℕ → Type 0
above before g = is_above nat_cmp before g ≡ true

above_more : (before : Option ℕ) (g h : ℕ) → g ≤ h → above before g → above before h
above_more None g h more up = refl
above_more (Some b) g h more up = grind (arith, nat_tests)

above_next : (g : ℕ) → above (Some g) (g + 1)
above_next g = grind (arith, nat_tests)

abbrev rises_after : {V : Type 0} → Option ℕ → List (GlyphRow V) → Type 0
rises_after before rows = is_rising nat_cmp (λ r. r.glyph) before rows ≡ true

row_rises : {V : Type 0} (before : Option ℕ) (g : ℕ) (v : Option V) (rest : List (GlyphRow V)) → above before g → rises_after before rest → rises_after (Some g) rest → rises_after before (value_row g v ++ rest)
row_rises before g None rest up skipped taken = skipped
row_rises before g (Some v) rest up skipped taken = rw (up, taken) refl

rows_rise : {V : Type 0} (value : ℕ → Option V) (g count : ℕ) (before : Option ℕ) → above before g → rises_after before (value_rows value g count)
rows_rise value g zero before up = refl
rows_rise value g (suc count) before up =
    row_rises before g (value g) (value_rows value (g + 1) count) up
    (rows_rise value (g + 1) count before (above_more before g (g + 1) (omega arith) up))
    (rows_rise value (g + 1) count (Some g) (above_next g))

-- their glyphs rise
pub value_rows_rise : {V : Type 0} (value : ℕ → Option V) (count : ℕ) → is_rising nat_cmp (λ r. r.glyph) None (value_rows value 0 count) ≡ true
value_rows_rise value count = rows_rise value 0 count None refl
