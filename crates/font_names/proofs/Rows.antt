-- Rows of names, step by step.
use Rattle.std.proofs.Common.{◌≡◌, ◌≢◌, ℕ, zero, suc, ◌+◌, ◌-◌, ◌<◌, ◌≤◌, ◌==◌, inl, inr, true, length, Option, Some, None, List, [], ◌∷◌, ◌++◌, refl, sym, ap, ◌∙◌, append_assoc, arith}
use Rattle.std.specs.Ordering.{nat_cmp}
use Rattle.std.proofs.lemmas.Bool.{cases_Bool}
use Rattle.std.proofs.lemmas.Bool.Decides.{nat_tests}
use Rattle.std.proofs.lemmas.List.{append-nil}
use Rattle.buffer_rows.specs.Keys.{is_above, is_rising}
use Rattle.layout_face.specs.Names.{GlyphName}
use Rattle.font_names.specs.Names.{name_row, name_rows}

rows_step : (name : ℕ → List ℕ) (g count : ℕ) → count ≢ 0 → name_rows name g count ≡ name_row g (name g) ++ name_rows name (g + 1) (count - 1)
rows_step name g zero some = absurd (some refl)
rows_step name g (suc count) some = let e : suc count - 1 ≡ count = omega arith in rw e refl

rows_more : (name : ℕ → List ℕ) (count g : ℕ) → g < count
    → name_rows name g (count - g) ≡ name_row g (name g) ++ name_rows name (g + 1) (count - (g + 1))
rows_more name count g inside =
    let some : count - g ≢ 0 = omega arith in
    let left : count - g - 1 ≡ count - (g + 1) = omega arith in
    let e : name_rows name g (count - g) ≡ name_row g (name g) ++ name_rows name (g + 1) (count - g - 1) = rows_step name g (count - g) some in
    rw left at e

-- the row of one more glyph is done
pub name_pushed : (name : ℕ → List ℕ) (done all : List GlyphName) (count g : ℕ) → g < count → done ++ name_rows name g (count - g) ≡ all
    → (done ++ name_row g (name g)) ++ name_rows name (g + 1) (count - (g + 1)) ≡ all
name_pushed name done all count g inside h = append_assoc done _ _ ∙ (ap (λ rs. done ++ rs) (sym (rows_more name count g inside)) ∙ h)

-- no glyph is left
pub name_end : (name : ℕ → List ℕ) (done all : List GlyphName) (g count : ℕ) → count ≤ g → done ++ name_rows name g (count - g) ≡ all → done ≡ all
name_end name done all g count past h =
    let e : count - g ≡ 0 = omega arith in
    sym (append-nil done) ∙ rw e at h

-- ---- order

abbrev above : Option ℕ → ℕ → Type 0
above before g = is_above nat_cmp before g ≡ true

above_more : (before : Option ℕ) (g h : ℕ) → g ≤ h → above before g → above before h
above_more None g h more up = refl
above_more (Some b) g h more up = grind (arith, nat_tests)

above_next : (g : ℕ) → above (Some g) (g + 1)
above_next g = grind (arith, nat_tests)

abbrev rises_after : Option ℕ → List GlyphName → Type 0
rises_after before rows = is_rising nat_cmp (λ r. r.glyph) before rows ≡ true

row_rises : (before : Option ℕ) (g : ℕ) (name : List ℕ) (rest : List GlyphName) → above before g → rises_after before rest → rises_after (Some g) rest → rises_after before (name_row g name ++ rest)
row_rises before g name rest up skipped taken =
    elim (cases_Bool (length name == 0)) [
      | inl none ↦ rw none skipped
      | inr some ↦ rw (some, up, taken) refl
    ]

rows_rise : (name : ℕ → List ℕ) (g count : ℕ) (before : Option ℕ) → above before g → rises_after before (name_rows name g count)
rows_rise name g zero before up = refl
rows_rise name g (suc count) before up =
    row_rises before g (name g) (name_rows name (g + 1) count) up
    (rows_rise name (g + 1) count before (above_more before g (g + 1) (omega arith) up))
    (rows_rise name (g + 1) count (Some g) (above_next g))

-- their glyphs rise
pub name_rows_rise : (name : ℕ → List ℕ) (count : ℕ) → is_rising nat_cmp (λ r. r.glyph) None (name_rows name 0 count) ≡ true
name_rows_rise name count = rows_rise name 0 count None refl
