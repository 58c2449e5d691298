-- The rows of numbers, step by step.
use Rattle.std.proofs.Common.{◌≡◌, ◌≢◌, ℕ, zero, suc, ◌+◌, ◌-◌, ◌<◌, ◌≤◌, max, List, [], ◌∷◌, ◌++◌, refl, sym, ap, ◌∙◌, append_assoc, arith}
use Rattle.layout_face.specs.declared.parts.CharacterRow.{CharacterRow}
use Rattle.font_cmap.specs.declared.ranges.CharacterRange.{CharacterRange}
use Rattle.font_cmap.specs.Ranges.{glyph_in}
use Rattle.font_cmap.specs.Rows.{character_row, rows_in, range_count, rows_of}

rows_step : (glyph : ℕ → ℕ) (c count : ℕ) → count ≢ 0 → rows_in glyph c count ≡ character_row c (glyph c) ++ rows_in glyph (c + 1) (count - 1)
unfolding rows_in
rows_step glyph c zero some = absurd (some refl)
rows_step glyph c (suc count) some = let e : suc count - 1 ≡ count = omega arith in rw e refl

rows_more : (glyph : ℕ → ℕ) (c count offset : ℕ) → offset < count
    → rows_in glyph (c + offset) (count - offset) ≡ character_row (c + offset) (glyph (c + offset)) ++ rows_in glyph (c + (offset + 1)) (count - (offset + 1))
rows_more glyph c count offset inside =
    let some : count - offset ≢ 0 = omega arith in
    let next : c + offset + 1 ≡ c + (offset + 1) = omega arith in
    let left : count - offset - 1 ≡ count - (offset + 1) = omega arith in
    let e : rows_in glyph (c + offset) (count - offset) ≡ character_row (c + offset) (glyph (c + offset)) ++ rows_in glyph (c + offset + 1) (count - offset - 1) = rows_step glyph (c + offset) (count - offset) some in
    rw (next, left) at e

-- the row of one more number is done
pub row_pushed : (glyph : ℕ → ℕ) (done all : List CharacterRow) (c count offset : ℕ) → offset < count → done ++ rows_in glyph (c + offset) (count - offset) ≡ all
    → (done ++ character_row (c + offset) (glyph (c + offset))) ++ rows_in glyph (c + (offset + 1)) (count - (offset + 1)) ≡ all
row_pushed glyph done all c count offset inside h = append_assoc done _ _ ∙ (ap (λ rs. done ++ rs) (sym (rows_more glyph c count offset inside)) ∙ h)

-- no number is left
pub rows_end : (glyph : ℕ → ℕ) (c count offset : ℕ) → count ≤ offset → rows_in glyph c (count - offset) ≡ []
unfolding rows_in
rows_end glyph c count offset past = let e : count - offset ≡ 0 = omega arith in rw e refl

-- the row of one more number is done, of those from 0 on
pub low_pushed : (glyph : ℕ → ℕ) (done all : List CharacterRow) (count offset : ℕ) → offset < count → done ++ rows_in glyph offset (count - offset) ≡ all
    → (done ++ character_row offset (glyph offset)) ++ rows_in glyph (offset + 1) (count - (offset + 1)) ≡ all
low_pushed glyph done all count offset inside h =
    let e : 0 + offset ≡ offset = omega arith in
    let next : 0 + (offset + 1) ≡ offset + 1 = omega arith in
    rw (e, next) at (row_pushed glyph done all 0 count offset inside (rw e h))

-- the rows of one more range are done
pub range_pushed : (table : List ℕ) (done all : List CharacterRow) (least : ℕ) (r : CharacterRange) (rs rest : List CharacterRange) → rest ≡ r ∷ rs → done ++ rows_of table least rest ≡ all
    → (done ++ rows_in (glyph_in table r) (max least r.first) (range_count least r)) ++ rows_of table (max least r.end) rs ≡ all
range_pushed table done all least r rs rest e h = append_assoc done _ _ ∙ (ap (λ xs. done ++ rows_of table least xs) (sym e) ∙ h)
