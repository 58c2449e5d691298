-- Values of glyphs, and numbers, one at a time.
use Rattle.std.proofs.Common.{◌≡◌, ◌≢◌, ℕ, zero, suc, ◌+◌, ◌-◌, ◌*◌, ◌<◌, ◌≤◌, List, [], ◌∷◌, refl, arith}
use Rattle.font_bytes.specs.Words.{word}
use Rattle.font_bytes.specs.Records.{records}
use Rattle.font_bytes.proofs.Recorded.{records_step}
use Rattle.layout_common.specs.declared.glyph_row.GlyphRow.{GlyphRow}
use Rattle.font_kern.specs.Classes.{listed_values}

-- the first value, and those after it
listed_step : (table : List ℕ) (at glyph count : ℕ) → count ≢ 0
    → listed_values table at glyph count ≡ record { glyph = glyph; value = word table at } ∷ listed_values table (at + 2) (glyph + 1) (count - 1)
unfolding listed_values
listed_step table at glyph zero some = absurd (some refl)
listed_step table at glyph (suc count) some = let e : suc count - 1 ≡ count = omega arith in rw e refl

-- the value with an index, and those after it
pub listed_more : (table : List ℕ) (at first count index : ℕ) → index < count
    → listed_values table (at + 2 * index) (first + index) (count - index)
    ≡ record { glyph = first + index; value = word table (at + 2 * index) } ∷ listed_values table (at + 2 * (index + 1)) (first + (index + 1)) (count - (index + 1))
listed_more table at first count index inside =
    let some : count - index ≢ 0 = omega arith in
    let next : at + 2 * index + 2 ≡ at + 2 * (index + 1) = omega arith in
    let glyph : first + index + 1 ≡ first + (index + 1) = omega arith in
    let left : count - index - 1 ≡ count - (index + 1) = omega arith in
    let e = listed_step table (at + 2 * index) (first + index) (count - index) some in
    rw (next, glyph, left) at e

-- no value is left
pub listed_end : (table : List ℕ) (at glyph count : ℕ) → count ≡ 0 → listed_values table at glyph count ≡ []
unfolding listed_values
listed_end table at glyph zero none = refl
listed_end table at glyph (suc count) none = absurd (omega arith)

-- a number, and those after it
pub number_more : (count n : ℕ) → n < count → records (λ g. g) 1 n (count - n) ≡ n ∷ records (λ g. g) 1 (n + 1) (count - (n + 1))
number_more count n inside =
    let some : count - n ≢ 0 = omega arith in
    let left : count - n - 1 ≡ count - (n + 1) = omega arith in
    let e = records_step (λ (g : ℕ). g) 1 n (count - n) some in
    rw left at e
