-- Rows of a coverage's glyphs, row by row.
use Rattle.std.proofs.Common.{◌≡◌, ℕ, ◌+◌, ◌-◌, ◌*◌, ◌<◌, ◌≤◌, List, [], ◌∷◌, length, drop, get_or, refl, sym, ap, ◌∙◌, inl, inr, arith, add-one}
use Rattle.std.proofs.Math.Seq.{drop-cons}
use Rattle.std.proofs.Math.ListN.{drop_of_length-le}
use Rattle.std.proofs.lemmas.Bool.{cases_lt}
use Rattle.font_bytes.specs.Records.{records}
use Rattle.font_bytes.proofs.Recorded.{records_end}
use Rattle.font_common.specs.Rows.{covered_rows}

-- one row, and those of the glyphs and values that are left
pub covered_more : {R V : Type 0} (row : ℕ → V → R) (glyphs : List ℕ) (v : V) (values : List V) (index : ℕ) → index < length glyphs
    → covered_rows row (drop index glyphs) (v ∷ values) ≡ row (get_or glyphs index 0) v ∷ covered_rows row (drop (index + 1) glyphs) values
covered_more row glyphs v values index inside = rw (drop-cons glyphs index 0, add-one) refl

-- no value is left
covered_no_value : {R V : Type 0} (row : ℕ → V → R) (glyphs : List ℕ) → covered_rows row glyphs [] ≡ []
covered_no_value row [] = refl
covered_no_value row (g ∷ glyphs) = refl

-- no glyph or no value is left
pub covered_end : {R V : Type 0} (row : ℕ → V → R) (glyphs : List ℕ) (read : ℕ → V) (width at count index : ℕ) → (index < length glyphs → count ≤ index)
    → covered_rows row (drop index glyphs) (records read width (at + width * index) (count - index)) ≡ []
covered_end row glyphs read width at count index past =
    elim (cases_lt index (length glyphs)) [
      | inl inside ↦ let end = records_end read width at count index (past inside) in rw end (covered_no_value row (drop index glyphs))
      | inr beyond ↦ let none : drop index glyphs ≡ [] = drop_of_length-le glyphs beyond in rw none refl
    ]
