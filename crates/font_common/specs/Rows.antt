-- Rows of which each key has one.
use Rattle.std.specs.Prelude.{ℕ, if◌then◌else◌, List, [], ◌∷◌, map, Option, Some, None}
use Rattle.std.specs.List.{zip}
use Rattle.std.specs.declared.cmp.Ordering.{Ordering}
use Rattle.buffer_rows.specs.Keys.{is_above}
use Rattle.layout_common.specs.declared.glyph_row.GlyphRow.{GlyphRow}

-- the row, unless its key isn't above the key before
abbrev pub row_above : {R K : Type 0} → (K → K → Ordering) → (R → K) → Option K → R → List R
row_above order key before r = if is_above order before (key r) then r ∷ [] else []

-- the last key after a row: its own, unless that isn't above the key before
abbrev pub key_above : {K : Type 0} → (K → K → Ordering) → Option K → K → Option K
key_above order before k = if is_above order before k then Some k else before

-- of rows in turn those whose keys are above all before them: of rows of one key, which stand together, the first
abbrev pub first_rows : {R K : Type 0} → (K → K → Ordering) → (R → K) → Option K → List R → List R
first_rows order key before [] = []
first_rows order key before (r ∷ rows) =
    if is_above order before (key r) then r ∷ first_rows order key (Some (key r)) rows else first_rows order key before rows

-- glyphs with values, in the order of their coverage indices (OpenType, chapter 2, coverage table): as many as there are of
-- both
abbrev pub covered_rows : {R V : Type 0} → (ℕ → V → R) → List ℕ → List V → List R
covered_rows row_of glyphs values = map (λ p. row_of p.0 p.1) (zip glyphs values)

-- a glyph with a number
abbrev pub word_row : ℕ → ℕ → GlyphRow ℕ
word_row glyph value = record { glyph = glyph; value = value }
