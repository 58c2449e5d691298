-- The rows of pair adjustment by glyphs, and their index by first glyphs.
use Rattle.std.specs.Prelude.{◌≡◌, ℕ, ◌+◌, ◌<◌, ◌==◌, Bool, List, [], Option, None, Some, find, option_map, slice_get}
use Rattle.std.specs.List.{filter}
use Rattle.std.specs.declared.cmp.Ordering.{Ordering}
use Rattle.std.specs.Ordering.{nat_cmp, ordering_then}
use Rattle.buffer_rows.specs.Keys.{is_rising}
use Rattle.buffer_rows.specs.Pages.{IsStart}
use Rattle.layout_tables.specs.declared.pair.PairRow.{PairRow}
use Rattle.layout_tables.specs.declared.pair.PairValues.{PairValues}

-- pairs are in the order of their first glyphs, then of their second
abbrev pub pair_order : ℕ × ℕ → ℕ × ℕ → Ordering
pair_order x y = ordering_then (nat_cmp x.0 y.0) (nat_cmp x.1 y.1)

-- whether the pairs of rows rise strictly
abbrev pub pairs_rise : List PairRow → Bool
pairs_rise rows = is_rising pair_order (λ r. (r.first, r.second)) None rows

-- the rows whose pairs begin with a glyph
abbrev pub rows_of_first : ℕ → List PairRow → List PairRow
rows_of_first first rows = filter (λ r. r.first == first) rows

-- the value records of a second glyph, among the rows of one first glyph
abbrev pub second_values : ℕ → List PairRow → Option PairValues
second_values second rows = option_map (λ r. r.values) (find (λ r. r.second == second) rows)

-- no pair begins with a glyph below the first one, and none with one above the last one
pub record AreBetween (rows : List PairRow) (first last : ℕ) : Type 0 where
  pub below : (g : ℕ) → g < first → rows_of_first g rows ≡ []
  pub above : (g : ℕ) → last < g → rows_of_first g rows ≡ []

-- the entries are those of the glyphs from a first one on: for each the index of the first row whose first glyph is not
-- below it
abbrev pub AreStarts : List PairRow → List ℕ → ℕ → Type 0
AreStarts rows starts first = (k start : ℕ) → slice_get starts k ≡ Some start → IsStart (λ r. r.first) rows (first + k) start

-- the first glyphs are within the first and the last one, and the entries are those of the glyphs from the first one on
pub record IsIndexed (rows : List PairRow) (starts : List ℕ) (first last : ℕ) : Type 0 where
  pub within : AreBetween rows first last
  pub found : AreStarts rows starts first
