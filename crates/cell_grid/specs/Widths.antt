-- How many cells of a terminal the slices of a text take (UAX 11, as the crate unicode_width counts them).
use Rattle.std.specs.Prelude.{ℕ, ◌==◌, ◌||◌, Bool, false, nat_lt, List, chars, filter, map, slice_range, sum_by}
use Rattle.unicode_width.specs.Width.{str_width}

-- how many cells a slice of a text takes
abbrev pub slice_width : List ℕ → ℕ × ℕ → ℕ
slice_width text s = str_width false (chars (slice_range text s.0 s.1))

-- how many cells are before a byte of a text: the sum of the widths of the slices that begin before it
abbrev pub width_before : List ℕ → List (ℕ × ℕ) → ℕ → ℕ
width_before text ss byte = sum_by (slice_width text) (filter (λ s. nat_lt s.0 byte) ss)

-- whether a run begins with a slice: it is the first one of the text, or takes a cell
abbrev pub begins_run : List ℕ → ℕ × ℕ → Bool
begins_run text s = s.0 == 0 || nat_lt 0 (slice_width text s)

-- the bytes at which the runs of a text begin
abbrev pub run_starts : List ℕ → List (ℕ × ℕ) → List ℕ
run_starts text ss = map (λ s. s.0) (filter (begins_run text) ss)
