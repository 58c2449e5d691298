-- The printed slices of a text.
use Rattle.std.specs.Prelude.{ℕ, ◌++◌, ◌∷◌, Bool, not, if◌then◌else◌, List, [], length, codes}
use Rattle.std.specs.Fmt.{decimal}
use Rattle.std.specs.List.{flat_map}
use Rattle.buffer_parts.specs.Slices.{slices}
use Rattle.shape_slices.specs.Deciding.{are_fitting, rise_from}
use Rattle.shape_slices.specs.Fitting.{character_starts}
use Rattle.shape_slices.specs.Runs.{along_glyphs}

-- the bytes of the slices of a text of `end` bytes, one slice for each run of glyphs of one cluster, in the order of the glyphs
abbrev pub byte_ranges : List ℕ → ℕ → List (ℕ × ℕ)
byte_ranges clusters end = along_glyphs (not (rise_from 0 clusters)) (slices clusters end)

-- the line of a slice: its first byte, a space, one past its last byte, and a line feed
abbrev pub slice_line : ℕ × ℕ → List ℕ
slice_line range = decimal range.0 ++ (codes " " ++ (decimal range.1 ++ 10 ∷ []))

-- the line that is printed where clusters don't fit a text
abbrev pub no_slices : List ℕ
no_slices = codes "no slices\n"

-- a line for each slice of a text, in the order of its glyphs, or `no slices` where their clusters don't fit the text
abbrev pub slice_lines : List ℕ → List ℕ → List ℕ
slice_lines clusters text = if are_fitting (character_starts text) clusters then flat_map slice_line (byte_ranges clusters (length text)) else no_slices

-- the lines of the slices of a text where they are requested, else nothing
abbrev pub requested_lines : Bool → List ℕ → List ℕ → List ℕ
requested_lines slices clusters text = if slices then slice_lines clusters text else []
