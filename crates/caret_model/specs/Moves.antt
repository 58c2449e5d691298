-- Carets at bytes and at positions, and the next ones.
use Rattle.std.specs.Prelude.{ℕ, zero, suc, ℤ, ◌≡◌, ◌≤◌, ◌<◌, ◌+◌, ◌==◌, ◌-ℤ◌, Bool, true, false, nat_lt, List, length, Option, Some, None, option_and_then, slice_get, All, Contains, position}
use Rattle.std.specs.List.{IsFirstBest}
use Rattle.std.specs.Int.RustNames.{unsigned_abs}
use Rattle.kuspveli.specs.buffer_parts.Slices.{IsIn}
use Rattle.kuspveli.specs.shape_slices.declared.slices.SourceSlice.{SourceSlice}
use Rattle.kuspveli.specs.shape_slices.Runs.{byte_range}
use Rattle.caret_model.specs.declared.carets.Caret.{Caret}
use Rattle.caret_model.specs.Lines.{Line}

-- the index, from left to right, of the caret at a byte
abbrev pub index_at : List Caret → ℕ → Option ℕ
index_at cs byte = position (λ c. c.byte == byte) cs

-- the caret at a byte, if one may stand there
abbrev pub caret_at : List Caret → ℕ → Option Caret
caret_at cs byte = option_and_then (slice_get cs) (index_at cs byte)

-- the caret to the right of the one at an index
abbrev pub right_of : List Caret → ℕ → Option Caret
right_of cs i = slice_get cs (i + 1)

-- the caret to the left of the one at an index
abbrev pub left_of : List Caret → ℕ → Option Caret
left_of cs zero = None
left_of cs (suc i) = slice_get cs i

-- the next caret in visual order: the one to the right of that at a byte
abbrev pub next_visual : List Caret → ℕ → Option Caret
next_visual cs byte = option_and_then (right_of cs) (index_at cs byte)

-- the previous caret in visual order: the one to the left of that at a byte
abbrev pub previous_visual : List Caret → ℕ → Option Caret
previous_visual cs byte = option_and_then (left_of cs) (index_at cs byte)

-- a byte is after another one, or where `back` before it
abbrev pub IsPast : Bool → ℕ → ℕ → Type 0
IsPast false byte other = byte < other
IsPast true byte other = other < byte

-- the first caret after a byte in the order of the text, or where `back` the last one before it: no other caret is between them; none where no caret is there
abbrev pub IsClosest : Bool → ℕ → List Caret → Option Caret → Type 0
IsClosest back byte cs None = All (λ d. ¬ IsPast back byte d.byte) cs
IsClosest back byte cs (Some c) = Contains cs c × IsPast back byte c.byte × All (λ d. IsPast back byte d.byte → ¬ IsPast back d.byte c.byte) cs

-- how far a caret is from a position
abbrev pub distance : ℤ → Caret → ℕ
distance position c = unsigned_abs (c.position -ℤ position)

-- whether a caret is nearer to a position than another one
abbrev pub is_nearer : ℤ → Caret → Caret → Bool
is_nearer position c d = nat_lt (distance position c) (distance position d)

-- the nearest caret to a position, of several the first from the left
pub record IsNearest (position : ℤ) (cs : List Caret) (c : Caret) : Type 0 where
  pub index : ℕ
  pub is : slice_get cs index ≡ Some c
  pub best : IsFirstBest (is_nearer position) cs (length cs) index

-- the slice that has a byte; none where the text ends before it
abbrev pub IsSliceAt : Line → ℕ → Option SourceSlice → Type 0
IsSliceAt l byte None = l.end ≤ byte
IsSliceAt l byte (Some s) = Contains l.slices s × IsIn (byte_range s) byte
