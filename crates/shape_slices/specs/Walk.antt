-- Slices that are made glyph by glyph.
use Rattle.std.specs.Prelude.{ℕ, ◌+◌, ◌-◌, ◌==◌, nat_lt, if◌then◌else◌, List, [], ◌∷◌, ◌++◌, Option, Some, None, length, take}
use Rattle.buffer_glyphs.specs.Parts.{last_of}
use Rattle.shape_slices.specs.declared.slices.SourceSlice.{SourceSlice}

-- a run of the glyph at an index, with its bytes
abbrev pub one_glyph : ℕ → ℕ → ℕ → SourceSlice
one_glyph end at start = record { first_glyph = at; end_glyph = at + 1; start = start; end = end }

-- the last slice with the glyph at an index, of cluster n, or that slice and a new one: the slice that begins before the other ends where that begins
abbrev pub last_with_glyph : ℕ → ℕ → ℕ → SourceSlice → List SourceSlice
last_with_glyph end at n s =
    if s.start == n then record s { end_glyph = at + 1 } ∷ []
    else if nat_lt s.start n then record s { end = n } ∷ one_glyph end at n ∷ []
    else s ∷ one_glyph s.start at n ∷ []

-- slices with the glyph at an index, by their last one
abbrev pub with_glyph_by : ℕ → ℕ → ℕ → List SourceSlice → Option SourceSlice → List SourceSlice
with_glyph_by end at n ss None = one_glyph end at n ∷ []
with_glyph_by end at n ss (Some s) = take (length ss - 1) ss ++ last_with_glyph end at n s

-- slices with the glyph at an index, of cluster n; a new last slice ends at the end of the text
abbrev pub with_glyph : ℕ → ℕ → ℕ → List SourceSlice → List SourceSlice
with_glyph end at n ss = with_glyph_by end at n ss (last_of ss)

-- slices with glyphs from an index on
abbrev pub with_glyphs : ℕ → ℕ → List ℕ → List SourceSlice → List SourceSlice
with_glyphs end at [] ss = ss
with_glyphs end at (n ∷ ns) ss = with_glyphs end (at + 1) ns (with_glyph end at n ss)
