-- The standard strings, the standard encoding and the predefined charsets (TN 5176, appendices A, B and C).
use Rattle.std.specs.Prelude.{ℕ, ◌+◌, ◌&&◌, nat_le, if◌then◌else◌, List, [], length, slice_index, slice_range}
use Rattle.font_strings.specs.declared.TheConstants.{STRINGS, STARTS, CODES, EXPERT, SUBSET}

-- the standard string with a number (appendix A)
unfoldable pub standard_string : ℕ → List ℕ
standard_string sid = if nat_le (slice_index STARTS sid) (slice_index STARTS (sid + 1)) && nat_le (slice_index STARTS (sid + 1)) (length STRINGS.now)
    then slice_range STRINGS.now (slice_index STARTS sid) (slice_index STARTS (sid + 1)) else []

-- the number of the string that names the character with a code of the standard encoding (appendix B)
unfoldable pub standard_code : ℕ → ℕ
standard_code code = slice_index CODES code

-- the string number of a glyph of the charset Expert (appendix C)
unfoldable pub expert_sid : ℕ → ℕ
expert_sid glyph = slice_index EXPERT glyph

-- the string number of a glyph of the charset ExpertSubset (appendix C)
unfoldable pub subset_sid : ℕ → ℕ
subset_sid glyph = slice_index SUBSET glyph
