-- Pascal strings: a byte that counts the bytes of the string after it.
use Rattle.std.specs.Prelude.{ℕ, zero, suc, ◌+◌, ◌&&◌, Bool, if◌then◌else◌, List, [], ◌∷◌, slice_get, slice_range, Option, Some, None}
use Rattle.std.specs.List.{flat_map}
use Rattle.std.specs.Prelude.{encode_utf8}
use Rattle.font_bytes.specs.Words.{fits, byte}
use Rattle.font_names.specs.declared.macintosh.TheConstants.{NAMES}

-- whether a string that begins at an offset ends within the bytes
unfoldable pub has_string : List ℕ → ℕ → Bool
has_string bytes at = fits bytes at 1 && fits bytes (at + 1) (byte bytes at)

-- the string that begins at an offset, empty where it doesn't end within the bytes
abbrev pub string_at : List ℕ → ℕ → List ℕ
string_at bytes at = if has_string bytes at then slice_range bytes (at + 1) (at + 1 + byte bytes at) else []

-- where n strings begin that follow one another, up to the first that doesn't end within the bytes
unfoldable pub string_starts : List ℕ → ℕ → ℕ → List ℕ
string_starts bytes at zero = []
string_starts bytes at (suc count) = if has_string bytes at then at ∷ string_starts bytes (at + 1 + byte bytes at) count else []

-- the string that begins at an offset, if there is one
abbrev pub string_from : List ℕ → Option ℕ → List ℕ
string_from bytes None = []
string_from bytes (Some at) = string_at bytes at

-- the string with an index by the offsets of strings, empty past the last one
abbrev pub string_in : List ℕ → List ℕ → ℕ → List ℕ
string_in bytes starts index = string_from bytes (slice_get starts index)

-- the text of characters of ISO 8859-1, a byte each
abbrev pub latin_text : List ℕ → List ℕ
latin_text bytes = flat_map encode_utf8 bytes

-- the standard glyph names of the Macintosh, in the order of their indices
unfoldable pub macintosh_strings : List ℕ
macintosh_strings = NAMES.now
