-- Which of the two formats of JSON a text says that it has.
use Rattle.std.specs.Prelude.{ℕ, if◌then◌else◌, ◌||◌, List, [], ◌∷◌, Bool, true, false, Option, Some, None, codes, drop, take, length}
use Rattle.std.specs.List.{prefix_len}
use Rattle.std.specs.Str.{bytes_eq}
use Rattle.std.specs.Char.{is_ascii_whitespace}

-- bytes without the whitespace that they begin with
abbrev pub without_space : List ℕ → List ℕ
without_space bytes = drop (prefix_len is_ascii_whitespace bytes) bytes

-- what follows a token that bytes begin with; none where they don't
abbrev pub after_prefix : List ℕ → List ℕ → Option (List ℕ)
after_prefix token bytes = if bytes_eq (take (length token) bytes) token then Some (drop (length token) bytes) else None

-- what follows a token and the whitespace before it; none where something else comes
abbrev pub after_token : List ℕ → List ℕ → Option (List ℕ)
after_token token bytes = after_prefix token (without_space bytes)

-- whether bytes begin with tokens, one after another
abbrev pub begins : List (List ℕ) → Option (List ℕ) → Bool
begins tokens None = false
begins [] (Some bytes) = true
begins (token ∷ tokens) (Some bytes) = begins tokens (after_token token bytes)

-- whether a text begins as an object (RFC 8259) whose first key is `format`, with a value
abbrev pub is_of_format : List ℕ → List ℕ → Bool
is_of_format value bytes = begins (codes "{" ∷ codes "\"format\"" ∷ codes ":" ∷ value ∷ []) (Some bytes)

-- whether a text says that it is tables
abbrev pub is_tables : List ℕ → Bool
is_tables bytes = is_of_format (codes "\"kuspveli-tables\"") bytes

-- whether a text says that it is a font
abbrev pub is_font : List ℕ → Bool
is_font bytes = is_of_format (codes "\"kuspveli-font\"") bytes

-- whether one of tables and a font says that it is the other
abbrev pub are_swapped : List ℕ → List ℕ → Bool
are_swapped tables font = is_font tables || is_tables font
