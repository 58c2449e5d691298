-- What is parsed at the start of a text, and the text after it.
use Rattle.std.specs.Prelude.{◌==◌, if◌then◌else◌, ℕ, ◌+◌, ◌-◌, ◌*◌, ◌^◌, Bool, true, false, List, [], ◌∷◌, Option, Some, None, ◌&&◌, ◌||◌, nat_lt, nat_le, fold, drop, map, codes, ℤ, pos, neg_ℤ}
use Rattle.std.specs.List.{take_while, prefix_len}
use Rattle.std.specs.Option.{option_map}
use Rattle.std.specs.Str.{bytes_eq}
use Rattle.std.specs.Char.{is_ascii_alphanumeric, is_ascii_alphabetic, is_ascii_digit, is_ascii_whitespace, to_ascii_lowercase}
use Rattle.buffer_common.specs.declared.tag.Tag.{Tag}
use Rattle.buffer_common.specs.Tag.{tag_of_text}

-- the text after the longest run of bytes that pass the test
abbrev pub after_run : (ℕ → Bool) → List ℕ → List ℕ
after_run test text = drop (prefix_len test text) text

-- the text after white space
abbrev pub after_spaces : List ℕ → List ℕ
after_spaces text = after_run is_ascii_whitespace text

-- the single and the double quote
abbrev pub is_quote : ℕ → Bool
is_quote byte = byte == 39 || byte == 34

-- letters, digits and the underscore
abbrev pub is_tag_byte : ℕ → Bool
is_tag_byte byte = is_ascii_alphanumeric byte || byte == 95

-- a tag of one to four bytes, all that the text's first run of them has
abbrev pub tag_in : List ℕ → Option (Tag × List ℕ)
tag_in text =
    if nat_lt 0 (prefix_len is_tag_byte text) && nat_le (prefix_len is_tag_byte text) 4
    then Some (tag_of_text (take_while is_tag_byte text), after_run is_tag_byte text)
    else None

-- the number that decimal digits write
abbrev pub decimal_value : List ℕ → ℕ
decimal_value digits = fold (λ value digit. 10 * value + (digit - 48)) 0 digits

-- a number of one or more digits, at most `most`
abbrev pub natural_in : ℕ → List ℕ → Option (ℕ × List ℕ)
natural_in most text =
    if nat_lt 0 (prefix_len is_ascii_digit text) && nat_le (decimal_value (take_while is_ascii_digit text)) most
    then Some (decimal_value (take_while is_ascii_digit text), after_run is_ascii_digit text)
    else None

-- a number of 32 bits with an optional sign
abbrev pub integer_in : List ℕ → Option (ℤ × List ℕ)
integer_in [] = None
integer_in (byte ∷ rest) =
    if byte == 45 then option_map (λ found. (neg_ℤ (pos found.0), found.1)) (natural_in (2 ^ 31) rest)
    else if byte == 43 then option_map (λ found. (pos found.0, found.1)) (natural_in (2 ^ 31 - 1) rest)
    else option_map (λ found. (pos found.0, found.1)) (natural_in (2 ^ 31 - 1) (byte ∷ rest))

-- the words `on` and `off`, in any case
abbrev pub bool_of_word : List ℕ → Option Bool
bool_of_word word =
    if bytes_eq (map to_ascii_lowercase word) (codes "on") then Some true
    else if bytes_eq (map to_ascii_lowercase word) (codes "off") then Some false
    else None

-- `on` or `off` after white space
abbrev pub bool_in : List ℕ → Option (Bool × List ℕ)
bool_in text =
    option_map (λ value. (value, after_run is_ascii_alphabetic (after_spaces text)))
    (bool_of_word (take_while is_ascii_alphabetic (after_spaces text)))
