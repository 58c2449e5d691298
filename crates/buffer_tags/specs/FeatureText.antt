-- The text of a request, from its start on: a sign, a tag, a range in brackets, a value; white space between them.
use Rattle.std.specs.Prelude.{◌==◌, if◌then◌else◌, ℕ, ◌+◌, ◌-◌, ◌^◌, List, [], ◌∷◌, Option, Some, None, Result, min, ℤ}
use Rattle.std.specs.Int.{w32, cast_unsigned}
use Rattle.std.specs.Option.{option_map, option_map_or, option_and_then, ok_or}
use Rattle.buffer_common.specs.declared.tag.Tag.{Tag}
use Rattle.buffer_tags.specs.declared.feature.Feature.{Feature}
use Rattle.buffer_tags.specs.declared.feature.InvalidFeature.{InvalidFeature}
use Rattle.buffer_tags.specs.TextParser.{after_spaces, is_quote, tag_in, natural_in, integer_in, bool_in}

-- the end of a range that has none
abbrev pub no_end : ℕ
no_end = 2 ^ 32 - 1

-- the value of a text's sign, 0 after a minus and else 1, and the text after it
abbrev pub sign_in : List ℕ → ℕ × List ℕ
sign_in [] = (1, [])
sign_in (byte ∷ rest) =
    if byte == 45 then (0, rest)
    else if byte == 43 then (1, rest)
    else (1, byte ∷ rest)

-- the text after its first byte, where that is the given one
abbrev pub text_after : ℕ → List ℕ → Option (List ℕ)
text_after byte [] = None
text_after byte (first ∷ rest) = if first == byte then Some rest else None

-- a tag, bare or between two equal quotes
abbrev pub quoted_tag_in : List ℕ → Option (Tag × List ℕ)
quoted_tag_in [] = None
quoted_tag_in (first ∷ rest) =
    if is_quote first then option_and_then (λ found. option_map (λ left. (found.0, left)) (text_after first found.1)) (tag_in rest)
    else tag_in (first ∷ rest)

-- a bound of a range, modulo 2^32
abbrev pub index_of_integer : ℤ → ℕ
index_of_integer number = cast_unsigned w32 number

-- the text after `]`
abbrev pub range_close : ℕ → ℕ → List ℕ → Option ((ℕ × ℕ) × List ℕ)
range_close start end text = option_map (λ left. ((start, end), left)) (text_after 93 text)

-- the end of a range, `b]`
abbrev pub range_end : ℕ → List ℕ → Option ((ℕ × ℕ) × List ℕ)
range_end start text = option_and_then (λ found. range_close start (index_of_integer found.0) found.1) (integer_in text)

-- the end of a range, `b]` or `]`
abbrev pub range_maybe_end : ℕ → List ℕ → Option ((ℕ × ℕ) × List ℕ)
range_maybe_end start text =
    option_map_or (λ found. range_close start (index_of_integer found.0) found.1) (integer_in text) (range_close start no_end text)

-- the rest of a range after its start: `]` for that index only, `:` with an end or none, `;` with an end
abbrev pub range_after_start : ℕ → List ℕ → Option ((ℕ × ℕ) × List ℕ)
range_after_start start [] = None
range_after_start start (byte ∷ rest) =
    if byte == 93 then Some ((start, min (start + 1) no_end), rest)
    else if byte == 58 then range_maybe_end start rest
    else if byte == 59 then range_end start rest
    else None

-- a range without a start: `]`, or `:` with an end or none
abbrev pub range_without_start : List ℕ → Option ((ℕ × ℕ) × List ℕ)
range_without_start [] = None
range_without_start (byte ∷ rest) =
    if byte == 93 then Some ((0, no_end), rest)
    else if byte == 58 then range_maybe_end 0 rest
    else None

-- the rest of a range after `[`
abbrev pub range_in_brackets : List ℕ → Option ((ℕ × ℕ) × List ℕ)
range_in_brackets text = option_map_or (λ found. range_after_start (index_of_integer found.0) found.1) (integer_in text) (range_without_start text)

-- a range in brackets, or none for every index
abbrev pub range_in : List ℕ → Option ((ℕ × ℕ) × List ℕ)
range_in [] = Some ((0, no_end), [])
range_in (byte ∷ rest) = if byte == 91 then range_in_brackets rest else Some ((0, no_end), byte ∷ rest)

-- a number, or `on` for 1, or `off` for 0
abbrev pub setting_in : List ℕ → Option (ℕ × List ℕ)
setting_in text =
    option_map_or Some (natural_in no_end text) (option_map (λ found. ((if found.0 then 1 else 0), found.1)) (bool_in text))

-- a value, with `=` or without; after `=` a value is required
abbrev pub value_in : ℕ → List ℕ → Option (ℕ × List ℕ)
value_in default [] = Some (default, [])
value_in default (byte ∷ rest) =
    if byte == 61 then setting_in (after_spaces rest)
    else option_map_or Some (setting_in (byte ∷ rest)) (Some (default, byte ∷ rest))

-- the request, where its value ends the text
abbrev pub whole_request : Tag → ℕ × ℕ → ℕ × List ℕ → Option Feature
whole_request tag range (value, []) = Some (record { tag = tag; value = value; start = range.0; end = range.1 })
whole_request tag range (value, (byte ∷ rest)) = None

-- the request from its value on
abbrev pub feature_with_value : Tag → ℕ × ℕ → ℕ × List ℕ → Option Feature
feature_with_value tag range found = whole_request tag range (found.0, after_spaces found.1)

-- the request from the text after its range on
abbrev pub feature_with_range : Tag → ℕ → (ℕ × ℕ) × List ℕ → Option Feature
feature_with_range tag default found = option_and_then (feature_with_value tag found.0) (value_in default (after_spaces found.1))

-- the request from the text after its tag on
abbrev pub feature_with_tag : ℕ → Tag × List ℕ → Option Feature
feature_with_tag default found = option_and_then (feature_with_range found.0 default) (range_in (after_spaces found.1))

-- the request from the text after its sign on
abbrev pub feature_with_sign : ℕ × List ℕ → Option Feature
feature_with_sign found = option_and_then (feature_with_tag found.0) (quoted_tag_in (after_spaces found.1))

-- the request that the text writes
abbrev pub feature_of : List ℕ → Option Feature
feature_of text = feature_with_sign (sign_in (after_spaces text))

-- the request of a text, or an error
abbrev pub feature_of_text : List ℕ → Result Feature InvalidFeature
feature_of_text text = ok_or (feature_of text) (record {})
