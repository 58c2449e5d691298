-- The grammar of a request for a feature, such as `-liga`, `"kern"[3;5] = 2` or `aalt on`.
use Rattle.std.specs.Prelude.{◌≡◌, ℕ, ◌+◌, ◌-◌, ◌^◌, ◌<◌, ◌≤◌, Bool, true, false, List, [], ◌∷◌, ◌++◌, length, map, codes, ℤ, pos, neg_ℤ, min, ◌↔◌, Result, Ok}
use Rattle.std.specs.List.{list_all}
use Rattle.std.specs.Char.{is_ascii_digit, is_ascii_whitespace, to_ascii_lowercase}
use Rattle.buffer_common.specs.declared.tag.Tag.{Tag}
use Rattle.buffer_common.specs.Tag.{tag_of_text}
use Rattle.buffer_tags.specs.declared.feature.Feature.{Feature}
use Rattle.buffer_tags.specs.declared.feature.InvalidFeature.{InvalidFeature}
use Rattle.buffer_tags.specs.TextParser.{is_quote, is_tag_byte, decimal_value}
use Rattle.buffer_tags.specs.FeatureText.{no_end, index_of_integer, feature_of_text}

-- white space of ASCII, or nothing
abbrev pub AreSpaces : List ℕ → Type 0
AreSpaces text = list_all is_ascii_whitespace text ≡ true

-- a sign or none, and the value that a request has by it
pub data IsSign (text : List ℕ) (default : ℕ) : Type 0 where
  no_sign : text ≡ [] → default ≡ 1 → IsSign text default
  plus_sign : text ≡ codes "+" → default ≡ 1 → IsSign text default
  minus_sign : text ≡ codes "-" → default ≡ 0 → IsSign text default

-- one to four letters, digits or underscores
pub record IsTagName (name : List ℕ) : Type 0 where
  pub some : 0 < length name
  pub at_most_four : length name ≤ 4
  pub bytes : list_all is_tag_byte name ≡ true

-- the text's first byte, if it has one, doesn't pass a test
abbrev pub BeginsWithout : (ℕ → Bool) → List ℕ → Type 0
BeginsWithout test [] = Unit {0}
BeginsWithout test (byte ∷ rest) = test byte ≡ false

-- a tag, bare and then whole before what follows, or between two equal quotes
pub data IsTagText (text : List ℕ) (tag : Tag) (after : List ℕ) : Type 0 where
  bare : IsTagName text → BeginsWithout is_tag_byte after → tag ≡ tag_of_text text → IsTagText text tag after
  in_quotes : (quote : ℕ) (name : List ℕ) → is_quote quote ≡ true → IsTagName name
      → text ≡ quote ∷ (name ++ (quote ∷ [])) → tag ≡ tag_of_text name → IsTagText text tag after

-- one or more decimal digits of a number up to `most`
pub record IsNumber (most : ℕ) (digits : List ℕ) : Type 0 where
  pub some : 0 < length digits
  pub bytes : list_all is_ascii_digit digits ≡ true
  pub fits : decimal_value digits ≤ most

-- an optional sign and digits, within 32 bits
pub data IsInteger (text : List ℕ) (value : ℤ) : Type 0 where
  natural : IsNumber (2 ^ 31 - 1) text → value ≡ pos (decimal_value text) → IsInteger text value
  positive : (digits : List ℕ) → IsNumber (2 ^ 31 - 1) digits → text ≡ 43 ∷ digits → value ≡ pos (decimal_value digits) → IsInteger text value
  negative : (digits : List ℕ) → IsNumber (2 ^ 31) digits → text ≡ 45 ∷ digits → value ≡ neg_ℤ (pos (decimal_value digits)) → IsInteger text value

-- a bound of a range: such a number modulo 2^32
pub record IsIndex (text : List ℕ) (place : ℕ) : Type 0 where
  pub value : ℤ
  pub written : IsInteger text value
  pub is : place ≡ index_of_integer value

-- the end of a range: `]` or `b]`
pub data IsEnd (text : List ℕ) (end : ℕ) : Type 0 where
  open_end : text ≡ codes "]" → end ≡ no_end → IsEnd text end
  placed_end : (b : List ℕ) → IsIndex b end → text ≡ b ++ codes "]" → IsEnd text end

-- a range: nothing, `[]`, `[n]`, `[:]`, `[:b]`, `[a:]`, `[a:b]` or `[a;b]`
pub data IsRange (text : List ℕ) (start end : ℕ) : Type 0 where
  no_range : text ≡ [] → start ≡ 0 → end ≡ no_end → IsRange text start end
  every_index : text ≡ codes "[]" → start ≡ 0 → end ≡ no_end → IsRange text start end
  single_index : (n : List ℕ) → IsIndex n start → text ≡ 91 ∷ (n ++ codes "]") → end ≡ min (start + 1) no_end → IsRange text start end
  up_to : (b : List ℕ) → IsEnd b end → text ≡ 91 ∷ 58 ∷ b → start ≡ 0 → IsRange text start end
  from : (a b : List ℕ) → IsIndex a start → IsEnd b end → text ≡ 91 ∷ (a ++ (58 ∷ b)) → IsRange text start end
  from_to : (a b : List ℕ) → IsIndex a start → IsIndex b end → text ≡ 91 ∷ (a ++ (59 ∷ (b ++ codes "]"))) → IsRange text start end

-- a setting: a number below 2^32, or `on` for 1, or `off` for 0, in any case
pub data IsSetting (text : List ℕ) (value : ℕ) : Type 0 where
  numbered : IsNumber no_end text → value ≡ decimal_value text → IsSetting text value
  switched_on : map to_ascii_lowercase text ≡ codes "on" → value ≡ 1 → IsSetting text value
  switched_off : map to_ascii_lowercase text ≡ codes "off" → value ≡ 0 → IsSetting text value

-- a value, after `=` or without one, or the value by the sign
pub data IsValue (default : ℕ) (text : List ℕ) (value : ℕ) : Type 0 where
  by_sign : text ≡ [] → value ≡ default → IsValue default text value
  plain : IsSetting text value → IsValue default text value
  after_equal : (spaces setting : List ℕ) → AreSpaces spaces → IsSetting setting value → text ≡ 61 ∷ (spaces ++ setting) → IsValue default text value

-- a request: a sign, a tag, a range and a value, with white space around them
pub record IsRequest (text : List ℕ) (feature : Feature) : Type 0 where
  pub default : ℕ
  pub before : List ℕ
  pub sign : List ℕ
  pub after_sign : List ℕ
  pub tag : List ℕ
  pub after_tag : List ℕ
  pub range : List ℕ
  pub after_range : List ℕ
  pub value : List ℕ
  pub after : List ℕ
  pub is : text ≡ before ++ (sign ++ (after_sign ++ (tag ++ (after_tag ++ (range ++ (after_range ++ (value ++ after)))))))
  pub spaces : AreSpaces before × AreSpaces after_sign × AreSpaces after_tag × AreSpaces after_range × AreSpaces after
  pub sign_is : IsSign sign default
  pub tag_is : IsTagText tag feature.tag (after_tag ++ (range ++ (after_range ++ (value ++ after))))
  pub range_is : IsRange range feature.start feature.end
  pub value_is : IsValue default value feature.value

-- the answer to a text is the request that it writes, exactly where it writes one
pub record AnswersRequest (text : List ℕ) (answer : Result Feature InvalidFeature) : Type 0 where
  pub read : answer ≡ feature_of_text text
  pub grammar : (feature : Feature) → (answer ≡ Ok feature) ↔ IsRequest text feature
