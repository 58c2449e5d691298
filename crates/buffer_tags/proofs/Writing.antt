-- What is in the grammar is read.
use Rattle.std.proofs.Common.{◌≡◌, ◌⊎◌, inl, inr, ℕ, ◌+◌, ◌-◌, ◌^◌, Bool, true, false, cond, List, [], ◌∷◌, ◌++◌, length, Some, None, refl, sym, ap, arith, append_assoc, append-nil, nat_lt, ◌==◌, codes, map, subst}
use Rattle.std.specs.Prelude.{nat_le, ℤ, pos, neg_ℤ, min}
use Rattle.std.specs.Option.{option_map}
use Rattle.std.specs.List.{prefix_len, list_all, take_while}
use Rattle.std.specs.Char.{is_ascii_digit, is_ascii_alphabetic, is_ascii_whitespace, to_ascii_lowercase}
use Rattle.std.proofs.Math.Seq.{drop-append_seam, take-append_seam}
use Rattle.std.proofs.lemmas.Bool.{lt-ltb, le-leb, eq-eqb}
use Rattle.buffer_common.specs.declared.tag.Tag.{Tag}
use Rattle.buffer_common.specs.Tag.{tag_of_text}
use Rattle.buffer_tags.specs.declared.feature.Feature.{Feature}
use Rattle.buffer_tags.specs.TextParser.{after_run, after_spaces, is_quote, is_tag_byte, tag_in, natural_in, integer_in, decimal_value, bool_of_word, bool_in}
use Rattle.buffer_tags.specs.FeatureText.{no_end, sign_in, quoted_tag_in, text_after, range_maybe_end, range_in, index_of_integer, setting_in, value_in, feature_with_value, feature_with_range, feature_with_tag, feature_with_sign, feature_of}
use Rattle.buffer_tags.specs.FeatureGrammar.{AreSpaces, IsSign, IsTagName, BeginsWithout, IsTagText, IsNumber, IsInteger, IsIndex, IsEnd, IsRange, IsSetting, IsValue, IsRequest, no_sign, plus_sign, minus_sign, bare, in_quotes, numbered, switched_on, switched_off, by_sign, plain, after_equal, natural, positive, negative, open_end, placed_end, no_range, every_index, single_index, up_to, from, from_to}
use Rattle.buffer_tags.proofs.Runs.{prefix_len-run, take_while-run, after_run-run, after_run-more, after_run-none, after_run-stops}
use Rattle.buffer_tags.proofs.Bytes.{IsPlain, tag_byte_is_plain, tag_byte-quote, quote_is_plain, quote-tag_byte, digit_is_plain, space-digit, space-letter, letter, letter_is_plain, letter-digit}
use Rattle.buffer_facts.proofs.Truth.{both_true}

pub natural_written : (most : ℕ) (digits rest : List ℕ) → IsNumber most digits → BeginsWithout is_ascii_digit rest
    → natural_in most (digits ++ rest) ≡ Some (decimal_value digits, rest)
natural_written most digits rest number stops =
    let len : prefix_len is_ascii_digit (digits ++ rest) ≡ length digits = prefix_len-run is_ascii_digit digits rest number.bytes stops in
    let some : nat_lt 0 (length digits) ≡ true = lt-ltb 0 (length digits) number.some in
    let fits : nat_le (decimal_value digits) most ≡ true = le-leb (decimal_value digits) most number.fits in
    rw (len, take-append_seam digits rest, drop-append_seam digits rest, some, fits) refl

-- the first byte of a number is a digit
digit_first : (most byte : ℕ) (bytes : List ℕ) → IsNumber most (byte ∷ bytes) → IsPlain byte
digit_first most byte bytes number = digit_is_plain byte (both_true (is_ascii_digit byte) (list_all is_ascii_digit bytes) number.bytes).0

unsigned_written : (digits rest : List ℕ) → IsNumber (2 ^ 31 - 1) digits → BeginsWithout is_ascii_digit rest
    → integer_in (digits ++ rest) ≡ Some (pos (decimal_value digits), rest)
unsigned_written [] rest number stops = absurd (omega (arith, number.some))
unsigned_written (byte ∷ bytes) rest number stops =
    let first : IsPlain byte = digit_first (2 ^ 31 - 1) byte bytes number in
    let minus : (byte == 45) ≡ false = first.minus in
    let plus : (byte == 43) ≡ false = first.plus in
    let found : natural_in (2 ^ 31 - 1) (byte ∷ (bytes ++ rest)) ≡ Some (decimal_value (byte ∷ bytes), rest) =
    natural_written (2 ^ 31 - 1) (byte ∷ bytes) rest number stops in
    rw (minus, plus, found) refl

positive_written : (digits rest : List ℕ) → IsNumber (2 ^ 31 - 1) digits → BeginsWithout is_ascii_digit rest
    → integer_in (43 ∷ (digits ++ rest)) ≡ Some (pos (decimal_value digits), rest)
positive_written digits rest number stops = rw (natural_written (2 ^ 31 - 1) digits rest number stops) refl

negative_written : (digits rest : List ℕ) → IsNumber (2 ^ 31) digits → BeginsWithout is_ascii_digit rest
    → integer_in (45 ∷ (digits ++ rest)) ≡ Some (neg_ℤ (pos (decimal_value digits)), rest)
negative_written digits rest number stops = rw (natural_written (2 ^ 31) digits rest number stops) refl

pub integer_written : (text : List ℕ) (value : ℤ) (rest : List ℕ) → IsInteger text value → BeginsWithout is_ascii_digit rest
    → integer_in (text ++ rest) ≡ Some (value, rest)
integer_written text value rest (natural number v) stops = rw v (unsigned_written text rest number stops)
integer_written text value rest (positive digits number e v) stops = rw (e, v) (positive_written digits rest number stops)
integer_written text value rest (negative digits number e v) stops = rw (e, v) (negative_written digits rest number stops)

pub end_written : (start : ℕ) (text : List ℕ) (end : ℕ) (rest : List ℕ) → IsEnd text end → range_maybe_end start (text ++ rest) ≡ Some ((start, end), rest)
end_written start text end rest (open_end e v) = rw (e, v) refl
end_written start text end rest (placed_end b place e) =
    let found : integer_in (b ++ (93 ∷ rest)) ≡ Some (place.value, 93 ∷ rest) = integer_written b place.value (93 ∷ rest) place.written refl in
    let is : end ≡ index_of_integer place.value = place.is in
    rw (e, append_assoc b (codes "]") rest, found, is) refl

-- a range in brackets is read whole
pub record IsRead (range : List ℕ) (start end : ℕ) : Type 0 where
  pub inside : List ℕ
  pub is : range ≡ 91 ∷ inside
  pub found : (rest : List ℕ) → range_in (range ++ rest) ≡ Some ((start, end), rest)

one_place_written : (n : List ℕ) (start : ℕ) (rest : List ℕ) → IsIndex n start
    → range_in (91 ∷ ((n ++ codes "]") ++ rest)) ≡ Some ((start, min (start + 1) no_end), rest)
one_place_written n start rest place =
    let found : integer_in (n ++ (93 ∷ rest)) ≡ Some (place.value, 93 ∷ rest) = integer_written n place.value (93 ∷ rest) place.written refl in
    let is : start ≡ index_of_integer place.value = place.is in
    rw (append_assoc n (codes "]") rest, found, is) refl

from_written : (a b : List ℕ) (start end : ℕ) (rest : List ℕ) → IsIndex a start → IsEnd b end
    → range_in (91 ∷ ((a ++ (58 ∷ b)) ++ rest)) ≡ Some ((start, end), rest)
from_written a b start end rest place is_end =
    let found : integer_in (a ++ (58 ∷ (b ++ rest))) ≡ Some (place.value, 58 ∷ (b ++ rest)) =
    integer_written a place.value (58 ∷ (b ++ rest)) place.written refl in
    let is : start ≡ index_of_integer place.value = place.is in
    rw (append_assoc a (58 ∷ b) rest, found, is) (end_written (index_of_integer place.value) b end rest is_end)

from_to_written : (a b : List ℕ) (start end : ℕ) (rest : List ℕ) → IsIndex a start → IsIndex b end
    → range_in (91 ∷ ((a ++ (59 ∷ (b ++ codes "]"))) ++ rest)) ≡ Some ((start, end), rest)
from_to_written a b start end rest place last =
    let found_end : integer_in (b ++ (93 ∷ rest)) ≡ Some (last.value, 93 ∷ rest) = integer_written b last.value (93 ∷ rest) last.written refl in
    let found : integer_in (a ++ (59 ∷ (b ++ (93 ∷ rest)))) ≡ Some (place.value, 59 ∷ (b ++ (93 ∷ rest))) =
    integer_written a place.value (59 ∷ (b ++ (93 ∷ rest))) place.written refl in
    let is : start ≡ index_of_integer place.value = place.is in
    let end_is : end ≡ index_of_integer last.value = last.is in
    rw (append_assoc a (59 ∷ (b ++ codes "]")) rest, append_assoc b (codes "]") rest, found, found_end, is, end_is) refl

pub range_written : (range : List ℕ) (start end : ℕ) → IsRange range start end
    → IsRead range start end ⊎ ((range ≡ []) × (start ≡ 0) × (end ≡ no_end))
range_written range start end (no_range e s l) = inr (e, s, l)
range_written range start end (every_index e s l) =
    inl (record { inside = codes "]"; is = e; found = λ rest. rw (e, s, l) refl })
range_written range start end (single_index n place e l) =
    inl (record { inside = n ++ codes "]"; is = e; found = λ rest. rw (e, l) (one_place_written n start rest place) })
range_written range start end (up_to b is_end e s) =
    inl (record { inside = 58 ∷ b; is = e; found = λ rest. rw (e, s) (end_written 0 b end rest is_end) })
range_written range start end (from a b place is_end e) =
    inl (record { inside = a ++ (58 ∷ b); is = e; found = λ rest. rw e (from_written a b start end rest place is_end) })
range_written range start end (from_to a b place last e) =
    inl (record { inside = a ++ (59 ∷ (b ++ codes "]")); is = e; found = λ rest. rw e (from_to_written a b start end rest place last) })

tag_in_written : (name rest : List ℕ) → IsTagName name → BeginsWithout is_tag_byte rest → tag_in (name ++ rest) ≡ Some (tag_of_text name, rest)
tag_in_written name rest is_name stops =
    let len : prefix_len is_tag_byte (name ++ rest) ≡ length name = prefix_len-run is_tag_byte name rest is_name.bytes stops in
    let some : nat_lt 0 (length name) ≡ true = lt-ltb 0 (length name) is_name.some in
    let few : nat_le (length name) 4 ≡ true = le-leb (length name) 4 is_name.at_most_four in
    rw (len, take-append_seam name rest, drop-append_seam name rest, some, few) refl

-- a part of a request that begins with a plain byte, and what is read of it
pub record Begins (text : List ℕ) : Type 0 where
  pub byte : ℕ
  pub bytes : List ℕ
  pub is : text ≡ byte ∷ bytes
  pub is_plain : IsPlain byte

bare_written : (name after : List ℕ) → IsTagName name → BeginsWithout is_tag_byte after
    → Begins name × (quoted_tag_in (name ++ after) ≡ Some (tag_of_text name, after))
bare_written [] after is_name stops = absurd (omega (arith, is_name.some))
bare_written (byte ∷ bytes) after is_name stops =
    let first : is_tag_byte byte ≡ true = (both_true (is_tag_byte byte) (list_all is_tag_byte bytes) is_name.bytes).0 in
    let unquoted : is_quote byte ≡ false = tag_byte-quote byte first in (
      record { byte = byte; bytes = bytes; is = refl; is_plain = tag_byte_is_plain byte first },
      rw unquoted (tag_in_written (byte ∷ bytes) after is_name stops),
    )

quoted_written : (quote : ℕ) (name after : List ℕ) → is_quote quote ≡ true → IsTagName name
    → quoted_tag_in (quote ∷ ((name ++ (quote ∷ [])) ++ after)) ≡ Some (tag_of_text name, after)
quoted_written quote name after is is_name =
    let found : tag_in (name ++ (quote ∷ after)) ≡ Some (tag_of_text name, quote ∷ after) =
    tag_in_written name (quote ∷ after) is_name (quote-tag_byte quote is) in
    let same : (quote == quote) ≡ true = eq-eqb quote quote refl in
    rw (is, append_assoc name (quote ∷ []) after, found, same) refl

pub tag_written : (text : List ℕ) (tag : Tag) (after : List ℕ) → IsTagText text tag after
    → Begins text × (quoted_tag_in (text ++ after) ≡ Some (tag, after))
tag_written text tag after (bare is_name stops t) = rw t (bare_written text after is_name stops)
tag_written text tag after (in_quotes quote name is is_name e t) = (
  record { byte = quote; bytes = name ++ (quote ∷ []); is = e; is_plain = quote_is_plain quote is },
  rw (e, t) (quoted_written quote name after is is_name),
)

-- what is left of a sign and the white space after it
signed_plain : (spaces : List ℕ) (byte : ℕ) (bytes : List ℕ) → AreSpaces spaces → IsPlain byte
    → after_spaces (spaces ++ (byte ∷ bytes)) ≡ byte ∷ bytes
signed_plain spaces byte bytes all is_plain = after_run-run is_ascii_whitespace spaces (byte ∷ bytes) all is_plain.space

pub sign_written : (sign : List ℕ) (default : ℕ) (spaces : List ℕ) (byte : ℕ) (bytes : List ℕ) → IsSign sign default → AreSpaces spaces → IsPlain byte
    → ((sign_in (after_spaces (sign ++ (spaces ++ (byte ∷ bytes))))).0 ≡ default)
    × (after_spaces (sign_in (after_spaces (sign ++ (spaces ++ (byte ∷ bytes))))).1 ≡ byte ∷ bytes)
sign_written sign default spaces byte bytes (no_sign e d) all is_plain =
    let plain : after_spaces (spaces ++ (byte ∷ bytes)) ≡ byte ∷ bytes = signed_plain spaces byte bytes all is_plain in
    let minus : (byte == 45) ≡ false = is_plain.minus in
    let plus : (byte == 43) ≡ false = is_plain.plus in
    let space : is_ascii_whitespace byte ≡ false = is_plain.space in
    (rw (e, plain, minus, plus, d) refl, rw (e, plain, minus, plus, space) refl)
sign_written sign default spaces byte bytes (plus_sign e d) all is_plain =
    (rw (e, d) refl, rw e (signed_plain spaces byte bytes all is_plain))
sign_written sign default spaces byte bytes (minus_sign e d) all is_plain =
    (rw (e, d) refl, rw e (signed_plain spaces byte bytes all is_plain))

spaces_begin : (p : ℕ → Bool) (after : List ℕ) → ((c : ℕ) → is_ascii_whitespace c ≡ true → p c ≡ false) → AreSpaces after → BeginsWithout p after
spaces_begin p [] kind all = tt
spaces_begin p (byte ∷ bytes) kind all = kind byte (both_true (is_ascii_whitespace byte) (list_all is_ascii_whitespace bytes) all).0

pub nothing_after : (after : List ℕ) → AreSpaces after → after_spaces after ≡ []
nothing_after after all =
    let whole : after_spaces (after ++ []) ≡ [] = after_run-run is_ascii_whitespace after [] all tt in
    rw append-nil at whole

number_first : (text after : List ℕ) → IsNumber no_end text → AreSpaces after
    → Begins text × (setting_in (text ++ after) ≡ Some (decimal_value text, after))
number_first [] after is_number all = absurd (omega (arith, is_number.some))
number_first (byte ∷ bytes) after is_number all =
    let found : natural_in no_end (byte ∷ (bytes ++ after)) ≡ Some (decimal_value (byte ∷ bytes), after) =
    natural_written no_end (byte ∷ bytes) after is_number (spaces_begin is_ascii_digit after space-digit all) in
    (record { byte = byte; bytes = bytes; is = refl; is_plain = digit_first no_end byte bytes is_number }, rw found refl)

no_number : (most byte : ℕ) (rest : List ℕ) → is_ascii_digit byte ≡ false → natural_in most (byte ∷ rest) ≡ None
no_number most byte rest e = rw e refl

bool_found : (text word left : List ℕ) (value : Bool) → after_spaces text ≡ text → take_while is_ascii_alphabetic text ≡ word
    → after_run is_ascii_alphabetic text ≡ left → bool_of_word word ≡ Some value → bool_in text ≡ Some (value, left)
bool_found text word left value start taken rest is = rw (start, taken, rest) (ap (option_map (λ found. (found, left))) is)

word_written : (byte : ℕ) (bytes after : List ℕ) (value : Bool) → list_all is_ascii_alphabetic (byte ∷ bytes) ≡ true
    → bool_of_word (byte ∷ bytes) ≡ Some value → AreSpaces after
    → Begins (byte ∷ bytes) × (setting_in ((byte ∷ bytes) ++ after) ≡ Some (cond value 1 0, after))
word_written byte bytes after value letters word all =
    let first : is_ascii_alphabetic byte ≡ true = (both_true (is_ascii_alphabetic byte) (list_all is_ascii_alphabetic bytes) letters).0 in
    let is_plain : IsPlain byte = letter_is_plain byte first in
    let space : is_ascii_whitespace byte ≡ false = is_plain.space in
    let none : natural_in no_end (byte ∷ (bytes ++ after)) ≡ None = no_number no_end byte (bytes ++ after) (letter-digit byte first) in
    let start : after_spaces (byte ∷ (bytes ++ after)) ≡ byte ∷ (bytes ++ after) = after_run-none is_ascii_whitespace (byte ∷ (bytes ++ after)) space in
    let stops : BeginsWithout is_ascii_alphabetic after = spaces_begin is_ascii_alphabetic after space-letter all in
    let found : bool_in (byte ∷ (bytes ++ after)) ≡ Some (value, after) =
    bool_found (byte ∷ (bytes ++ after)) (byte ∷ bytes) after value start
    (take_while-run is_ascii_alphabetic (byte ∷ bytes) after letters stops)
    (after_run-run is_ascii_alphabetic (byte ∷ bytes) after letters stops)
    word in
    (record { byte = byte; bytes = bytes; is = refl; is_plain = is_plain }, rw (none, found) refl)

on_written : (text after : List ℕ) → map to_ascii_lowercase text ≡ codes "on" → AreSpaces after
    → Begins text × (setting_in (text ++ after) ≡ Some (1, after))
on_written [] after e all = cc
on_written (a ∷ []) after e all = cc
on_written (a ∷ b ∷ []) after e all =
    let first : to_ascii_lowercase a ≡ 111 = cc in
    let second : to_ascii_lowercase b ≡ 110 = cc in
    let a_letter : is_ascii_alphabetic a ≡ true = letter a 111 first refl in
    let b_letter : is_ascii_alphabetic b ≡ true = letter b 110 second refl in
    word_written a (b ∷ []) after true (rw (a_letter, b_letter) refl) (rw (first, second) refl) all
on_written (a ∷ b ∷ c ∷ text) after e all = cc

off_written : (text after : List ℕ) → map to_ascii_lowercase text ≡ codes "off" → AreSpaces after
    → Begins text × (setting_in (text ++ after) ≡ Some (0, after))
off_written [] after e all = cc
off_written (a ∷ []) after e all = cc
off_written (a ∷ b ∷ []) after e all = cc
off_written (a ∷ b ∷ c ∷ []) after e all =
    let first : to_ascii_lowercase a ≡ 111 = cc in
    let second : to_ascii_lowercase b ≡ 102 = cc in
    let third : to_ascii_lowercase c ≡ 102 = cc in
    let a_letter : is_ascii_alphabetic a ≡ true = letter a 111 first refl in
    let b_letter : is_ascii_alphabetic b ≡ true = letter b 102 second refl in
    let c_letter : is_ascii_alphabetic c ≡ true = letter c 102 third refl in
    word_written a (b ∷ c ∷ []) after false (rw (a_letter, b_letter, c_letter) refl) (rw (first, second, third) refl) all
off_written (a ∷ b ∷ c ∷ d ∷ text) after e all = cc

pub setting_written : (text : List ℕ) (value : ℕ) (after : List ℕ) → IsSetting text value → AreSpaces after
    → Begins text × (setting_in (text ++ after) ≡ Some (value, after))
setting_written text value after (numbered is_number v) all = rw v (number_first text after is_number all)
setting_written text value after (switched_on e v) all = rw v (on_written text after e all)
setting_written text value after (switched_off e v) all = rw v (off_written text after e all)

-- what is read of a value, up to white space
pub record ValueRead (default : ℕ) (text : List ℕ) (value : ℕ) : Type 0 where
  pub unbracketed : BeginsWithout (λ byte. byte == 91) text
  pub left : List ℕ
  pub found : value_in default text ≡ Some (value, left)
  pub nothing : after_spaces left ≡ []

plain_begun : (default : ℕ) (byte : ℕ) (bytes : List ℕ) (value : ℕ) (after : List ℕ) → IsPlain byte → AreSpaces after
    → setting_in ((byte ∷ bytes) ++ after) ≡ Some (value, after)
    → ValueRead default (after_spaces ((byte ∷ bytes) ++ after)) value
plain_begun default byte bytes value after is_plain all found =
    let space : is_ascii_whitespace byte ≡ false = is_plain.space in
    let equal : (byte == 61) ≡ false = is_plain.equal in
    let start : after_spaces (byte ∷ (bytes ++ after)) ≡ byte ∷ (bytes ++ after) = after_run-none is_ascii_whitespace (byte ∷ (bytes ++ after)) space in
    rw start (record {
      unbracketed = is_plain.bracket;
      left = after;
      found = rw (equal, found) refl;
      nothing = nothing_after after all;
    })

plain_written : (default : ℕ) (text : List ℕ) (value : ℕ) (after : List ℕ) → AreSpaces after
    → Begins text × (setting_in (text ++ after) ≡ Some (value, after))
    → ValueRead default (after_spaces (text ++ after)) value
plain_written default text value after all (begins, found) =
    let is : text ≡ begins.byte ∷ begins.bytes = begins.is in
    rw is (plain_begun default begins.byte begins.bytes value after begins.is_plain all (rw is at found))

setting_begun : (spaces : List ℕ) (byte : ℕ) (bytes : List ℕ) (value : ℕ) (after : List ℕ) → AreSpaces spaces → IsPlain byte
    → setting_in ((byte ∷ bytes) ++ after) ≡ Some (value, after)
    → setting_in (after_spaces (spaces ++ ((byte ∷ bytes) ++ after))) ≡ Some (value, after)
setting_begun spaces byte bytes value after all is_plain found =
    let start : after_spaces (spaces ++ (byte ∷ (bytes ++ after))) ≡ byte ∷ (bytes ++ after) =
    after_run-run is_ascii_whitespace spaces (byte ∷ (bytes ++ after)) all is_plain.space in
    rw (start, found) refl

after_equal_written : (default : ℕ) (spaces setting : List ℕ) (value : ℕ) (after : List ℕ) → AreSpaces spaces → AreSpaces after
    → Begins setting × (setting_in (setting ++ after) ≡ Some (value, after))
    → ValueRead default (after_spaces ((61 ∷ (spaces ++ setting)) ++ after)) value
after_equal_written default spaces setting value after all ends (begins, found) =
    let is : setting ≡ begins.byte ∷ begins.bytes = begins.is in
    let read : setting_in (after_spaces (spaces ++ (setting ++ after))) ≡ Some (value, after) =
    rw is (setting_begun spaces begins.byte begins.bytes value after all begins.is_plain (rw is at found)) in
    record {
      unbracketed = refl;
      left = after;
      found = rw (append_assoc spaces setting after, read) refl;
      nothing = nothing_after after ends;
    }

pub value_written : (default : ℕ) (text : List ℕ) (value : ℕ) (after : List ℕ) → IsValue default text value → AreSpaces after
    → ValueRead default (after_spaces (text ++ after)) value
value_written default text value after (by_sign e v) all =
    let nothing : after_spaces after ≡ [] = nothing_after after all in
    rw (e, nothing, v) (record { unbracketed = tt; left = []; found = refl; nothing = refl })
value_written default text value after (plain is) all = plain_written default text value after all (setting_written text value after is all)
value_written default text value after (after_equal spaces setting between is e) all =
    rw e (after_equal_written default spaces setting value after between all (setting_written setting value after is all))

-- the parts of a chain, each by what the one before it leaves
whole_written : (feature : Feature) (left : List ℕ) → after_spaces left ≡ []
    → feature_with_value feature.tag (feature.start, feature.end) (feature.value, left) ≡ Some feature
whole_written feature left nothing = rw nothing refl

value_step : (feature : Feature) (default : ℕ) (left : List ℕ) → ValueRead default (after_spaces left) feature.value
    → feature_with_range feature.tag default ((feature.start, feature.end), left) ≡ Some feature
value_step feature default left read =
    let found : value_in default (after_spaces left) ≡ Some (feature.value, read.left) = read.found in
    rw found (whole_written feature read.left read.nothing)

range_step : (feature : Feature) (default : ℕ) (text left : List ℕ)
    → range_in (after_spaces text) ≡ Some ((feature.start, feature.end), left) → ValueRead default (after_spaces left) feature.value
    → feature_with_tag default (feature.tag, text) ≡ Some feature
range_step feature default text left found read = rw found (value_step feature default left read)

unbracketed : (text : List ℕ) → BeginsWithout (λ byte. byte == 91) text → range_in text ≡ Some ((0, no_end), text)
unbracketed [] none = refl
unbracketed (byte ∷ rest) none = rw none refl

range_none : (feature : Feature) (default : ℕ) (text : List ℕ) → feature.start ≡ 0 → feature.end ≡ no_end
    → ValueRead default (after_spaces text) feature.value → feature_with_tag default (feature.tag, text) ≡ Some feature
range_none feature default text s e read =
    let again : after_spaces (after_spaces text) ≡ after_spaces text =
    after_run-none is_ascii_whitespace (after_spaces text) (after_run-stops is_ascii_whitespace text) in
    let P : ℕ → Type 0 = λ start. range_in (after_spaces text) ≡ Some ((start, no_end), after_spaces text) in
    let Q : ℕ → Type 0 = λ end. range_in (after_spaces text) ≡ Some ((feature.start, end), after_spaces text) in
    let found : range_in (after_spaces text) ≡ Some ((feature.start, feature.end), after_spaces text) =
    subst Q (sym e) (subst P (sym s) (unbracketed (after_spaces text) read.unbracketed)) in
    range_step feature default text (after_spaces text) found (rw again read)

range_there : (feature : Feature) (default : ℕ) (between range after : List ℕ) → AreSpaces between
    → IsRead range feature.start feature.end → ValueRead default (after_spaces after) feature.value
    → feature_with_tag default (feature.tag, between ++ (range ++ after)) ≡ Some feature
range_there feature default between range after all read value =
    let is : range ≡ 91 ∷ read.inside = read.is in
    let begins : after_spaces (between ++ (range ++ after)) ≡ range ++ after =
    rw is (after_run-run is_ascii_whitespace between ((91 ∷ read.inside) ++ after) all refl) in
    range_step feature default (between ++ (range ++ after)) after (rw begins (read.found after)) value

signed_step : (feature : Feature) (found : ℕ × List ℕ) (default : ℕ) (text after : List ℕ)
    → found.0 ≡ default → after_spaces found.1 ≡ text → quoted_tag_in text ≡ Some (feature.tag, after)
    → feature_with_tag default (feature.tag, after) ≡ Some feature → feature_with_sign found ≡ Some feature
signed_step feature (d, rest) default text after e begins read more = rw (e, begins, read) more

tag_step : (feature : Feature) (sign : List ℕ) (default : ℕ) (between tag after : List ℕ) → IsSign sign default → AreSpaces between
    → Begins tag × (quoted_tag_in (tag ++ after) ≡ Some (feature.tag, after))
    → feature_with_tag default (feature.tag, after) ≡ Some feature
    → feature_with_sign (sign_in (after_spaces (sign ++ (between ++ (tag ++ after))))) ≡ Some feature
tag_step feature sign default between tag after is_sign all (begins, read) more =
    let is : tag ≡ begins.byte ∷ begins.bytes = begins.is in
    let P : List ℕ → Type 0 = λ t. feature_with_sign (sign_in (after_spaces (sign ++ (between ++ (t ++ after))))) ≡ Some feature in
    let Q : List ℕ → Type 0 = λ t. quoted_tag_in (t ++ after) ≡ Some (feature.tag, after) in
    let parts = sign_written sign default between begins.byte (begins.bytes ++ after) is_sign all begins.is_plain in
    subst P (sym is)
    (signed_step feature (sign_in (after_spaces (sign ++ (between ++ (begins.byte ∷ (begins.bytes ++ after)))))) default
    (begins.byte ∷ (begins.bytes ++ after)) after parts.0 parts.1 (subst Q is read) more)

range_step_either : (feature : Feature) (default : ℕ) (between range after : List ℕ) → AreSpaces between
    → IsRead range feature.start feature.end ⊎ ((range ≡ []) × (feature.start ≡ 0) × (feature.end ≡ no_end))
    → ValueRead default (after_spaces after) feature.value
    → feature_with_tag default (feature.tag, between ++ (range ++ after)) ≡ Some feature
range_step_either feature default between range after all (inl read) value = range_there feature default between range after all read value
range_step_either feature default between range after all (inr (e, s, l)) value =
    let more : after_spaces (between ++ after) ≡ after_spaces after = after_run-more is_ascii_whitespace between after all in
    rw e (range_none feature default (between ++ after) s l (rw more value))

pub request_written : (text : List ℕ) (feature : Feature) → IsRequest text feature → feature_of text ≡ Some feature
request_written text feature request =
    let all = request.spaces in
    let value_text : List ℕ = request.value ++ request.after in
    let range_text : List ℕ = request.after_range ++ value_text in
    let tag_text : List ℕ = request.after_tag ++ (request.range ++ range_text) in
    let sign_text : List ℕ = request.sign ++ (request.after_sign ++ (request.tag ++ tag_text)) in
    let whole : text ≡ request.before ++ sign_text = request.is in
    let more : after_spaces range_text ≡ after_spaces value_text = after_run-more is_ascii_whitespace request.after_range value_text all.3 in
    let read : ValueRead request.default (after_spaces value_text) feature.value =
    value_written request.default request.value feature.value request.after request.value_is all.4 in
    let V : List ℕ → Type 0 = λ t. ValueRead request.default t feature.value in
    let ranged_is : feature_with_tag request.default (feature.tag, tag_text) ≡ Some feature =
    range_step_either feature request.default request.after_tag request.range range_text all.2
    (range_written request.range feature.start feature.end request.range_is) (subst V (sym more) read) in
    let signed_is : feature_with_sign (sign_in (after_spaces sign_text)) ≡ Some feature =
    tag_step feature request.sign request.default request.after_sign request.tag tag_text request.sign_is all.1
    (tag_written request.tag feature.tag tag_text request.tag_is) ranged_is in
    let start : after_spaces (request.before ++ sign_text) ≡ after_spaces sign_text = after_run-more is_ascii_whitespace request.before sign_text all.0 in
    let F : List ℕ → Type 0 = λ t. feature_with_sign (sign_in t) ≡ Some feature in
    let T : List ℕ → Type 0 = λ t. feature_of t ≡ Some feature in
    subst T (sym whole) (subst F (sym start) signed_is)
