-- What is read of a text is in the grammar.
use Rattle.std.proofs.Common.{◌≡◌, ◌⊎◌, inl, inr, ℕ, ◌+◌, ◌-◌, ◌^◌, ◌<◌, Bool, true, false, cond, List, [], ◌∷◌, ◌++◌, length, Option, Some, None, refl, sym, ap, ◌∙◌, ◌&&◌, append_assoc, nat_lt, ◌==◌, codes, map, subst}
use Rattle.std.specs.Prelude.{nat_le, ℤ, pos, neg_ℤ, min}
use Rattle.std.specs.List.{prefix_len, take_while}
use Rattle.std.specs.Char.{is_ascii_digit, is_ascii_alphabetic, is_ascii_whitespace, to_ascii_lowercase}
use Rattle.std.specs.Str.{bytes_eq}
use Rattle.std.specs.Cmp.Lexicographic.{same_text}
use Rattle.buffer_common.specs.declared.tag.Tag.{Tag}
use Rattle.buffer_common.specs.Tag.{tag_of_text}
use Rattle.buffer_tags.specs.declared.feature.Feature.{Feature}
use Rattle.std.proofs.lemmas.List.Folds.{length-prefix_len}
use Rattle.std.proofs.lemmas.Bool.{eqb-true, ltb-true, leb-true}
use Rattle.buffer_tags.specs.TextParser.{after_run, after_spaces, is_quote, is_tag_byte, tag_in, natural_in, integer_in, decimal_value, bool_of_word, bool_in}
use Rattle.buffer_tags.specs.FeatureText.{no_end, sign_in, quoted_tag_in, text_after, range_close, range_end, range_maybe_end, range_after_start, range_without_start, range_in_brackets, range_in, index_of_integer, setting_in, value_in, whole_request, feature_with_value, feature_with_range, feature_with_tag, feature_of}
use Rattle.buffer_tags.specs.FeatureGrammar.{IsSign, IsTagName, BeginsWithout, IsTagText, IsNumber, IsInteger, IsIndex, IsEnd, IsRange, IsSetting, IsValue, IsRequest, no_sign, plus_sign, minus_sign, bare, in_quotes, numbered, switched_on, switched_off, by_sign, plain, after_equal, natural, positive, negative, open_end, placed_end, no_range, every_index, single_index, up_to, from, from_to}
use Rattle.buffer_tags.proofs.Runs.{by_cases, list_all-run, run_and_rest, after_run-stops, after_run-none, list_all-whole}
use Rattle.std.specs.Option.{option_map}
use Rattle.buffer_tags.proofs.Options.{chained, mapped, chosen, pair_parts, some_parts, some_is}
use Rattle.buffer_facts.proofs.Truth.{both_true}

pub natural_read : (most : ℕ) (text : List ℕ) (value : ℕ) (rest : List ℕ)
    → natural_in most text ≡ Some (value, rest)
    → (digits : List ℕ) × IsNumber most digits × (value ≡ decimal_value digits) × (text ≡ digits ++ rest)
natural_read most text value rest h =
    let digits : List ℕ = take_while is_ascii_digit text in
    by_cases (nat_lt 0 (prefix_len is_ascii_digit text) && nat_le (decimal_value digits) most)
    (λ e.
    let found : Some (decimal_value digits, after_run is_ascii_digit text) ≡ Some (value, rest) = rw e at h in
    let parts = both_true (nat_lt 0 (prefix_len is_ascii_digit text)) (nat_le (decimal_value digits) most) e in
    let some : 0 < length digits = rw (length-prefix_len is_ascii_digit text) (ltb-true 0 (prefix_len is_ascii_digit text) parts.0) in
    let number : IsNumber most digits = record {
      some = some;
      bytes = list_all-run is_ascii_digit text;
      fits = leb-true (decimal_value digits) most parts.1;
    } in
    let equal = some_parts found in
    let rest_is : after_run is_ascii_digit text ≡ rest = equal.1 in
    let whole : text ≡ digits ++ after_run is_ascii_digit text = run_and_rest is_ascii_digit text in
    (digits, number, sym equal.0, rw rest_is at whole))
    (λ e. let none : None ≡ Some (value, rest) = rw e at h in cc)

-- the digits of a number, and what is after them
abbrev pub Digits : ℕ → List ℕ → ℕ × List ℕ → Type 0
Digits most text found = (digits : List ℕ) × IsNumber most digits × (found.0 ≡ decimal_value digits) × (text ≡ digits ++ found.1)

-- a number of a range, and the text after it
abbrev pub Integer : List ℕ → ℤ × List ℕ → Type 0
Integer text found = (number : List ℕ) × IsInteger number found.0 × (text ≡ number ++ found.1)

minus_read : (bytes : List ℕ) (digits : ℕ × List ℕ) (found : ℤ × List ℕ)
    → (neg_ℤ (pos digits.0), digits.1) ≡ found → Digits (2 ^ 31) bytes digits → Integer (45 ∷ bytes) found
minus_read bytes digits found e (text, number, value, whole) =
    let equal = pair_parts e in (
      45 ∷ text,
      negative text number refl (sym equal.0 ∙ ap (λ n. neg_ℤ (pos n)) value),
      ap (λ t. 45 ∷ t) (whole ∙ ap (λ t. text ++ t) equal.1),
    )

plus_read : (bytes : List ℕ) (digits : ℕ × List ℕ) (found : ℤ × List ℕ)
    → (pos digits.0, digits.1) ≡ found → Digits (2 ^ 31 - 1) bytes digits → Integer (43 ∷ bytes) found
plus_read bytes digits found e (text, number, value, whole) =
    let equal = pair_parts e in (
      43 ∷ text,
      positive text number refl (sym equal.0 ∙ ap (λ n. pos n) value),
      ap (λ t. 43 ∷ t) (whole ∙ ap (λ t. text ++ t) equal.1),
    )

unsigned_read : (bytes : List ℕ) (digits : ℕ × List ℕ) (found : ℤ × List ℕ)
    → (pos digits.0, digits.1) ≡ found → Digits (2 ^ 31 - 1) bytes digits → Integer bytes found
unsigned_read bytes digits found e (text, number, value, whole) =
    let equal = pair_parts e in
    (text, natural number (sym equal.0 ∙ ap (λ n. pos n) value), whole ∙ ap (λ t. text ++ t) equal.1)

minus_found : (bytes : List ℕ) (found : ℤ × List ℕ)
    → (digits : ℕ × List ℕ) × (natural_in (2 ^ 31) bytes ≡ Some digits) × ((neg_ℤ (pos digits.0), digits.1) ≡ found)
    → Integer (45 ∷ bytes) found
minus_found bytes found (digits, e, pair) = minus_read bytes digits found pair (natural_read (2 ^ 31) bytes digits.0 digits.1 e)

plus_found : (bytes : List ℕ) (found : ℤ × List ℕ)
    → (digits : ℕ × List ℕ) × (natural_in (2 ^ 31 - 1) bytes ≡ Some digits) × ((pos digits.0, digits.1) ≡ found)
    → Integer (43 ∷ bytes) found
plus_found bytes found (digits, e, pair) = plus_read bytes digits found pair (natural_read (2 ^ 31 - 1) bytes digits.0 digits.1 e)

unsigned_found : (bytes : List ℕ) (found : ℤ × List ℕ)
    → (digits : ℕ × List ℕ) × (natural_in (2 ^ 31 - 1) bytes ≡ Some digits) × ((pos digits.0, digits.1) ≡ found)
    → Integer bytes found
unsigned_found bytes found (digits, e, pair) = unsigned_read bytes digits found pair (natural_read (2 ^ 31 - 1) bytes digits.0 digits.1 e)

pub integer_read : (text : List ℕ) (found : ℤ × List ℕ) → integer_in text ≡ Some found → Integer text found
integer_read [] found h = cc
integer_read (byte ∷ bytes) found h =
    by_cases (byte == 45)
    (λ minus.
    let sign : byte ≡ 45 = eqb-true byte 45 minus in
    let f : ℕ × List ℕ → ℤ × List ℕ = λ digits. (neg_ℤ (pos digits.0), digits.1) in
    rw sign (minus_found bytes found (mapped f (natural_in (2 ^ 31) bytes) found (rw minus at h))))
    (λ unminus. by_cases (byte == 43)
    (λ plus.
    let sign : byte ≡ 43 = eqb-true byte 43 plus in
    let f : ℕ × List ℕ → ℤ × List ℕ = λ digits. (pos digits.0, digits.1) in
    rw sign (plus_found bytes found (mapped f (natural_in (2 ^ 31 - 1) bytes) found (rw (unminus, plus) at h))))
    (λ unplus.
    let f : ℕ × List ℕ → ℤ × List ℕ = λ digits. (pos digits.0, digits.1) in
    unsigned_found (byte ∷ bytes) found (mapped f (natural_in (2 ^ 31 - 1) (byte ∷ bytes)) found (rw (unminus, unplus) at h))))

pub after_read : (byte : ℕ) (text rest : List ℕ) → text_after byte text ≡ Some rest → text ≡ byte ∷ rest
after_read byte [] rest h = cc
after_read byte (first ∷ bytes) rest h =
    by_cases (first == byte)
    (λ e. let same : first ≡ byte = eqb-true first byte e in let found : Some bytes ≡ Some rest = rw e at h in cc)
    (λ e. let none : None ≡ Some rest = rw e at h in cc)

closed_parts : (start end : ℕ) (text : List ℕ) (found : (ℕ × ℕ) × List ℕ)
    → (left : List ℕ) × (text_after 93 text ≡ Some left) × (((start, end), left) ≡ found)
    → (found.0.0 ≡ start) × (found.0.1 ≡ end) × (text ≡ 93 ∷ found.1)
closed_parts start end text found (left, e, pair) =
    let equal = pair_parts pair in
    let ends = pair_parts equal.0 in
    (sym ends.0, sym ends.1, after_read 93 text left e ∙ ap (λ t. 93 ∷ t) equal.1)

pub closed_read : (start end : ℕ) (text : List ℕ) (found : (ℕ × ℕ) × List ℕ)
    → range_close start end text ≡ Some found
    → (found.0.0 ≡ start) × (found.0.1 ≡ end) × (text ≡ 93 ∷ found.1)
closed_read start end text found h =
    let f : List ℕ → (ℕ × ℕ) × List ℕ = λ left. ((start, end), left) in
    closed_parts start end text found (mapped f (text_after 93 text) found h)

pub index_moved : (text : List ℕ) (place other : ℕ) → other ≡ place → IsIndex text place → IsIndex text other
index_moved text place other e is_place = record { value = is_place.value; written = is_place.written; is = e ∙ is_place.is }

pub index_is : (text : List ℕ) (value : ℤ) → IsInteger text value → IsIndex text (index_of_integer value)
index_is text value written = record { value = value; written = written; is = refl }

-- a start, and the end of a range with the text after it
abbrev pub Placed : ℕ → List ℕ → (ℕ × ℕ) × List ℕ → Type 0
Placed start text found = (b : List ℕ) × IsIndex b found.0.1 × (found.0.0 ≡ start) × (text ≡ b ++ (93 ∷ found.1))

abbrev pub Ended : ℕ → List ℕ → (ℕ × ℕ) × List ℕ → Type 0
Ended start text found = (end : List ℕ) × IsEnd end found.0.1 × (found.0.0 ≡ start) × (text ≡ end ++ found.1)

placed_parts : (start : ℕ) (text : List ℕ) (found : (ℕ × ℕ) × List ℕ) (number : ℤ × List ℕ)
    → Integer text number
    → (found.0.0 ≡ start) × (found.0.1 ≡ index_of_integer number.0) × (number.1 ≡ 93 ∷ found.1)
    → Placed start text found
placed_parts start text found number (b, written, whole) (s, e, bracket) =
    (b, index_moved b (index_of_integer number.0) found.0.1 e (index_is b number.0 written), s, whole ∙ ap (λ t. b ++ t) bracket)

placed_found : (start : ℕ) (text : List ℕ) (found : (ℕ × ℕ) × List ℕ)
    → (number : ℤ × List ℕ) × (integer_in text ≡ Some number) × (range_close start (index_of_integer number.0) number.1 ≡ Some found)
    → Placed start text found
placed_found start text found (number, e, h) =
    placed_parts start text found number (integer_read text number e) (closed_read start (index_of_integer number.0) number.1 found h)

pub ended_read : (start : ℕ) (text : List ℕ) (found : (ℕ × ℕ) × List ℕ) → range_end start text ≡ Some found → Placed start text found
ended_read start text found h =
    let f : ℤ × List ℕ → Option ((ℕ × ℕ) × List ℕ) = λ number. range_close start (index_of_integer number.0) number.1 in
    placed_found start text found (chained f (integer_in text) found h)

ended_by : (start : ℕ) (text : List ℕ) (found : (ℕ × ℕ) × List ℕ) → Placed start text found → Ended start text found
ended_by start text found (b, place, s, whole) =
    (b ++ codes "]", placed_end b place refl, s, whole ∙ sym (append_assoc b (codes "]") found.1))

ended_open : (start : ℕ) (text : List ℕ) (found : (ℕ × ℕ) × List ℕ)
    → (found.0.0 ≡ start) × (found.0.1 ≡ no_end) × (text ≡ 93 ∷ found.1) → Ended start text found
ended_open start text found (s, e, bracket) = (codes "]", open_end refl e, s, bracket)

ended_either : (start : ℕ) (text : List ℕ) (found : (ℕ × ℕ) × List ℕ)
    → ((number : ℤ × List ℕ) × (integer_in text ≡ Some number) × (range_close start (index_of_integer number.0) number.1 ≡ Some found))
    ⊎ ((integer_in text ≡ None) × (range_close start no_end text ≡ Some found))
    → Ended start text found
ended_either start text found (inl placed) = ended_by start text found (placed_found start text found placed)
ended_either start text found (inr (none, h)) = ended_open start text found (closed_read start no_end text found h)

pub maybe_ended_read : (start : ℕ) (text : List ℕ) (found : (ℕ × ℕ) × List ℕ) → range_maybe_end start text ≡ Some found → Ended start text found
maybe_ended_read start text found h =
    let f : ℤ × List ℕ → Option ((ℕ × ℕ) × List ℕ) = λ number. range_close start (index_of_integer number.0) number.1 in
    ended_either start text found (chosen f (integer_in text) (range_close start no_end text) (Some found) h)

-- the rest of a range in brackets that begins so
abbrev pub Bracketed : List ℕ → List ℕ → (ℕ × ℕ) × List ℕ → Type 0
Bracketed front text found = (tail : List ℕ) × IsRange (91 ∷ (front ++ tail)) found.0.0 found.0.1 × (text ≡ tail ++ found.1)

one_place_read : (a : List ℕ) (start : ℕ) (rest : List ℕ) (found : (ℕ × ℕ) × List ℕ) → IsIndex a start
    → Some ((start, min (start + 1) no_end), rest) ≡ Some found → Bracketed a (93 ∷ rest) found
one_place_read a start rest found place h =
    let equal = some_parts h in
    let ends = pair_parts equal.0 in (
      codes "]",
      single_index a (index_moved a start found.0.0 (sym ends.0) place) refl (sym ends.1 ∙ ap (λ s. min (s + 1) no_end) ends.0),
      ap (λ t. 93 ∷ t) equal.1,
    )

from_read : (a : List ℕ) (start : ℕ) (rest : List ℕ) (found : (ℕ × ℕ) × List ℕ) → IsIndex a start
    → Ended start rest found → Bracketed a (58 ∷ rest) found
from_read a start rest found place (end, is_end, s, whole) =
    (58 ∷ end, from a end (index_moved a start found.0.0 s place) is_end refl, ap (λ t. 58 ∷ t) whole)

from_to_read : (a : List ℕ) (start : ℕ) (rest : List ℕ) (found : (ℕ × ℕ) × List ℕ) → IsIndex a start
    → Placed start rest found → Bracketed a (59 ∷ rest) found
from_to_read a start rest found place (b, is_place, s, whole) = (
  59 ∷ (b ++ codes "]"),
  from_to a b (index_moved a start found.0.0 s place) is_place refl,
  ap (λ t. 59 ∷ t) (whole ∙ sym (append_assoc b (codes "]") found.1)),
)

pub started_read : (a : List ℕ) (start : ℕ) (text : List ℕ) (found : (ℕ × ℕ) × List ℕ) → IsIndex a start
    → range_after_start start text ≡ Some found → Bracketed a text found
started_read a start [] found place h = cc
started_read a start (byte ∷ rest) found place h =
    by_cases (byte == 93)
    (λ e. let is : byte ≡ 93 = eqb-true byte 93 e in rw is (one_place_read a start rest found place (rw e at h)))
    (λ e. by_cases (byte == 58)
    (λ d. let is : byte ≡ 58 = eqb-true byte 58 d in rw is (from_read a start rest found place (maybe_ended_read start rest found (rw (e, d) at h))))
    (λ d. by_cases (byte == 59)
    (λ c. let is : byte ≡ 59 = eqb-true byte 59 c in rw is (from_to_read a start rest found place (ended_read start rest found (rw (e, d, c) at h))))
    (λ c. let none : None ≡ Some found = rw (e, d, c) at h in cc)))

every_place_read : (rest : List ℕ) (found : (ℕ × ℕ) × List ℕ) → Some ((0, no_end), rest) ≡ Some found → Bracketed [] (93 ∷ rest) found
every_place_read rest found h =
    let equal = some_parts h in
    let ends = pair_parts equal.0 in
    (codes "]", every_index refl (sym ends.0) (sym ends.1), ap (λ t. 93 ∷ t) equal.1)

up_to_read : (rest : List ℕ) (found : (ℕ × ℕ) × List ℕ) → Ended 0 rest found → Bracketed [] (58 ∷ rest) found
up_to_read rest found (end, is_end, s, whole) = (58 ∷ end, up_to end is_end refl s, ap (λ t. 58 ∷ t) whole)

pub unstarted_read : (text : List ℕ) (found : (ℕ × ℕ) × List ℕ) → range_without_start text ≡ Some found → Bracketed [] text found
unstarted_read [] found h = cc
unstarted_read (byte ∷ rest) found h =
    by_cases (byte == 93)
    (λ e. let is : byte ≡ 93 = eqb-true byte 93 e in rw is (every_place_read rest found (rw e at h)))
    (λ e. by_cases (byte == 58)
    (λ d. let is : byte ≡ 58 = eqb-true byte 58 d in rw is (up_to_read rest found (maybe_ended_read 0 rest found (rw (e, d) at h))))
    (λ d. let none : None ≡ Some found = rw (e, d) at h in cc))

bracket_started : (text : List ℕ) (found : (ℕ × ℕ) × List ℕ) (a rest : List ℕ) → text ≡ a ++ rest → Bracketed a rest found → Bracketed [] text found
bracket_started text found a rest whole (tail, range, more) =
    (a ++ tail, range, whole ∙ ap (λ t. a ++ t) more ∙ sym (append_assoc a tail found.1))

bracket_number : (text : List ℕ) (found : (ℕ × ℕ) × List ℕ) (number : ℤ × List ℕ)
    → range_after_start (index_of_integer number.0) number.1 ≡ Some found → Integer text number → Bracketed [] text found
bracket_number text found number h (a, written, whole) =
    bracket_started text found a number.1 whole (started_read a (index_of_integer number.0) number.1 found (index_is a number.0 written) h)

bracket_either : (text : List ℕ) (found : (ℕ × ℕ) × List ℕ)
    → ((number : ℤ × List ℕ) × (integer_in text ≡ Some number) × (range_after_start (index_of_integer number.0) number.1 ≡ Some found))
    ⊎ ((integer_in text ≡ None) × (range_without_start text ≡ Some found))
    → Bracketed [] text found
bracket_either text found (inl (number, e, h)) = bracket_number text found number h (integer_read text number e)
bracket_either text found (inr (none, h)) = unstarted_read text found h

pub bracketed_read : (text : List ℕ) (found : (ℕ × ℕ) × List ℕ) → range_in_brackets text ≡ Some found → Bracketed [] text found
bracketed_read text found h =
    let f : ℤ × List ℕ → Option ((ℕ × ℕ) × List ℕ) = λ number. range_after_start (index_of_integer number.0) number.1 in
    bracket_either text found (chosen f (integer_in text) (range_without_start text) (Some found) h)

-- a range and the text after it
abbrev pub Ranged : List ℕ → (ℕ × ℕ) × List ℕ → Type 0
Ranged text found = (range : List ℕ) × IsRange range found.0.0 found.0.1 × (text ≡ range ++ found.1)

range_bracketed : (rest : List ℕ) (found : (ℕ × ℕ) × List ℕ) → Bracketed [] rest found → Ranged (91 ∷ rest) found
range_bracketed rest found (tail, range, whole) = (91 ∷ tail, range, ap (λ t. 91 ∷ t) whole)

no_range_read : (text : List ℕ) (found : (ℕ × ℕ) × List ℕ) → Some ((0, no_end), text) ≡ Some found → Ranged text found
no_range_read text found h =
    let equal = some_parts h in
    let ends = pair_parts equal.0 in
    ([], no_range refl (sym ends.0) (sym ends.1), equal.1)

pub range_read : (text : List ℕ) (found : (ℕ × ℕ) × List ℕ) → range_in text ≡ Some found → Ranged text found
range_read [] found h = no_range_read [] found h
range_read (byte ∷ rest) found h =
    by_cases (byte == 91)
    (λ e. let is : byte ≡ 91 = eqb-true byte 91 e in rw is (range_bracketed rest found (bracketed_read rest found (rw e at h))))
    (λ e. no_range_read (byte ∷ rest) found (rw e at h))

-- a name and the text after it
abbrev pub Named : List ℕ → Tag × List ℕ → Type 0
Named text found =
    (name : List ℕ) × IsTagName name × (found.0 ≡ tag_of_text name) × (text ≡ name ++ found.1) × BeginsWithout is_tag_byte found.1

pub tag_read : (text : List ℕ) (found : Tag × List ℕ) → tag_in text ≡ Some found → Named text found
tag_read text found h =
    let name : List ℕ = take_while is_tag_byte text in
    by_cases (nat_lt 0 (prefix_len is_tag_byte text) && nat_le (prefix_len is_tag_byte text) 4)
    (λ e.
    let equal = some_parts (rw e at h) in
    let parts = both_true (nat_lt 0 (prefix_len is_tag_byte text)) (nat_le (prefix_len is_tag_byte text) 4) e in
    let is_name : IsTagName name = record {
      some = rw (length-prefix_len is_tag_byte text) (ltb-true 0 (prefix_len is_tag_byte text) parts.0);
      at_most_four = rw (length-prefix_len is_tag_byte text) (leb-true (prefix_len is_tag_byte text) 4 parts.1);
      bytes = list_all-run is_tag_byte text;
    } in
    let rest_is : after_run is_tag_byte text ≡ found.1 = equal.1 in
    let whole : text ≡ name ++ after_run is_tag_byte text = run_and_rest is_tag_byte text in
    let stops : BeginsWithout is_tag_byte (after_run is_tag_byte text) = after_run-stops is_tag_byte text in
    (name, is_name, sym equal.0, rw rest_is at whole, rw rest_is at stops))
    (λ e. let none : None ≡ Some found = rw e at h in cc)

-- a tag, bare or in quotes, and the text after it
abbrev pub Tagged : List ℕ → Tag × List ℕ → Type 0
Tagged text found = (tag : List ℕ) × IsTagText tag found.0 found.1 × (text ≡ tag ++ found.1)

bare_read : (text : List ℕ) (found : Tag × List ℕ) → Named text found → Tagged text found
bare_read text found (name, is_name, tag, whole, stops) = (name, bare is_name stops tag, whole)

quoted_parts : (quote : ℕ) (rest : List ℕ) (found inner : Tag × List ℕ) (left : List ℕ) → is_quote quote ≡ true
    → (inner.0, left) ≡ found → inner.1 ≡ quote ∷ left → Named rest inner → Tagged (quote ∷ rest) found
quoted_parts quote rest found inner left is pair close (name, is_name, tag, whole, stops) =
    let equal = pair_parts pair in (
      quote ∷ (name ++ (quote ∷ [])),
      in_quotes quote name is is_name refl (sym equal.0 ∙ tag),
      ap (λ t. quote ∷ t) (whole ∙ ap (λ t. name ++ t) (close ∙ ap (λ t. quote ∷ t) equal.1) ∙ sym (append_assoc name (quote ∷ []) found.1)),
    )

quoted_closed : (quote : ℕ) (rest : List ℕ) (found inner : Tag × List ℕ) → is_quote quote ≡ true → tag_in rest ≡ Some inner
    → (left : List ℕ) × (text_after quote inner.1 ≡ Some left) × ((inner.0, left) ≡ found) → Tagged (quote ∷ rest) found
quoted_closed quote rest found inner is e (left, close, pair) =
    quoted_parts quote rest found inner left is pair (after_read quote inner.1 left close) (tag_read rest inner e)

quoted_chain : (quote : ℕ) (rest : List ℕ) (found : Tag × List ℕ) → is_quote quote ≡ true
    → (inner : Tag × List ℕ) × (tag_in rest ≡ Some inner) × (option_map (λ left. (inner.0, left)) (text_after quote inner.1) ≡ Some found)
    → Tagged (quote ∷ rest) found
quoted_chain quote rest found is (inner, e, h) =
    let f : List ℕ → Tag × List ℕ = λ left. (inner.0, left) in
    quoted_closed quote rest found inner is e (mapped f (text_after quote inner.1) found h)

pub quoted_tag_read : (text : List ℕ) (found : Tag × List ℕ) → quoted_tag_in text ≡ Some found → Tagged text found
quoted_tag_read [] found h = cc
quoted_tag_read (first ∷ rest) found h =
    by_cases (is_quote first)
    (λ e.
    let f : Tag × List ℕ → Option (Tag × List ℕ) = λ inner. option_map (λ left. (inner.0, left)) (text_after first inner.1) in
    quoted_chain first rest found e (chained f (tag_in rest) found (rw e at h)))
    (λ e. bare_read (first ∷ rest) found (tag_read (first ∷ rest) found (rw e at h)))

-- a sign and the text after it
abbrev pub Signed : List ℕ → ℕ × List ℕ → Type 0
Signed text found = (sign : List ℕ) × IsSign sign found.0 × (text ≡ sign ++ found.1)

pub sign_read : (text : List ℕ) → Signed text (sign_in text)
sign_read [] = ([], no_sign refl refl, refl)
sign_read (byte ∷ rest) =
    by_cases (byte == 45)
    (λ e. let is : byte ≡ 45 = eqb-true byte 45 e in rw e (codes "-", minus_sign refl refl, ap (λ c. c ∷ rest) is))
    (λ e. by_cases (byte == 43)
    (λ d. let is : byte ≡ 43 = eqb-true byte 43 d in rw (e, d) (codes "+", plus_sign refl refl, ap (λ c. c ∷ rest) is))
    (λ d. rw (e, d) ([], no_sign refl refl, refl)))

-- a setting and the text after it
abbrev pub Set : List ℕ → ℕ × List ℕ → Type 0
Set text found = (setting : List ℕ) × IsSetting setting found.0 × (text ≡ setting ++ found.1)

number_read : (text : List ℕ) (inner found : ℕ × List ℕ) → Some inner ≡ Some found → Digits no_end text inner → Set text found
number_read text inner found h (digits, is_number, value, whole) =
    let equal = some_parts h in
    (digits, numbered is_number (sym equal.0 ∙ value), whole ∙ ap (λ t. digits ++ t) equal.1)

word_value : (word : List ℕ) (value : Bool) → bool_of_word word ≡ Some value → IsSetting word (cond value 1 0)
word_value word value h =
    by_cases (bytes_eq (map to_ascii_lowercase word) (codes "on"))
    (λ e.
    let on : Some true ≡ Some value = rw e at h in
    let is : true ≡ value = cc in
    switched_on (same_text (map to_ascii_lowercase word) (codes "on") (sym e)) (rw (← is) refl))
    (λ e. by_cases (bytes_eq (map to_ascii_lowercase word) (codes "off"))
    (λ d.
    let off : Some false ≡ Some value = rw (e, d) at h in
    let is : false ≡ value = cc in
    switched_off (same_text (map to_ascii_lowercase word) (codes "off") (sym d)) (rw (← is) refl))
    (λ d. let none : None ≡ Some value = rw (e, d) at h in cc))

-- a word and the text after it
abbrev pub Switched : List ℕ → Bool × List ℕ → Type 0
Switched text found = (word : List ℕ) × IsSetting word (cond found.0 1 0) × (text ≡ word ++ found.1)

word_parts : (text : List ℕ) (found : Bool × List ℕ)
    → (value : Bool) × (bool_of_word (take_while is_ascii_alphabetic text) ≡ Some value) × ((value, after_run is_ascii_alphabetic text) ≡ found)
    → Switched text found
word_parts text found (value, e, pair) =
    let equal = pair_parts pair in
    let first : value ≡ found.0 = equal.0 in
    let is : IsSetting (take_while is_ascii_alphabetic text) (cond value 1 0) = word_value (take_while is_ascii_alphabetic text) value e in
    let rest_is : after_run is_ascii_alphabetic text ≡ found.1 = equal.1 in
    let whole : text ≡ take_while is_ascii_alphabetic text ++ after_run is_ascii_alphabetic text = run_and_rest is_ascii_alphabetic text in
    (take_while is_ascii_alphabetic text, rw first at is, rw rest_is at whole)

bool_read : (text : List ℕ) (found : Bool × List ℕ) → BeginsWithout is_ascii_whitespace text → bool_in text ≡ Some found → Switched text found
bool_read text found starts h =
    let same : after_spaces text ≡ text = after_run-none is_ascii_whitespace text starts in
    let f : Bool → Bool × List ℕ = λ value. (value, after_run is_ascii_alphabetic text) in
    word_parts text found (mapped f (bool_of_word (take_while is_ascii_alphabetic text)) found (rw same at h))

switch_read : (text : List ℕ) (found : ℕ × List ℕ) (inner : Bool × List ℕ) → (cond inner.0 1 0, inner.1) ≡ found → Switched text inner → Set text found
switch_read text found inner pair (word, is, whole) =
    let equal = pair_parts pair in
    let value : cond inner.0 1 0 ≡ found.0 = equal.0 in
    (word, rw value at is, whole ∙ ap (λ t. word ++ t) equal.1)

switch_found : (text : List ℕ) (found : ℕ × List ℕ) → BeginsWithout is_ascii_whitespace text
    → (inner : Bool × List ℕ) × (bool_in text ≡ Some inner) × ((cond inner.0 1 0, inner.1) ≡ found) → Set text found
switch_found text found starts (inner, e, pair) = switch_read text found inner pair (bool_read text inner starts e)

setting_either : (text : List ℕ) (found : ℕ × List ℕ) → BeginsWithout is_ascii_whitespace text
    → ((inner : ℕ × List ℕ) × (natural_in no_end text ≡ Some inner) × (Some inner ≡ Some found))
    ⊎ ((natural_in no_end text ≡ None) × (option_map (λ inner. (cond inner.0 1 0, inner.1)) (bool_in text) ≡ Some found))
    → Set text found
setting_either text found starts (inl (inner, e, h)) = number_read text inner found h (natural_read no_end text inner.0 inner.1 e)
setting_either text found starts (inr (none, h)) =
    let f : Bool × List ℕ → ℕ × List ℕ = λ inner. (cond inner.0 1 0, inner.1) in
    switch_found text found starts (mapped f (bool_in text) found h)

pub setting_read : (text : List ℕ) (found : ℕ × List ℕ) → BeginsWithout is_ascii_whitespace text → setting_in text ≡ Some found → Set text found
setting_read text found starts h =
    let f : ℕ × List ℕ → Option (ℕ × List ℕ) = λ inner. Some inner in
    setting_either text found starts
    (chosen f (natural_in no_end text) (option_map (λ inner. (cond inner.0 1 0, inner.1)) (bool_in text)) (Some found) h)

-- a value and the text after it
abbrev pub Valued : ℕ → List ℕ → ℕ × List ℕ → Type 0
Valued default text found = (value : List ℕ) × IsValue default value found.0 × (text ≡ value ++ found.1)

by_sign_read : (default : ℕ) (text : List ℕ) (found : ℕ × List ℕ) → Some (default, text) ≡ Some found → Valued default text found
by_sign_read default text found h = let equal = some_parts h in ([], by_sign refl (sym equal.0), equal.1)

after_equal_read : (default : ℕ) (rest : List ℕ) (found : ℕ × List ℕ) → Set (after_spaces rest) found → Valued default (61 ∷ rest) found
after_equal_read default rest found (setting, is, whole) =
    let spaces : List ℕ = take_while is_ascii_whitespace rest in (
      61 ∷ (spaces ++ setting),
      after_equal spaces setting (list_all-run is_ascii_whitespace rest) is refl,
      ap (λ t. 61 ∷ t) (run_and_rest is_ascii_whitespace rest ∙ ap (λ t. spaces ++ t) whole ∙ sym (append_assoc spaces setting found.1)),
    )

plain_read : (default : ℕ) (text : List ℕ) (inner found : ℕ × List ℕ) → Some inner ≡ Some found → Set text inner → Valued default text found
plain_read default text inner found h (setting, is, whole) =
    let equal = some_parts h in
    let value : inner.0 ≡ found.0 = equal.0 in
    (setting, plain (rw value at is), whole ∙ ap (λ t. setting ++ t) equal.1)

value_either : (default : ℕ) (text : List ℕ) (found : ℕ × List ℕ) → BeginsWithout is_ascii_whitespace text
    → ((inner : ℕ × List ℕ) × (setting_in text ≡ Some inner) × (Some inner ≡ Some found))
    ⊎ ((setting_in text ≡ None) × (Some (default, text) ≡ Some found))
    → Valued default text found
value_either default text found starts (inl (inner, e, h)) = plain_read default text inner found h (setting_read text inner starts e)
value_either default text found starts (inr (none, h)) = by_sign_read default text found h

pub value_read : (default : ℕ) (text : List ℕ) (found : ℕ × List ℕ) → BeginsWithout is_ascii_whitespace text
    → value_in default text ≡ Some found → Valued default text found
value_read default [] found starts h = by_sign_read default [] found h
value_read default (byte ∷ rest) found starts h =
    by_cases (byte == 61)
    (λ e.
    let is : byte ≡ 61 = eqb-true byte 61 e in
    let after : BeginsWithout is_ascii_whitespace (after_spaces rest) = after_run-stops is_ascii_whitespace rest in
    rw is (after_equal_read default rest found (setting_read (after_spaces rest) found after (rw e at h))))
    (λ e.
    let f : ℕ × List ℕ → Option (ℕ × List ℕ) = λ inner. Some inner in
    value_either default (byte ∷ rest) found starts
    (chosen f (setting_in (byte ∷ rest)) (Some (default, byte ∷ rest)) (Some found) (rw e at h)))

whole_read : (tag : Tag) (range : ℕ × ℕ) (found : ℕ × List ℕ) (feature : Feature) → whole_request tag range found ≡ Some feature
    → (found.1 ≡ []) × (tag ≡ feature.tag) × (found.0 ≡ feature.value) × (range.0 ≡ feature.start) × (range.1 ≡ feature.end)
whole_read tag range (value, []) feature h =
    let is = some_is h in
    (refl, ap (λ (f : Feature). f.tag) is, ap (λ (f : Feature). f.value) is, ap (λ (f : Feature). f.start) is, ap (λ (f : Feature). f.end) is)
whole_read tag range (value, (byte ∷ rest)) feature h = cc

request_built : (text : List ℕ) (feature : Feature) (signed : ℕ × List ℕ) (feature_with_tag : Tag × List ℕ) (feature_with_range : (ℕ × ℕ) × List ℕ) (feature_with_value : ℕ × List ℕ)
    → Signed (after_spaces text) signed → Tagged (after_spaces signed.1) feature_with_tag → Ranged (after_spaces feature_with_tag.1) feature_with_range
    → Valued signed.0 (after_spaces feature_with_range.1) feature_with_value
    → (after_spaces feature_with_value.1 ≡ []) × (feature_with_tag.0 ≡ feature.tag) × (feature_with_value.0 ≡ feature.value) × (feature_with_range.0.0 ≡ feature.start) × (feature_with_range.0.1 ≡ feature.end)
    → IsRequest text feature
request_built text feature (default, text1) (tag, text3) ((start, end), text5) (value, text7)
    (sign_text, is_sign, sign_whole) (tag_text, is_tag, tag_whole) (range_text, is_range, range_whole) (value_text, is_value, value_whole)
    (none, tag_is, value_is, start_is, end_is) =
    let space : ℕ → Bool = is_ascii_whitespace in
    let after_tag : text3 ≡ take_while space text3 ++ (range_text ++ (take_while space text5 ++ (value_text ++ text7))) =
    run_and_rest space text3 ∙ ap (λ t. take_while space text3 ++ t) (range_whole
    ∙ ap (λ t. range_text ++ t) (run_and_rest space text5 ∙ ap (λ t. take_while space text5 ++ t) value_whole)) in
    let P : Tag → Type 0 = λ t. IsTagText tag_text t (take_while space text3 ++ (range_text ++ (take_while space text5 ++ (value_text ++ text7)))) in
    let Q : List ℕ → Type 0 = λ t. IsTagText tag_text tag t in
    let R : ℕ → Type 0 = λ s. IsRange range_text s end in
    let S : ℕ → Type 0 = λ e. IsRange range_text feature.start e in
    let V : ℕ → Type 0 = λ v. IsValue default value_text v in
    record {
      default = default;
      before = take_while space text;
      sign = sign_text;
      after_sign = take_while space text1;
      tag = tag_text;
      after_tag = take_while space text3;
      range = range_text;
      after_range = take_while space text5;
      value = value_text;
      after = text7;
      is = run_and_rest space text ∙ ap (λ t. take_while space text ++ t) (sign_whole
          ∙ ap (λ t. sign_text ++ t) (run_and_rest space text1
          ∙ ap (λ t. take_while space text1 ++ t) (tag_whole ∙ ap (λ t. tag_text ++ t) after_tag)));
      spaces = (list_all-run space text, list_all-run space text1, list_all-run space text3, list_all-run space text5, list_all-whole space text7 none);
      sign_is = is_sign;
      tag_is = subst P tag_is (subst Q after_tag is_tag);
      range_is = subst S end_is (subst R start_is is_range);
      value_is = subst V value_is is_value;
    }

valued_found : (text : List ℕ) (feature : Feature) (signed : ℕ × List ℕ) (feature_with_tag : Tag × List ℕ) (feature_with_range : (ℕ × ℕ) × List ℕ)
    → Signed (after_spaces text) signed → Tagged (after_spaces signed.1) feature_with_tag → Ranged (after_spaces feature_with_tag.1) feature_with_range
    → (found : ℕ × List ℕ) × (value_in signed.0 (after_spaces feature_with_range.1) ≡ Some found) × (feature_with_value feature_with_tag.0 feature_with_range.0 found ≡ Some feature)
    → IsRequest text feature
valued_found text feature signed feature_with_tag feature_with_range is_signed is_tagged is_ranged (found, e, h) =
    request_built text feature signed feature_with_tag feature_with_range found is_signed is_tagged is_ranged
    (value_read signed.0 (after_spaces feature_with_range.1) found (after_run-stops is_ascii_whitespace feature_with_range.1) e)
    (whole_read feature_with_tag.0 feature_with_range.0 (found.0, after_spaces found.1) feature h)

ranged_found : (text : List ℕ) (feature : Feature) (signed : ℕ × List ℕ) (feature_with_tag : Tag × List ℕ)
    → Signed (after_spaces text) signed → Tagged (after_spaces signed.1) feature_with_tag
    → (found : (ℕ × ℕ) × List ℕ) × (range_in (after_spaces feature_with_tag.1) ≡ Some found) × (feature_with_range feature_with_tag.0 signed.0 found ≡ Some feature)
    → IsRequest text feature
ranged_found text feature signed feature_with_tag is_signed is_tagged (found, e, h) =
    valued_found text feature signed feature_with_tag found is_signed is_tagged (range_read (after_spaces feature_with_tag.1) found e)
    (chained (feature_with_value feature_with_tag.0 found.0) (value_in signed.0 (after_spaces found.1)) feature h)

tagged_found : (text : List ℕ) (feature : Feature) (signed : ℕ × List ℕ)
    → Signed (after_spaces text) signed
    → (found : Tag × List ℕ) × (quoted_tag_in (after_spaces signed.1) ≡ Some found) × (feature_with_tag signed.0 found ≡ Some feature)
    → IsRequest text feature
tagged_found text feature signed is_signed (found, e, h) =
    ranged_found text feature signed found is_signed (quoted_tag_read (after_spaces signed.1) found e)
    (chained (feature_with_range found.0 signed.0) (range_in (after_spaces found.1)) feature h)

pub request_read : (text : List ℕ) (feature : Feature) → feature_of text ≡ Some feature → IsRequest text feature
request_read text feature h =
    let signed : ℕ × List ℕ = sign_in (after_spaces text) in
    tagged_found text feature signed (sign_read (after_spaces text))
    (chained (feature_with_tag signed.0) (quoted_tag_in (after_spaces signed.1)) feature h)
