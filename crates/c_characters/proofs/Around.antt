-- The characters around a text that count.
use Rattle.std.proofs.Common.{ℕ, zero, suc, ◌≡◌, ◌≢◌, ◌≤◌, ◌<◌, ◌+◌, ◌-◌, ◌++◌, true, List, [], ◌∷◌, drop, length, map, reverse, take, refl, sym, arith, ap, ◌∙◌, ◌⊎◌, inl, inr}
use Rattle.std.specs.Prelude.{encode_utf8}
use Rattle.std.specs.Str.{chars, IsUtf8}
use lib.Utf8.{scalar}
use Rattle.std.proofs.lemmas.Bool.{cases_lt}
use Rattle.std.proofs.lemmas.List.{append-nil, append_assoc, drop-map, length-drop, length-map, length-reverse, reverse-append, take-append-drop, take-append-le, take-take, take_all}
use Rattle.std.proofs.Math.Seq.{take-nil}
use Rattle.std.proofs.lemmas.Str.{chars-append, chars-nil, chars_past_char, IsUtf8-encode}
use Rattle.c_characters.specs.Characters.{TextCharacter}

-- ---- counted and skipped

pub count_step : (whole n : ℕ) (c : TextCharacter) (cs rest : List TextCharacter) → n + length cs ≡ whole → cs ≡ c ∷ rest → (n + 1) + length rest ≡ whole
count_step whole n c cs rest before first = let one = ap length first in omega (arith, one, before)

pub count_end : (whole n : ℕ) (cs : List TextCharacter) → n + length cs ≡ whole → cs ≡ [] → n ≡ whole
count_end whole n cs before none = let empty = ap length none in omega (arith, empty, before)

pub skip_step : (whole cs rest : List TextCharacter) (n : ℕ) (c : TextCharacter) → drop n cs ≡ whole → cs ≡ c ∷ rest → n ≢ 0 → drop (n - 1) rest ≡ whole
skip_step whole cs rest zero c before first some = absurd (some refl)
skip_step whole cs rest (suc n) c before first some = let less : suc n - 1 ≡ n = omega arith in ap (λ k. drop k rest) less ∙ ap (drop (suc n)) (sym first) ∙ before

pub skip_all : (whole cs : List TextCharacter) (n : ℕ) → drop n cs ≡ whole → n ≡ 0 → cs ≡ whole
skip_all whole cs n before none = ap (λ k. drop k cs) (sym none) ∙ before

pub skip_end : (whole cs : List TextCharacter) (n : ℕ) → drop n cs ≡ whole → cs ≡ [] → cs ≡ whole
skip_end whole cs zero before none = before
skip_end whole cs (suc n) before none = none ∙ sym (ap (drop (suc n)) none) ∙ before

-- ---- characters as UTF-8

chars_pushed : (xs : List ℕ) (c : ℕ) → IsUtf8 xs → scalar c ≡ true → chars (xs ++ encode_utf8 c) ≡ chars xs ++ c ∷ []
chars_pushed xs c utf8 is =
    chars-append xs (encode_utf8 c) utf8
    ∙ ap (λ l. chars xs ++ l) (chars_past_char (encode_utf8 c) [] c (IsUtf8-encode c is) (sym (append-nil (encode_utf8 c))) ∙ ap (λ l. c ∷ l) chars-nil)

pub push_step : (whole xs ys : List ℕ) (n c k : ℕ) (cs rest : List TextCharacter) → chars xs ++ take n (map (λ x. x.character) cs) ≡ whole → cs ≡ (record { character = c; cluster = k }) ∷ rest
    → n ≢ 0 → IsUtf8 xs → scalar c ≡ true → ys ≡ xs ++ encode_utf8 c → chars ys ++ take (n - 1) (map (λ x. x.character) rest) ≡ whole
push_step whole xs ys zero c k cs rest before first some utf8 is pushed = absurd (some refl)
push_step whole xs ys (suc n) c k cs rest before first some utf8 is pushed =
    let less : suc n - 1 ≡ n = omega arith in
    ap (λ m. chars ys ++ take m (map (λ x. x.character) rest)) less
    ∙ ap (λ l. l ++ take n (map (λ x. x.character) rest)) (ap chars pushed ∙ chars_pushed xs c utf8 is)
    ∙ append_assoc (chars xs) (c ∷ []) (take n (map (λ x. x.character) rest))
    ∙ sym (ap (λ l. chars xs ++ take (suc n) (map (λ x. x.character) l)) first) ∙ before

-- nothing is pushed yet
pub pushed_none : (xs whole : List ℕ) → xs ≡ [] → chars xs ++ whole ≡ whole
pushed_none xs whole none = ap (λ l. chars l ++ whole) none ∙ ap (λ l. l ++ whole) chars-nil

pub pushed_all : (whole xs : List ℕ) (n : ℕ) (cs : List TextCharacter) → chars xs ++ take n (map (λ x. x.character) cs) ≡ whole → n ≡ 0 → chars xs ≡ whole
pushed_all whole xs n cs before none = sym (append-nil (chars xs)) ∙ ap (λ m. chars xs ++ take m (map (λ x. x.character) cs)) (sym none) ∙ before

pub pushed_end : (whole xs : List ℕ) (n : ℕ) (cs : List TextCharacter) → chars xs ++ take n (map (λ x. x.character) cs) ≡ whole → cs ≡ [] → chars xs ≡ whole
pushed_end whole xs n cs before none =
    sym (append-nil (chars xs)) ∙ ap (λ l. chars xs ++ l) (sym (take-nil n)) ∙ ap (λ l. chars xs ++ take n (map (λ x. x.character) l)) (sym none) ∙ before

-- ---- five characters

-- the first five of the first five are the first five
pub first_of : (xs all : List ℕ) → xs ≡ take 5 all → take 5 xs ≡ take 5 all
first_of xs all same = ap (take 5) same ∙ take-take 5 5 all (omega arith)

-- where a list is cut before its last five items, these are the last five of the whole list
cut : (l : List ℕ) (k : ℕ) → length l ≡ k + 5 → take 5 (reverse (drop k l)) ≡ take 5 (reverse l)
cut l k long =
    let five : length (reverse (drop k l)) ≡ 5 = length-reverse (drop k l) ∙ length-drop k l ∙ omega (arith, long) in
    sym (ap (λ x. take 5 (reverse x)) (sym (take-append-drop k l)) ∙ ap (take 5) (reverse-append (take k l) (drop k l)) ∙ take-append-le 5 (reverse (drop k l)) (reverse (take k l)) (omega (arith, five)))

last_by : (l : List ℕ) (n k : ℕ) → k ≡ n - 5 → n ≡ length l → (n < 5) ⊎ (5 ≤ n) → take 5 (reverse (drop k l)) ≡ take 5 (reverse l)
last_by l n k is count (inl few) = let none : k ≡ 0 = omega (arith, is, few) in ap (λ m. take 5 (reverse (drop m l))) none
last_by l n k is count (inr many) = cut l k (omega (arith, is, count, many))

short : (l : List ℕ) (n k : ℕ) → k ≡ n - 5 → n ≡ length l → take 5 (drop k l) ≡ drop k l
short l n k is count = take_all 5 (drop k l) (let left : length (drop k l) ≡ length l - k = length-drop k l in omega (arith, left, is, count))

-- the last five characters of the last five are the last five
pub last_of : (xs : List ℕ) (cs left : List TextCharacter) (n k : ℕ) → xs ≡ take 5 (map (λ x. x.character) left) → left ≡ drop k cs → k ≡ n - 5 → n ≡ length cs
    → take 5 (reverse xs) ≡ take 5 (reverse (map (λ x. x.character) cs))
last_of xs cs left n k same rest is count =
    let all = map (λ (x : TextCharacter). x.character) cs in
    let many : n ≡ length all = count ∙ sym (length-map cs (λ (x : TextCharacter). x.character)) in
    let own : xs ≡ drop k all = same ∙ ap (λ l. take 5 (map (λ (x : TextCharacter). x.character) l)) rest ∙ ap (take 5) (sym (drop-map (λ (x : TextCharacter). x.character) k cs)) ∙ short all n k is many in
    ap (λ l. take 5 (reverse l)) own ∙ last_by all n k is many (cases_lt n 5)
