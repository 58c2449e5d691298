-- The first and the last characters of a text.
use Rattle.std.proofs.Common.{ℕ, ◌≡◌, ◌≤◌, ◌+◌, get_or, List, [], ◌∷◌, ◌++◌, length, take, reverse, refl, ap, sym, arith, append-nil, length-append, ◌∙◌}
use Rattle.std.specs.Prelude.{encode_utf8}
use Rattle.std.specs.Char.{IsScalar}
use Rattle.std.specs.Str.{chars, IsUtf8, IsCharBoundary}
use Rattle.std.proofs.lemmas.Str.{chars-nil, chars_past_char, chars-append, IsUtf8-past_char, IsUtf8-take, IsUtf8-encode, IsCharBoundary-start}
use Rattle.std.proofs.lemmas.List.{reverse-append, take_at, take_all, get_or-append-add}

empty : (bs : List ℕ) → length bs ≡ 0 → bs ≡ []
empty [] e = refl
empty (b ∷ bs) e = cc

pub first_none : (bs : List ℕ) → length bs ≡ 0 → chars bs ≡ []
first_none bs e = ap chars (empty bs e) ∙ chars-nil

pub last_none : (bs : List ℕ) → length bs ≡ 0 → reverse (chars bs) ≡ []
last_none bs e = ap reverse (first_none bs e)

pub first_step : (bs rest : List ℕ) (c : ℕ) → IsUtf8 bs → bs ≡ encode_utf8 c ++ rest → chars bs ≡ c ∷ chars rest
first_step bs rest c u e = chars_past_char bs rest c u e

-- the last character begins where the text may be cut
cut_there : (rest end : List ℕ) → IsCharBoundary end 0 → IsCharBoundary (rest ++ end) (length rest)
cut_there rest end b =
    let long = length-append rest end in
    let same : length rest ≡ length rest + 0 = omega arith in
    let there : get_or (rest ++ end) (length rest) 0 ≡ get_or end 0 0 = ap (λ n. get_or (rest ++ end) n 0) same ∙ get_or-append-add rest end 0 0 in
    (omega (arith, long), λ lt high. rw there (b.1 (omega (arith, long)) (rw there at high)))

pub before_last : (bs rest : List ℕ) (c : ℕ) → IsUtf8 bs → bs ≡ rest ++ encode_utf8 c → IsScalar c → IsUtf8 rest
before_last bs rest c u e k =
    let cut = cut_there rest (encode_utf8 c) (IsCharBoundary-start (encode_utf8 c) (IsUtf8-encode c k)) in
    let front : take (length rest) bs ≡ rest = ap (take (length rest)) e ∙ take_at rest (encode_utf8 c) (length rest) refl in
    rw front at (IsUtf8-take bs (length rest) u (rw e cut))

pub last_step : (bs rest : List ℕ) (c : ℕ) → IsUtf8 bs → bs ≡ rest ++ encode_utf8 c → IsScalar c → reverse (chars bs) ≡ c ∷ reverse (chars rest)
last_step bs rest c u e k =
    let front = before_last bs rest c u e k in
    let one : chars (encode_utf8 c) ≡ c ∷ [] = chars_past_char (encode_utf8 c) [] c (IsUtf8-encode c k) (sym (append-nil (encode_utf8 c))) ∙ ap (λ ds. c ∷ ds) chars-nil in
    ap (λ ys. reverse (chars ys)) e ∙ ap reverse (chars-append rest (encode_utf8 c) front ∙ ap (λ ds. chars rest ++ ds) one) ∙ reverse-append (chars rest) (c ∷ [])

-- five were taken
pub taken_full : (cs ds all : List ℕ) → length cs ≡ 5 → cs ++ ds ≡ all → cs ≡ take 5 all
taken_full cs ds all five e = sym (ap (take 5) (sym e) ∙ take_at cs ds 5 five)

-- all were taken
pub taken_whole : (cs ds all : List ℕ) → length cs ≤ 5 → cs ++ ds ≡ all → ds ≡ [] → cs ≡ take 5 all
taken_whole cs ds all few e none = sym (ap (take 5) (sym e ∙ ap (λ xs. cs ++ xs) none ∙ append-nil cs) ∙ take_all 5 cs few)
