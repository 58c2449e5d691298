-- The lines of a text: the first one and those after it, and that they are the text.
use Rattle.std.proofs.Common.{ℕ, ◌≡◌, ◌≢◌, ◌==◌, ◌+◌, ◌-◌, ◌<◌, suc, Bool, true, false, not, cond, List, [], ◌∷◌, length, take, drop, refl, sym, ap, ◌∙◌, arith, add-one, if◌then◌else◌}
use Rattle.std.specs.Prelude.{Some, None, slice_index, nat_lt}
use Rattle.std.specs.List.{flat_map, list_all, position, position_or_len}
use Rattle.std.proofs.lemmas.Bool.Decides.{nat_tests}
use Rattle.shell_run.specs.Lines.{onto_line, text_lines, with_line_feed}
use Rattle.shell_run.specs.Laws.{TextsHaveLines, ended_text, has_no_line_feed}

-- ---- the first line

first_by : (b : Bool) (x n : ℕ) (xs : List ℕ) → (cond (not b) (1 + n) 0 < suc (length xs)) → (n < length xs → text_lines xs ≡ take n xs ∷ text_lines (drop (n + 1) xs))
    → (if b then [] ∷ text_lines xs else onto_line x (text_lines xs)) ≡ take (cond (not b) (1 + n) 0) (x ∷ xs) ∷ text_lines (drop (cond (not b) (1 + n) 0 + 1) (x ∷ xs))
first_by true x n xs h rest = refl
first_by false x n xs h rest =
    let inside : n < length xs = omega (arith, h) in
    let lines : text_lines xs ≡ take n xs ∷ text_lines (drop (suc n) xs) = rw add-one at (rest inside) in
    let more : 1 + n ≡ suc n = omega arith in
    rw (lines, more, add-one (suc n)) refl

-- the line before the first line feed, and the lines after it
first_line : (xs : List ℕ) → position_or_len (λ byte. byte == 10) xs < length xs
    → text_lines xs ≡ take (position_or_len (λ byte. byte == 10) xs) xs ∷ text_lines (drop (position_or_len (λ byte. byte == 10) xs + 1) xs)
first_line [] h = absurd (omega (arith, h))
first_line (x ∷ xs) h = first_by (x == 10) x (position_or_len (λ byte. byte == 10) xs) xs h (first_line xs)

only_by : (b : Bool) (x n : ℕ) (xs : List ℕ) → (cond (not b) (1 + n) 0 < suc (length xs) → ⊥) → ((n < length xs → ⊥) → onto_line x (text_lines xs) ≡ (x ∷ xs) ∷ [])
    → (if b then [] ∷ text_lines xs else onto_line x (text_lines xs)) ≡ (x ∷ xs) ∷ []
only_by true x n xs h rest = let before : 0 < suc (length xs) = omega arith in absurd (h before)
only_by false x n xs h rest = rest (λ inside. h (omega (arith, inside)))

-- a text without a line feed is one line
only_line : (x : ℕ) (xs : List ℕ) → (position_or_len (λ byte. byte == 10) (x ∷ xs) < length (x ∷ xs) → ⊥) → text_lines (x ∷ xs) ≡ (x ∷ xs) ∷ []
only_line x [] h = only_by (x == 10) x 0 [] h (λ _. refl)
only_line x (y ∷ ys) h = only_by (x == 10) x (position_or_len (λ byte. byte == 10) (y ∷ ys)) (y ∷ ys) h (λ after. ap (onto_line x) (only_line y ys after))

position_by : (b : Bool) (m n : ℕ) → (if b then Some m else None) ≡ Some n → (b ≡ true) × (m ≡ n)
position_by true m n e = (refl, cc)
position_by false m n e = cc

no_position_by : (b : Bool) (m : ℕ) → (if b then Some m else None) ≡ None → b ≡ false
no_position_by true m e = cc
no_position_by false m e = refl

pub line_before_line_feed : (xs : List ℕ) (n : ℕ) → Some n ≡ position (λ byte. byte == 10) xs → text_lines xs ≡ take n xs ∷ text_lines (drop (n + 1) xs)
line_before_line_feed xs n e =
    let found = position_by (nat_lt (position_or_len (λ byte. byte == 10) xs) (length xs)) (position_or_len (λ byte. byte == 10) xs) n (sym e) in
    let inside : position_or_len (λ byte. byte == 10) xs < length xs = let test = found.0 in grind (arith, nat_tests) in
    rw found.1 at (first_line xs inside)

pub line_without_line_feed : (xs : List ℕ) → length xs ≢ 0 → None ≡ position (λ byte. byte == 10) xs → text_lines xs ≡ xs ∷ []
line_without_line_feed [] some e = absurd (some refl)
line_without_line_feed (x ∷ xs) some e =
    let test = no_position_by (nat_lt (position_or_len (λ byte. byte == 10) (x ∷ xs)) (length (x ∷ xs))) (position_or_len (λ byte. byte == 10) (x ∷ xs)) (sym e) in
    only_line x xs (λ inside. grind (arith, nat_tests))

-- ---- the lines are the text

cut_by : (b : Bool) (x : ℕ) (lines : List (List ℕ)) → (x == 10) ≡ b → list_all has_no_line_feed lines ≡ true
    → list_all has_no_line_feed (if b then [] ∷ lines else onto_line x lines) ≡ true
cut_by true x lines is rest = rest
cut_by false x [] is rest = rw is refl
cut_by false x (line ∷ lines) is rest = rw is rest

lines_cut : (text : List ℕ) → list_all has_no_line_feed (text_lines text) ≡ true
lines_cut [] = refl
lines_cut (x ∷ xs) = cut_by (x == 10) x (text_lines xs) refl (lines_cut xs)

nonempty_by : (b : Bool) (x : ℕ) (lines : List (List ℕ)) → length (if b then [] ∷ lines else onto_line x lines) ≢ 0
nonempty_by true x lines e = omega (arith, e)
nonempty_by false x [] e = omega (arith, e)
nonempty_by false x (line ∷ lines) e = omega (arith, e)

onto_joined : (x : ℕ) (lines : List (List ℕ)) → length lines ≢ 0 → flat_map with_line_feed (onto_line x lines) ≡ x ∷ flat_map with_line_feed lines
onto_joined x [] some = absurd (some refl)
onto_joined x (line ∷ lines) some = refl

joined_by : (b : Bool) (x : ℕ) (lines : List (List ℕ)) → (x == 10) ≡ b → length lines ≢ 0 → flat_map with_line_feed (if b then [] ∷ lines else onto_line x lines) ≡ x ∷ flat_map with_line_feed lines
joined_by true x lines is some = let byte : 10 ≡ x = grind (arith, nat_tests) in ap (λ c. c ∷ flat_map with_line_feed lines) byte
joined_by false x lines is some = onto_joined x lines some

one_by : (b : Bool) (x : ℕ) → (x == 10) ≡ b → flat_map with_line_feed (if b then [] ∷ [] else onto_line x []) ≡ (if b then x ∷ [] else with_line_feed (x ∷ []))
one_by true x is = let byte : 10 ≡ x = grind (arith, nat_tests) in ap (λ c. c ∷ []) byte
one_by false x is = refl

ended_by : (b : Bool) (x : ℕ) (xs : List ℕ) → (if b then x ∷ xs else with_line_feed (x ∷ xs)) ≡ x ∷ (if b then xs else with_line_feed xs)
ended_by true x xs = refl
ended_by false x xs = refl

lines_joined : (text : List ℕ) → flat_map with_line_feed (text_lines text) ≡ ended_text text
lines_joined [] = refl
lines_joined (x ∷ []) = one_by (x == 10) x refl
lines_joined (x ∷ y ∷ ys) =
    let last : suc (suc (length ys)) - 1 ≡ suc (length ys) = omega arith in
    let before : suc (length ys) - 1 ≡ length ys = omega arith in
    let rest = rw before at (lines_joined (y ∷ ys)) in
    joined_by (x == 10) x (text_lines (y ∷ ys)) refl (nonempty_by (y == 10) y (text_lines ys))
    ∙ ap (λ zs. x ∷ zs) rest
    ∙ sym (rw last (ended_by (slice_index (y ∷ ys) (length ys) == 10) x (y ∷ ys)))

pub texts_have_lines : TextsHaveLines
texts_have_lines text = record { cut = lines_cut text; whole = lines_joined text }
