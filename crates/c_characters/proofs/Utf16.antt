-- Characters of UTF-16.
use Rattle.std.proofs.Common.{ℕ, ◌≡◌, ◌≤◌, ◌<◌, ◌+◌, Bool, true, false, List, [], ◌∷◌, ◌⊎◌, inl, inr, refl, sym, arith, ap, ap₂, ◌∙◌}
use Rattle.std.specs.Prelude.{Some, unwrap_or, nat_lt, if◌then◌else◌}
use Rattle.std.specs.Char.Utf16.{is_high_surrogate, is_low_surrogate, lone_unit_char, surrogate_pair_char, utf16_chars}
use Rattle.std.proofs.lemmas.Bool.{and_parts, cases_lt, false≢true, le-leb, le-ltb, leb-true, lt-leb, lt-ltb, ltb-true}
use Rattle.std.proofs.lemmas.Str.{utf16_chars-nil, utf16_chars_lone, utf16_chars_pair}
use Rattle.core.proofs.str.Utf16.{IsPair, lone_unit_char_low, lone_unit_char_high, lone_unit_char_surrogate}
use lib.Utf8.{scalar, low_scalar}
use Rattle.c_characters.specs.Characters.{IsLone, replacement, scalar_or_replacement, utf16_from, utf16_length}
use Rattle.c_characters.specs.Units.{units_16}

pub no_characters : (at : ℕ) (bytes : List ℕ) → units_16 bytes ≡ [] → utf16_from at (utf16_chars (units_16 bytes)) ≡ []
no_characters at bytes none = ap (λ us. utf16_from at (utf16_chars us)) none ∙ ap (utf16_from at) utf16_chars-nil

-- ---- pairs

-- a last unit is in no pair
pub last_is_lone : (u : ℕ) (us : List ℕ) → us ≡ [] → IsLone u us
last_is_lone u us none = rw none (utf16_chars_lone u [] (λ pair. absurd (omega (arith, pair.2))))

pub not_high_is_lone : (u : ℕ) (us : List ℕ) → is_high_surrogate u ≡ false → IsLone u us
not_high_is_lone u us false_is = utf16_chars_lone u us (λ pair. let true_is : is_high_surrogate u ≡ true = rw (le-leb 0xD800 u pair.0, lt-ltb u 0xDC00 pair.1) refl in false≢true (sym false_is ∙ true_is))

pub not_low_is_lone : (u v : ℕ) (us vs : List ℕ) → us ≡ v ∷ vs → is_low_surrogate v ≡ false → IsLone u us
not_low_is_lone u v us vs is false_is =
    rw is (utf16_chars_lone u (v ∷ vs) (λ pair. let true_is : is_low_surrogate v ≡ true = rw (le-leb 0xDC00 v pair.2, lt-ltb v 0xE000 pair.3) refl in false≢true (sym false_is ∙ true_is)))

is_pair : (u v : ℕ) → is_high_surrogate u ≡ true → is_low_surrogate v ≡ true → IsPair u v
is_pair u v high low =
    let first = and_parts _ _ high in
    let second = and_parts _ _ low in
    (leb-true 0xD800 u first.0, ltb-true u 0xDC00 first.1, leb-true 0xDC00 v second.0, ltb-true v 0xE000 second.1)

-- ---- scalar values

high_scalar : (u : ℕ) → 0xE000 ≤ u → u < 0x11_0000 → scalar u ≡ true
high_scalar u from below = rw (le-ltb u 55296 (omega (arith, from)), le-leb 57344 u from, lt-ltb u 1114112 below) refl

surrogate_scalar : (u : ℕ) → 0xD800 ≤ u → u < 0xE000 → scalar u ≡ false
surrogate_scalar u from below = rw (le-ltb u 55296 from, lt-leb 57344 u below) refl

chosen : (u : ℕ) (b : Bool) → scalar u ≡ b → scalar_or_replacement u ≡ (if b then u else replacement)
chosen u b is = ap (λ t. if t then u else replacement) is

-- the character of a pair is that of its code
pub pair_is_scalar : (u v code c : ℕ) → is_high_surrogate u ≡ true → is_low_surrogate v ≡ true → code ≡ surrogate_pair_char u v → c ≡ scalar_or_replacement code → c ≡ surrogate_pair_char u v
pair_is_scalar u v code c high low same is =
    let pair = is_pair u v high low in
    let from : 0xE000 ≤ surrogate_pair_char u v = omega arith in
    let below : surrogate_pair_char u v < 0x11_0000 = omega (arith, pair.1, pair.3) in
    is ∙ ap scalar_or_replacement same ∙ chosen (surrogate_pair_char u v) true (high_scalar (surrogate_pair_char u v) from below)

pub pair_step : (at u v c : ℕ) (bytes rest after : List ℕ) → units_16 bytes ≡ u ∷ units_16 rest → units_16 rest ≡ v ∷ units_16 after → is_high_surrogate u ≡ true → is_low_surrogate v ≡ true
    → c ≡ surrogate_pair_char u v → utf16_from at (utf16_chars (units_16 bytes)) ≡ (record { character = c; cluster = at }) ∷ utf16_from (at + 2) (utf16_chars (units_16 after))
pair_step at u v c bytes rest after first second high low is =
    let wide : nat_lt (surrogate_pair_char u v) 0x1_0000 ≡ false = le-ltb (surrogate_pair_char u v) 0x1_0000 (omega arith) in
    let width : utf16_length (Some (surrogate_pair_char u v)) ≡ 2 = ap (λ (b : Bool). if b then 1 else 2) wide in
    ap (λ us. utf16_from at (utf16_chars us)) (first ∙ ap (λ us. u ∷ us) second) ∙ ap (utf16_from at) (utf16_chars_pair u v (units_16 after) (is_pair u v high low))
    ∙ ap₂ (λ x n. (record { character = x; cluster = at }) ∷ utf16_from (at + n) (utf16_chars (units_16 after))) (sym is) width

-- what a unit in no pair is, and how many units it has
abbrev Stands : ℕ → Type 0
Stands u = (unwrap_or (lone_unit_char u) replacement ≡ scalar_or_replacement u) × (utf16_length (lone_unit_char u) ≡ 1)

stands_by : (u : ℕ) → (u < 0xD800) ⊎ (((0xD800 ≤ u) × (u < 0xE000)) ⊎ (0xE000 ≤ u)) → u < 0x1_0000 → Stands u
stands_by u (inl low) lt = (
  ap (λ o. unwrap_or o replacement) (lone_unit_char_low u low) ∙ sym (chosen u true (low_scalar u low)),
  ap utf16_length (lone_unit_char_low u low) ∙ ap (λ (b : Bool). if b then 1 else 2) (lt-ltb u 0x1_0000 lt),
)
stands_by u (inr (inl between)) lt = (
  ap (λ o. unwrap_or o replacement) (lone_unit_char_surrogate u between.0 between.1) ∙ sym (chosen u false (surrogate_scalar u between.0 between.1)),
  ap utf16_length (lone_unit_char_surrogate u between.0 between.1),
)
stands_by u (inr (inr high)) lt = (
  ap (λ o. unwrap_or o replacement) (lone_unit_char_high u high) ∙ sym (chosen u true (high_scalar u high (omega (arith, lt)))),
  ap utf16_length (lone_unit_char_high u high) ∙ ap (λ (b : Bool). if b then 1 else 2) (lt-ltb u 0x1_0000 lt),
)

above : (u : ℕ) → (u < 0xE000) ⊎ (0xE000 ≤ u) → 0xD800 ≤ u → ((0xD800 ≤ u) × (u < 0xE000)) ⊎ (0xE000 ≤ u)
above u (inl below) from = inl (from, below)
above u (inr high) from = inr high

kind_of : (u : ℕ) → (u < 0xD800) ⊎ (0xD800 ≤ u) → (u < 0xD800) ⊎ (((0xD800 ≤ u) × (u < 0xE000)) ⊎ (0xE000 ≤ u))
kind_of u (inl low) = inl low
kind_of u (inr from) = inr (above u (cases_lt u 0xE000) from)

stands : (u : ℕ) → u < 0x1_0000 → Stands u
stands u lt = stands_by u (kind_of u (cases_lt u 0xD800)) lt

pub lone_step : (at u c : ℕ) (bytes rest : List ℕ) → units_16 bytes ≡ u ∷ units_16 rest → IsLone u (units_16 rest) → u < 0x1_0000 → c ≡ scalar_or_replacement u
    → utf16_from at (utf16_chars (units_16 bytes)) ≡ (record { character = c; cluster = at }) ∷ utf16_from (at + 1) (utf16_chars (units_16 rest))
lone_step at u c bytes rest first lone lt is =
    let by = stands u lt in
    ap (λ us. utf16_from at (utf16_chars us)) first ∙ ap (utf16_from at) lone
    ∙ ap₂ (λ x n. (record { character = x; cluster = at }) ∷ utf16_from (at + n) (utf16_chars (units_16 rest))) (by.0 ∙ sym is) by.1
