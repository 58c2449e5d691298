-- An action has the characters that it takes.
use Rattle.std.proofs.Common.{ℕ, ◌≡◌, ◌<◌, ◌≤◌, Bool, true, false, nat_lt, if◌then◌else◌, List, Option, Some, None, length, arith, refl, sym}
use Rattle.std.specs.Prelude.{slice_get}
use Rattle.std.proofs.lemmas.Bool.{and_parts}
use Rattle.std.proofs.lemmas.Bool.Decides.{nat_tests}
use Rattle.std.proofs.lemmas.Option.{slice_get_within}
use Rattle.layout_face.specs.declared.parts.FaceParts.{FaceParts}
use Rattle.buffer_unicode_tables.specs.Hangul.{hangul_pair}
use Rattle.buffer_glyphs.specs.Items.{Item}
use Rattle.script_hangul.specs.declared.jamo.Letters.{Letters}
use Rattle.script_hangul.specs.declared.jamo.Letters.TheVariants.{Two, Three}
use Rattle.script_hangul.specs.declared.actions.Action.{Action}
use Rattle.script_hangul.specs.declared.actions.Action.TheVariants.{Keep, Apart, Compose, Split}
use Rattle.script_hangul.specs.Jamo.{is_leading, is_vowel, is_trailing, is_syllable, whole_of, letters_of}
use Rattle.script_hangul.specs.Actions.{action_on, before_trailing, has_character, has_letters, joining_action, leading_action, letters_action, open_by, split_action, split_action_of, syllable_action, trailing_of}
use Rattle.script_hangul.specs.Stepped.{fits_rest, is_two}
use Rattle.script_hangul.specs.Hangul.{character_at, character_by, is_character}

either : (t : Bool) (a b : Action) (n : ℕ) → fits_rest a n ≡ true → fits_rest b n ≡ true → fits_rest (if t then a else b) n ≡ true
either true a b n e f = e
either false a b n e f = f

pub some_there : (n : ℕ) → 0 < n → nat_lt 0 n ≡ true
some_there n lt = grind (arith, nat_tests, lt)

letters_fit : (font : FaceParts) (o : Option ℕ) (k n : ℕ) → 2 ≤ k → k ≤ 3 → k ≤ n → fits_rest (letters_action font o k) n ≡ true
letters_fit font o k n ge le there = by_case o
  where
    apart_fits : fits_rest (Apart k) n ≡ true
    apart_fits = grind (arith, nat_tests, ge, le, there)

    compose_fits : (u : ℕ) → fits_rest (Compose k u) n ≡ true
    compose_fits u = grind (arith, nat_tests, ge, le, there)

    by_case : (o : Option ℕ) → fits_rest (letters_action font o k) n ≡ true
    by_case None = apart_fits
    by_case (Some u) = either (has_character font u) (Compose k u) (Apart k) n (compose_fits u) apart_fits

-- an index has a character only where the list is that long
abbrev pub Within : ℕ → Option ℕ → ℕ → Type 0
Within k None n = Unit {0}
Within k (Some u) n = k < n

leading_fits : (font : FaceParts) (l : ℕ) (second t : Option ℕ) (n : ℕ) → 0 < n → Within 1 second n → Within 2 t n → fits_rest (leading_action font l second t) n ≡ true
leading_fits font l None t n some a b = some_there n some
leading_fits font l (Some v) None n some a b = either (is_vowel v) (letters_action font (whole_of l v None) 2) (Keep false) n (letters_fit font (whole_of l v None) 2 n (omega arith) (omega arith) (omega (arith, a))) (some_there n some)
leading_fits font l (Some v) (Some t) n some a b = either (is_vowel v) (letters_action font (whole_of l v (Some t)) 3) (Keep false) n (letters_fit font (whole_of l v (Some t)) 3 n (omega arith) (omega arith) (omega (arith, b))) (some_there n some)

split_fits : (font : FaceParts) (u : ℕ) (joins : Bool) (o : Option Letters) (n : ℕ) → 0 < n → ((letters : Letters) → o ≡ Some letters → fits_rest (Split letters joins) n ≡ true) → fits_rest (split_action_of font u joins o) n ≡ true
split_fits font u joins None n some h = some_there n some
split_fits font u joins (Some letters) n some h = either (has_letters font letters) (Split letters joins) (Keep (has_character font u)) n (h letters refl) (some_there n some)

alone_fits : (font : FaceParts) (u n : ℕ) → 0 < n → fits_rest (split_action font u false) n ≡ true
alone_fits font u n some = split_fits font u false (letters_of u) n some (λ letters e. some_there n some)

open_fits : (font : FaceParts) (u : ℕ) (o : Option Letters) (n : ℕ) → letters_of u ≡ o → 1 < n → fits_rest (open_by font u o) n ≡ true
open_fits font u None n e more = some_there n (omega (arith, more))
open_fits font u (Some (Three l v t)) n e more = some_there n (omega (arith, more))
open_fits font u (Some (Two l v)) n e more = rw e (split_fits font u true (Some (Two l v)) n (omega (arith, more)) two)
  where
    two : (letters : Letters) → Some (Two l v) ≡ Some letters → fits_rest (Split letters true) n ≡ true
    two (Two l' v') f = grind (arith, nat_tests, more)
    two (Three l' v' t') f = cc

before_fits : (font : FaceParts) (u n : ℕ) → 1 < n → fits_rest (before_trailing font u) n ≡ true
before_fits font u n more = either (has_character font u) (open_by font u (letters_of u)) (split_action font u false) n (open_fits font u (letters_of u) n refl more) (alone_fits font u n (omega (arith, more)))

joining_fits : (font : FaceParts) (u : ℕ) (o : Option ℕ) (n : ℕ) → 1 < n → fits_rest (joining_action font u o) n ≡ true
joining_fits font u None n more = before_fits font u n more
joining_fits font u (Some w) n more = either (has_character font w) (Compose 2 w) (before_trailing font u) n (grind (arith, nat_tests, more)) (before_fits font u n more)

syllable_fits : (font : FaceParts) (u : ℕ) (o : Option ℕ) (n : ℕ) → 0 < n → Within 1 o n → fits_rest (syllable_action font u o) n ≡ true
syllable_fits font u None n some a = either (has_character font u) (Keep true) (split_action font u false) n (some_there n some) (alone_fits font u n some)
syllable_fits font u (Some t) n some a = joining_fits font u (hangul_pair u t) n a

trailing_within : (k : ℕ) (o : Option ℕ) (n : ℕ) → Within k o n → Within k (trailing_of o) n
trailing_within k None n h = tt
trailing_within k (Some u) n h = by_test (is_trailing u)
  where
    by_test : (t : Bool) → Within k (if t then Some u else None) n
    by_test true = h
    by_test false = tt

action_fits : (font : FaceParts) (u : ℕ) (second third : Option ℕ) (n : ℕ) → 0 < n → Within 1 second n → Within 2 third n → fits_rest (action_on font u second third) n ≡ true
action_fits font u second third n some a b =
    either (is_leading u) (leading_action font u second (trailing_of third)) (if is_syllable u then syllable_action font u (trailing_of second) else Keep false) n (leading_fits font u second (trailing_of third) n some a (trailing_within 2 third n b))
    (either (is_syllable u) (syllable_action font u (trailing_of second)) (Keep false) n (syllable_fits font u (trailing_of second) n some (trailing_within 1 second n a)) (some_there n some))

character_within_by : (k n : ℕ) (x : Item) (t : Bool) → k < n → Within k (if t then Some x.number else None) n
character_within_by k n x true h = h
character_within_by k n x false h = tt

character_got : (k : ℕ) (xs : List Item) (o : Option Item) → slice_get xs k ≡ o → Within k (character_by o) (length xs)
character_got k xs None e = tt
character_got k xs (Some x) e = character_within_by k (length xs) x (is_character x.number) (slice_get_within xs k x e)

pub character_within : (k : ℕ) (xs : List Item) → Within k (character_at k xs) (length xs)
character_within k xs = character_got k xs (slice_get xs k) refl

-- two letters stay apart where three do not
pub apart_is_two : (k n : ℕ) → fits_rest (Apart k) n ≡ true → (k ≡ 3 → ⊥) → k ≡ 2
apart_is_two k n f ne = grind (arith, nat_tests, f, ne)

pub joined_there : (letters : Letters) (joins : Bool) (n : ℕ) → joins ≡ true → fits_rest (Split letters joins) n ≡ true → (1 < n) × (is_two letters ≡ true)
joined_there letters false n j f = absurd (let bad = j in cc)
joined_there letters true n j f = let both = and_parts (nat_lt 1 n) (is_two letters) f in (grind (arith, nat_tests, both.0), both.1)

-- so does what becomes of the front of a rest
pub front_fits : (font : FaceParts) (u n : ℕ) (xs : List Item) → length xs ≡ n → 0 < n → fits_rest (action_on font u (character_at 1 xs) (character_at 2 xs)) n ≡ true
front_fits font u n xs e some = rw (sym e) (action_fits font u (character_at 1 xs) (character_at 2 xs) (length xs) (omega (arith, e, some)) (character_within 1 xs) (character_within 2 xs))
