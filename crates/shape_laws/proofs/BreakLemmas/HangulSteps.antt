-- Steps through a text of Hangul.
use Rattle.std.proofs.Common.{ℕ, ◌≡◌, ◌≤◌, ◌+◌, ◌⊎◌, inl, inr, Bool, true, false, if◌then◌else◌, Option, None, Some, is_some, arith, refl, sym, ap, subst, ◌∙◌}
use Rattle.std.proofs.lemmas.Bool.{cases_Bool, cond-true, cond-false, or_left, or_right}
use Rattle.std.proofs.lemmas.Bool.Decides.{nat_tests}
use Rattle.std.proofs.lemmas.Grind.{common_steps}
use Rattle.buffer_unicode_tables.specs.Hangul.{hangul_pair}
use Rattle.layout_face.specs.declared.parts.FaceParts.{FaceParts}
use Rattle.script_hangul.specs.declared.jamo.Letters.{Letters}
use Rattle.script_hangul.specs.declared.jamo.Letters.TheVariants.{Two, Three}
use Rattle.script_hangul.specs.declared.actions.Action.{Action}
use Rattle.script_hangul.specs.declared.actions.Action.TheVariants.{Keep, Apart, Compose, Split}
use Rattle.script_hangul.specs.Jamo.{is_leading, is_syllable, is_trailing, is_vowel, letters_of, whole_of}
use Rattle.shape_laws.specs.Breaks.HangulCharacters.{continues_syllable}
use Rattle.script_hangul.specs.Actions.{action_on, before_trailing, has_character, has_letters, joining_action, leading_action, letters_action, open_by, split_action, split_action_of, syllable_action, trailing_of}

-- ---- characters that no syllable begins with

-- a character begins no syllable
abbrev pub BeginsNone : ℕ → Type 0
BeginsNone u = (is_leading u ≡ false) × (is_syllable u ≡ false)

-- a character that continues a syllable begins none
pub continuing_begins_none : (u : ℕ) → continues_syllable u ≡ true → BeginsNone u
continuing_begins_none u e = (grind (arith, nat_tests, common_steps, e), grind (arith, nat_tests, common_steps, e))

-- there is a character that continues a syllable
abbrev pub IsFed : Option ℕ → Type 0
IsFed None = ⊥
IsFed (Some u) = continues_syllable u ≡ true

-- the characters that are taken beside the first: none, the second, or the second and the third; each continues
-- a syllable
abbrev pub AreFed : ℕ → Option ℕ → Option ℕ → Type 0
AreFed n s t = (n ≡ 1) ⊎ (((n ≡ 2) × IsFed s) ⊎ ((n ≡ 3) × (IsFed s × IsFed t)))

-- the number of items that an action takes
abbrev pub taken_count : Action → ℕ
taken_count (Keep whole) = 1
taken_count (Apart n) = n
taken_count (Compose n u) = n
taken_count (Split letters joins) = (if joins then 1 else 0) + 1

letters_taken : (font : FaceParts) (o : Option ℕ) (n : ℕ) → taken_count (letters_action font o n) ≡ n
letters_taken font None n = refl
letters_taken font (Some u) n = elim (has_character font u) as (λ b. taken_count (if b then Compose n u else Apart n) ≡ n) [ true ↦ refl | false ↦ refl ]

trailing_fed : (o : Option ℕ) (w : ℕ) → trailing_of o ≡ Some w → IsFed o
trailing_fed None w e = cc
trailing_fed (Some u) w e = elim (cases_Bool (is_trailing u)) [
  | inl found ↦ or_right (is_vowel u) (is_trailing u) found
  | inr lacks ↦ absurd (let none : None ≡ Some w = sym (cond-false _ _ _ lacks) ∙ e in cc)
]

leading_fed : (font : FaceParts) (l : ℕ) (s t : Option ℕ) → AreFed (taken_count (leading_action font l s (trailing_of t))) s t
leading_fed font l None t = inl refl
leading_fed font l (Some v) t = elim (cases_Bool (is_vowel v)) [
  | inl found ↦ subst (λ a. AreFed (taken_count a) (Some v) t) (sym (cond-true _ _ _ found)) (by_trailing (trailing_of t) refl (or_left (is_vowel v) (is_trailing v) found))
  | inr lacks ↦ subst (λ a. AreFed (taken_count a) (Some v) t) (sym (cond-false _ _ _ lacks)) (inl refl)
]
  where
    by_trailing : (o : Option ℕ) → trailing_of t ≡ o → IsFed (Some v) → AreFed (taken_count (letters_action font (whole_of l v o) (if is_some o then 3 else 2))) (Some v) t
    by_trailing None e h = inr (inl (letters_taken font (whole_of l v None) 2, h))
    by_trailing (Some w) e h = inr (inr (letters_taken font (whole_of l v (Some w)) 3, (h, trailing_fed t w e)))

split_fed : (font : FaceParts) (u : ℕ) (joins : Bool) (o : Option Letters) (s t : Option ℕ) → (joins ≡ false) ⊎ IsFed s → AreFed (taken_count (split_action_of font u joins o)) s t
split_fed font u joins None s t h = inl refl
split_fed font u joins (Some letters) s t h = elim (has_letters font letters) as (λ b. AreFed (taken_count (if b then Split letters joins else Keep (has_character font u))) s t) [
  | true ↦ by_joins joins h
  | false ↦ inl refl
]
  where
    by_joins : (b : Bool) → (b ≡ false) ⊎ IsFed s → AreFed ((if b then 1 else 0) + 1) s t
    by_joins true (inl e) = cc
    by_joins true (inr k) = inr (inl (refl, k))
    by_joins false k = inl refl

open_fed : (font : FaceParts) (u : ℕ) (o : Option Letters) (s t : Option ℕ) → IsFed s → AreFed (taken_count (open_by font u o)) s t
open_fed font u None s t h = inl refl
open_fed font u (Some (Two l v)) s t h = split_fed font u true (letters_of u) s t (inr h)
open_fed font u (Some (Three l v w)) s t h = inl refl

syllable_fed : (font : FaceParts) (u : ℕ) (s t : Option ℕ) → AreFed (taken_count (syllable_action font u (trailing_of s))) s t
syllable_fed font u s t = by_trailing (trailing_of s) refl
  where
    by_whole : (o : Option ℕ) → IsFed s → AreFed (taken_count (joining_action font u o)) s t
    by_whole None h = elim (has_character font u) as (λ b. AreFed (taken_count (if b then open_by font u (letters_of u) else split_action font u false)) s t) [
      | true ↦ open_fed font u (letters_of u) s t h
      | false ↦ split_fed font u false (letters_of u) s t (inl refl)
    ]
    by_whole (Some whole) h = elim (has_character font whole) as (λ b. AreFed (taken_count (if b then Compose 2 whole else before_trailing font u)) s t) [
      | true ↦ inr (inl (refl, h))
      | false ↦ elim (has_character font u) as (λ b. AreFed (taken_count (if b then open_by font u (letters_of u) else split_action font u false)) s t) [
        | true ↦ open_fed font u (letters_of u) s t h
        | false ↦ split_fed font u false (letters_of u) s t (inl refl)
      ]
    ]

    by_trailing : (o : Option ℕ) → trailing_of s ≡ o → AreFed (taken_count (syllable_action font u o)) s t
    by_trailing None e = elim (has_character font u) as (λ b. AreFed (taken_count (if b then Keep true else split_action font u false)) s t) [
      | true ↦ inl refl
      | false ↦ split_fed font u false (letters_of u) s t (inl refl)
    ]
    by_trailing (Some w) e = by_whole (hangul_pair u w) (trailing_fed s w e)

-- an action takes only characters beside the first that continue a syllable
pub action_fed : (font : FaceParts) (u : ℕ) (s t : Option ℕ) → AreFed (taken_count (action_on font u s t)) s t
action_fed font u s t = by_tests (is_leading u) (is_syllable u)
  where
    by_tests : (a b : Bool) → AreFed (taken_count (if a then leading_action font u s (trailing_of t) else if b then syllable_action font u (trailing_of s) else Keep false)) s t
    by_tests true b = leading_fed font u s t
    by_tests false true = syllable_fed font u s t
    by_tests false false = inl refl

-- the action on a character that begins no syllable keeps it
pub none_kept : (font : FaceParts) (u : ℕ) (s t : Option ℕ) → BeginsNone u → action_on font u s t ≡ Keep false
none_kept font u s t h = ap (λ a. if a then leading_action font u s (trailing_of t) else if is_syllable u then syllable_action font u (trailing_of s) else Keep false) h.0 ∙ ap (λ b. if b then syllable_action font u (trailing_of s) else Keep false) h.1

-- ---- characters that aren't there

-- an action takes n items or more, or leaves n items or more as one grapheme
abbrev pub TakesMore : ℕ → Action → Type 0
TakesMore n (Keep whole) = ⊥
TakesMore n (Apart k) = n ≤ k
TakesMore n (Compose k u) = n ≤ k
TakesMore n (Split letters joins) = n ≤ (if joins then 2 else 0)

letters_more : (font : FaceParts) (o : Option ℕ) (n k : ℕ) → n ≤ k → TakesMore n (letters_action font o k)
letters_more font None n k le = le
letters_more font (Some u) n k le = elim (has_character font u) as (λ b. TakesMore n (if b then Compose k u else Apart k)) [ true ↦ le | false ↦ le ]

two_or_three : (b : Bool) → 2 ≤ (if b then 3 else 2)
two_or_three true = omega arith
two_or_three false = omega arith

-- the action without a third character
pub third_decides : (font : FaceParts) (u : ℕ) (s t : Option ℕ) → (action_on font u s t ≡ action_on font u s None) ⊎ TakesMore 3 (action_on font u s t)
third_decides font u s t = by_tests (is_leading u) (is_syllable u)
  where
    by_trailing : (v : ℕ) (o : Option ℕ) → (leading_action font u (Some v) o ≡ leading_action font u (Some v) None) ⊎ TakesMore 3 (leading_action font u (Some v) o)
    by_trailing v None = inl refl
    by_trailing v (Some w) = elim (is_vowel v) as (λ b. ((if b then letters_action font (whole_of u v (Some w)) 3 else Keep false) ≡ (if b then letters_action font (whole_of u v None) 2 else Keep false)) ⊎ TakesMore 3 (if b then letters_action font (whole_of u v (Some w)) 3 else Keep false)) [
      | true ↦ inr (letters_more font (whole_of u v (Some w)) 3 3 (omega arith))
      | false ↦ inl refl
    ]

    by_second : (o : Option ℕ) → (leading_action font u o (trailing_of t) ≡ leading_action font u o None) ⊎ TakesMore 3 (leading_action font u o (trailing_of t))
    by_second None = inl refl
    by_second (Some v) = by_trailing v (trailing_of t)

    by_tests : (a b : Bool) → ((if a then leading_action font u s (trailing_of t) else if b then syllable_action font u (trailing_of s) else Keep false) ≡ (if a then leading_action font u s (trailing_of None) else if b then syllable_action font u (trailing_of s) else Keep false))
        ⊎ TakesMore 3 (if a then leading_action font u s (trailing_of t) else if b then syllable_action font u (trailing_of s) else Keep false)
    by_tests true b = by_second s
    by_tests false b = inl refl

-- the action without a second character
pub second_decides : (font : FaceParts) (u : ℕ) (s t : Option ℕ) → (action_on font u s t ≡ action_on font u None None) ⊎ TakesMore 2 (action_on font u s t)
second_decides font u s t = by_tests (is_leading u) (is_syllable u)
  where
    by_leading : (o p : Option ℕ) → (leading_action font u o p ≡ Keep false) ⊎ TakesMore 2 (leading_action font u o p)
    by_leading None p = inl refl
    by_leading (Some v) p = elim (is_vowel v) as (λ b. ((if b then letters_action font (whole_of u v p) (if is_some p then 3 else 2) else Keep false) ≡ Keep false) ⊎ TakesMore 2 (if b then letters_action font (whole_of u v p) (if is_some p then 3 else 2) else Keep false)) [
      | true ↦ inr (letters_more font (whole_of u v p) 2 (if is_some p then 3 else 2) (two_or_three (is_some p)))
      | false ↦ inl refl
    ]

    by_split : (o : Option Letters) → has_character font u ≡ true → (split_action_of font u true o ≡ Keep true) ⊎ TakesMore 2 (split_action_of font u true o)
    by_split None e = inl (ap (λ b. Keep b) e)
    by_split (Some letters) e = elim (has_letters font letters) as (λ b. ((if b then Split letters true else Keep (has_character font u)) ≡ Keep true) ⊎ TakesMore 2 (if b then Split letters true else Keep (has_character font u))) [
      | true ↦ inr (omega arith)
      | false ↦ inl (ap (λ b. Keep b) e)
    ]

    by_open : (o : Option Letters) → has_character font u ≡ true → (open_by font u o ≡ Keep true) ⊎ TakesMore 2 (open_by font u o)
    by_open None e = inl refl
    by_open (Some (Two l v)) e = by_split (letters_of u) e
    by_open (Some (Three l v w)) e = inl refl

    alone : Bool → Action
    alone b = if b then Keep true else split_action font u false

    by_before : (b : Bool) → has_character font u ≡ b → ((if b then open_by font u (letters_of u) else split_action font u false) ≡ (if b then Keep true else split_action font u false)) ⊎ TakesMore 2 (if b then open_by font u (letters_of u) else split_action font u false)
    by_before true e = by_open (letters_of u) e
    by_before false e = inl refl

    by_whole : (o : Option ℕ) → (joining_action font u o ≡ syllable_action font u None) ⊎ TakesMore 2 (joining_action font u o)
    by_whole None = by_before (has_character font u) refl
    by_whole (Some whole) = elim (has_character font whole) as (λ b. ((if b then Compose 2 whole else before_trailing font u) ≡ syllable_action font u None) ⊎ TakesMore 2 (if b then Compose 2 whole else before_trailing font u)) [
      | true ↦ inr (omega arith)
      | false ↦ by_before (has_character font u) refl
    ]

    by_syllable : (o : Option ℕ) → (syllable_action font u o ≡ syllable_action font u None) ⊎ TakesMore 2 (syllable_action font u o)
    by_syllable None = inl refl
    by_syllable (Some w) = by_whole (hangul_pair u w)

    by_tests : (a b : Bool) → ((if a then leading_action font u s (trailing_of t) else if b then syllable_action font u (trailing_of s) else Keep false) ≡ (if a then leading_action font u None (trailing_of None) else if b then syllable_action font u (trailing_of None) else Keep false))
        ⊎ TakesMore 2 (if a then leading_action font u s (trailing_of t) else if b then syllable_action font u (trailing_of s) else Keep false)
    by_tests true b = by_leading s (trailing_of t)
    by_tests false true = by_syllable (trailing_of s)
    by_tests false false = inl refl
