-- The kinds of steps through a text of Hangul, by its characters.
use Rattle.std.proofs.Common.{ℕ, zero, suc, ◌≡◌, ◌≤◌, ◌<◌, ◌+◌, ◌-◌, ◌||◌, ◌&&◌, ◌⊎◌, inl, inr, nat_lt, not, ltb-true, Bool, true, false, if◌then◌else◌, List, [], ◌∷◌, ◌++◌, length, map, take, drop, Option, None, Some, is_some, arith, refl, sym, ap, subst, ◌∙◌}
use Rattle.std.specs.Prelude.{option_map}
use Rattle.std.specs.Option.{option_and_then}
use Rattle.std.proofs.lemmas.Bool.{and_from}
use Rattle.std.proofs.lemmas.List.{length-drop}
use Rattle.buffer_glyphs.specs.Items.{Item}
use Rattle.buffer_glyphs.specs.Replacements.{item_numbered}
use Rattle.buffer_properties.specs.Characters.{is_mark}
use Rattle.buffer_properties.specs.Properties.{is_mark_character}
use Rattle.buffer_unicode_tables.specs.Hangul.{hangul_pair, hangul_split}
use Rattle.layout_face.specs.declared.parts.FaceParts.{FaceParts}
use Rattle.script_hangul.specs.declared.jamo.Letters.{Letters}
use Rattle.script_hangul.specs.declared.jamo.Letters.TheVariants.{Two, Three}
use Rattle.script_hangul.specs.declared.actions.Action.{Action}
use Rattle.script_hangul.specs.declared.actions.Action.TheVariants.{Keep, Apart, Compose, Split}
use Rattle.script_hangul.specs.Jamo.{is_leading, is_syllable, is_tone, is_vowel, letters_by, letters_of, whole_of}
use Rattle.script_hangul.specs.Actions.{action_on, has_character, has_letters, joining_action, leading_action, letters_action, open_by, split_action, split_action_of, syllable_action, before_trailing, trailing_of}
use Rattle.script_hangul.specs.Hangul.{character_at, character_by, is_character, step, step_by, text_after}
use Rattle.script_hangul.specs.Steps.{DOTTED_CIRCLE, Step, before_syllable, circle_for, has_no_width, keep_step, letters_from, letters_of_first, numbers_of, step_of, tone_step, with_circle}
use Rattle.shape_laws.specs.Breaks.HangulCharacters.{begins_syllable, continues_syllable, is_moved_tone}
use Rattle.shape_laws.proofs.BreakLemmas.HangulMarks.{IsLetter, beginning_is_letter, composed_is_letter, continuing_is_letter, split_in_letters}
use Rattle.shape_laws.proofs.BreakLemmas.HangulSteps.{AreFed, IsFed, action_fed, taken_count}
use Rattle.shape_laws.proofs.BreakLemmas.HangulWalk.{fed_within}
use Rattle.shape_laws.proofs.BreakLemmas.Unjoined.{IsLow}

-- ---- letters

-- numbers of letters
abbrev AreLetterNumbers : List ℕ → Type 0
AreLetterNumbers [] = Unit {0}
AreLetterNumbers (u ∷ us) = IsLetter u × AreLetterNumbers us

-- an item is a letter, and no mark
abbrev pub IsLetterItem : Item → Type 0
IsLetterItem z = (is_mark z ≡ false) × IsLetter z.number

abbrev pub AreLetters : List Item → Type 0
AreLetters [] = Unit {0}
AreLetters (z ∷ zs) = IsLetterItem z × AreLetters zs

-- an item is a mark where its character is one, and U+034F has class 0
pub record IsOwn (z : Item) : Type 0 where
  pub mark : is_mark z ≡ is_mark_character z.number
  pub low : IsLow z

abbrev pub AreOwn : List Item → Type 0
AreOwn [] = Unit {0}
AreOwn (z ∷ zs) = IsOwn z × AreOwn zs

pub own_from : (n : ℕ) (zs : List Item) → AreOwn zs → AreOwn (drop n zs)
own_from zero zs h = h
own_from (suc n) [] h = tt
own_from (suc n) (z ∷ zs) h = own_from n zs h.1

own_first : (n : ℕ) (zs : List Item) → AreOwn zs → AreOwn (take n zs)
own_first zero zs h = tt
own_first (suc n) [] h = tt
own_first (suc n) (z ∷ zs) h = (h.0, own_first n zs h.1)

-- the characters of items continue a syllable
abbrev pub AreContinuing : List Item → Type 0
AreContinuing [] = Unit {0}
AreContinuing (z ∷ zs) = (continues_syllable z.number ≡ true) × AreContinuing zs

letters_both : (xs ys : List Item) → AreLetters xs → AreLetters ys → AreLetters (xs ++ ys)
letters_both [] ys h k = k
letters_both (x ∷ xs) ys h k = (h.0, letters_both xs ys h.1 k)

letters_numbered : (n : ℕ) (zs : List Item) → AreLetters zs → AreLetters (letters_from n zs)
letters_numbered n [] h = tt
letters_numbered n (z ∷ zs) h = (h.0, letters_numbered (n + 1) zs h.1)

pub continuing_letters : (zs : List Item) → AreOwn zs → AreContinuing zs → AreLetters zs
continuing_letters [] h k = tt
continuing_letters (z ∷ zs) h k = let letter = continuing_is_letter z.number k.0 in ((h.0.mark ∙ letter.0, letter), continuing_letters zs h.1 k.1)

renumbered_letters : (x : Item) (us : List ℕ) → is_mark x ≡ false → AreLetterNumbers us → AreLetters (map (item_numbered x) us)
renumbered_letters x [] e h = tt
renumbered_letters x (u ∷ us) e h = ((e, h.0), renumbered_letters x us e h.1)

-- ---- actions

-- an action forms a syllable of letters
abbrev Forms : Action → Type 0
Forms (Keep whole) = whole ≡ true
Forms (Apart n) = Unit {0}
Forms (Compose n w) = IsLetter w
Forms (Split letters joins) = AreLetterNumbers (numbers_of letters)

abbrev KeepsOrForms : Action → Type 0
KeepsOrForms a = (a ≡ Keep false) ⊎ Forms a

kept_or_whole : (b : Bool) → KeepsOrForms (Keep b)
kept_or_whole true = inr refl
kept_or_whole false = inl refl

whole_is_letter : (l v : ℕ) (o : Option ℕ) (w : ℕ) → whole_of l v o ≡ Some w → IsLetter w
whole_is_letter l v None w e = composed_is_letter l v w e
whole_is_letter l v (Some t) w e = by_first (hangul_pair l v) e
  where
    by_first : (o : Option ℕ) → option_and_then (λ s. hangul_pair s t) o ≡ Some w → IsLetter w
    by_first None f = absurd (let none : None ≡ Some w = f in cc)
    by_first (Some s) f = composed_is_letter s t w f

letters_of_are_letters : (u : ℕ) (letters : Letters) → letters_of u ≡ Some letters → AreLetterNumbers (numbers_of letters)
letters_of_are_letters u letters e = by_halves (hangul_split u) refl e
  where
    by_first : (a b : ℕ) → IsLetter a × IsLetter b → (o : Option (ℕ × ℕ)) → hangul_split a ≡ o → AreLetterNumbers (numbers_of (letters_by a b o))
    by_first a b k None f = (k.0, (k.1, tt))
    by_first a b k (Some (l, v)) f = let both = split_in_letters l v a f in (both.0, (both.1, (k.1, tt)))

    by_halves : (o : Option (ℕ × ℕ)) → hangul_split u ≡ o → option_map (λ (p : ℕ × ℕ). letters_by p.0 p.1 (hangul_split p.0)) o ≡ Some letters → AreLetterNumbers (numbers_of letters)
    by_halves None f g = absurd (let none : None ≡ Some letters = g in cc)
    by_halves (Some (a, b)) f g =
        let same : letters_by a b (hangul_split a) ≡ letters = cc in
        subst (λ k. AreLetterNumbers (numbers_of k)) same (by_first a b (split_in_letters a b u f) (hangul_split a) refl)

letters_form : (font : FaceParts) (o : Option ℕ) (n : ℕ) → ((w : ℕ) → o ≡ Some w → IsLetter w) → KeepsOrForms (letters_action font o n)
letters_form font None n h = inr tt
letters_form font (Some w) n h = elim (has_character font w) as (λ b. KeepsOrForms (if b then Compose n w else Apart n)) [ true ↦ inr (h w refl) | false ↦ inr tt ]

split_forms : (font : FaceParts) (u : ℕ) (joins : Bool) (o : Option Letters) → ((letters : Letters) → o ≡ Some letters → AreLetterNumbers (numbers_of letters)) → KeepsOrForms (split_action_of font u joins o)
split_forms font u joins None h = kept_or_whole (has_character font u)
split_forms font u joins (Some letters) h = elim (has_letters font letters) as (λ b. KeepsOrForms (if b then Split letters joins else Keep (has_character font u))) [ true ↦ inr (h letters refl) | false ↦ kept_or_whole (has_character font u) ]

own_split_forms : (font : FaceParts) (u : ℕ) (joins : Bool) → KeepsOrForms (split_action font u joins)
own_split_forms font u joins = split_forms font u joins (letters_of u) (letters_of_are_letters u)

open_forms : (font : FaceParts) (u : ℕ) (o : Option Letters) → KeepsOrForms (open_by font u o)
open_forms font u None = inr refl
open_forms font u (Some (Two l v)) = own_split_forms font u true
open_forms font u (Some (Three l v t)) = inr refl

before_forms : (font : FaceParts) (u : ℕ) → KeepsOrForms (before_trailing font u)
before_forms font u = elim (has_character font u) as (λ b. KeepsOrForms (if b then open_by font u (letters_of u) else split_action font u false)) [ true ↦ open_forms font u (letters_of u) | false ↦ own_split_forms font u false ]

joining_forms : (font : FaceParts) (u : ℕ) (o : Option ℕ) → ((w : ℕ) → o ≡ Some w → IsLetter w) → KeepsOrForms (joining_action font u o)
joining_forms font u None h = before_forms font u
joining_forms font u (Some whole) h = elim (has_character font whole) as (λ b. KeepsOrForms (if b then Compose 2 whole else before_trailing font u)) [ true ↦ inr (h whole refl) | false ↦ before_forms font u ]

syllable_forms : (font : FaceParts) (u : ℕ) (o : Option ℕ) → KeepsOrForms (syllable_action font u o)
syllable_forms font u None = elim (has_character font u) as (λ b. KeepsOrForms (if b then Keep true else split_action font u false)) [ true ↦ inr refl | false ↦ own_split_forms font u false ]
syllable_forms font u (Some t) = joining_forms font u (hangul_pair u t) (composed_is_letter u t)

leading_forms : (font : FaceParts) (l : ℕ) (s t : Option ℕ) → KeepsOrForms (leading_action font l s t)
leading_forms font l None t = inl refl
leading_forms font l (Some v) t = elim (is_vowel v) as (λ b. KeepsOrForms (if b then letters_action font (whole_of l v t) (if is_some t then 3 else 2) else Keep false)) [
  | true ↦ letters_form font (whole_of l v t) (if is_some t then 3 else 2) (whole_is_letter l v t)
  | false ↦ inl refl
]

-- an action keeps a character, or forms a syllable that begins with it
action_forms : (font : FaceParts) (u : ℕ) (s t : Option ℕ) → (action_on font u s t ≡ Keep false) ⊎ ((begins_syllable u ≡ true) × Forms (action_on font u s t))
action_forms font u s t = by_tests (is_leading u) (is_syllable u)
  where
    beginning : (a : Action) → KeepsOrForms a → (b : Bool) → b ≡ true → (a ≡ Keep false) ⊎ ((b ≡ true) × Forms a)
    beginning a (inl kept) b e = inl kept
    beginning a (inr forms) b e = inr (e, forms)

    by_tests : (a b : Bool) → ((if a then leading_action font u s (trailing_of t) else if b then syllable_action font u (trailing_of s) else Keep false) ≡ Keep false)
        ⊎ (((a || b) ≡ true) × Forms (if a then leading_action font u s (trailing_of t) else if b then syllable_action font u (trailing_of s) else Keep false))
    by_tests true b = beginning (leading_action font u s (trailing_of t)) (leading_forms font u s (trailing_of t)) (true || b) refl
    by_tests false true = beginning (syllable_action font u (trailing_of s)) (syllable_forms font u (trailing_of s)) true refl
    by_tests false false = inl refl

-- ---- steps

-- a step keeps the first item
record KeepsFirst (s : Step) (out : List Item) (x : Item) : Type 0 where
  is : s.out ≡ out ++ x ∷ []
  more : s.more ≡ 0
  start : s.start ≡ length (out ++ x ∷ [])

-- a step forms a syllable of the first item and some others
record FormsSyllable (s : Step) (out : List Item) (x : Item) (xs : List Item) : Type 0 where
  new : List Item
  is : s.out ≡ out ++ new
  start : s.start ≡ length out
  letters : AreLetters new
  some : 0 < length new
  begins : begins_syllable x.number ≡ true
  taken : AreContinuing (take s.more xs)

-- a step moves a tone mark before the syllable that it follows
record MovesTone (font : FaceParts) (s : Step) (n : ℕ) (out : List Item) (x : Item) : Type 0 where
  tone : is_moved_tone font x.number ≡ true
  below : n < length out
  is : s.out ≡ take n out ++ x ∷ drop n out
  more : s.more ≡ 0
  start : s.start ≡ length (take n out ++ x ∷ drop n out)

-- a tone mark and its dotted circle
abbrev pub IsCircled : Item → List Item → Type 0
IsCircled x new = (new ≡ circle_for x ∷ x ∷ []) ⊎ (new ≡ x ∷ circle_for x ∷ [])

-- a step gives a tone mark a dotted circle
record CirclesTone (s : Step) (out : List Item) (x : Item) : Type 0 where
  tone : is_tone x.number ≡ true
  new : List Item
  circled : IsCircled x new
  is : s.out ≡ out ++ new
  more : s.more ≡ 0
  start : s.start ≡ length (out ++ new)

StepKind : FaceParts → Step → ℕ → List Item → Item → List Item → Type 0
StepKind font s n out x xs = KeepsFirst s out x ⊎ (FormsSyllable s out x xs ⊎ (MovesTone font s n out x ⊎ CirclesTone s out x))

fed_continues : (y : Item) → IsFed (character_by (Some y)) → continues_syllable y.number ≡ true
fed_continues y = by_test (is_character y.number)
  where
    by_test : (b : Bool) → IsFed (if b then Some y.number else None) → continues_syllable y.number ≡ true
    by_test true h = h
    by_test false h = absurd h

-- the items that are taken beside the first continue a syllable
fed_are_continuing : (n : ℕ) (x : Item) (xs : List Item) → AreFed n (character_at 1 (x ∷ xs)) (character_at 2 (x ∷ xs)) → AreContinuing (take (n - 1) xs)
fed_are_continuing n x xs (inl one) = let e : n - 1 ≡ 0 = omega (arith, one) in subst (λ (i : ℕ). AreContinuing (take i xs)) (sym e) tt
fed_are_continuing n x [] (inr (inl two)) = absurd two.1
fed_are_continuing n x (y ∷ ys) (inr (inl two)) = let f = two.0 in let e : n - 1 ≡ 1 = omega (arith, f) in subst (λ (i : ℕ). AreContinuing (take i (y ∷ ys))) (sym e) (fed_continues y two.1, tt)
fed_are_continuing n x [] (inr (inr three)) = absurd three.1.0
fed_are_continuing n x (y ∷ []) (inr (inr three)) = absurd three.1.1
fed_are_continuing n x (y ∷ z ∷ zs) (inr (inr three)) = let f = three.0 in let e : n - 1 ≡ 2 = omega (arith, f) in subst (λ (i : ℕ). AreContinuing (take i (y ∷ z ∷ zs))) (sym e) (fed_continues y three.1.0, (fed_continues z three.1.1, tt))

taken_first : (n : ℕ) (x : Item) (xs : List Item) → 0 < n → take n (x ∷ xs) ≡ x ∷ take (n - 1) xs
taken_first zero x xs some = absurd (omega (arith, some))
taken_first (suc n) x xs some = let e : suc n - 1 ≡ n = omega arith in ap (λ (i : ℕ). x ∷ take i xs) (sym e)

-- a step that forms a syllable
formed_kind : (a : Action) (out : List Item) (x : Item) (xs : List Item) → AreOwn (x ∷ xs) → begins_syllable x.number ≡ true → Forms a → AreFed (taken_count a) (character_at 1 (x ∷ xs)) (character_at 2 (x ∷ xs)) → FormsSyllable (step_of a out (x ∷ xs)) out x xs
formed_kind (Keep true) out x xs own begins forms fed =
    let letter = beginning_is_letter x.number begins in
    record { new = x ∷ []; is = refl; start = refl; letters = ((own.0.mark ∙ letter.0, letter), tt); some = omega arith; begins = begins; taken = tt }
formed_kind (Keep false) out x xs own begins forms fed = cc
formed_kind (Apart n) out x xs own begins forms fed =
    let letter = beginning_is_letter x.number begins in
    let rest = fed_are_continuing n x xs fed in
    let some = (fed_within n x xs fed).0 in
    let all : AreLetters (x ∷ take (n - 1) xs) = ((own.0.mark ∙ letter.0, letter), continuing_letters (take (n - 1) xs) (own_first (n - 1) xs own.1) rest) in
    record {
      new = letters_from 1 (take n (x ∷ xs));
      is = refl;
      start = refl;
      letters = letters_numbered 1 (take n (x ∷ xs)) (subst AreLetters (sym (taken_first n x xs some)) all);
      some = subst (λ zs. 0 < length (letters_from 1 zs)) (sym (taken_first n x xs some)) (omega arith);
      begins = begins;
      taken = rest;
    }
formed_kind (Compose n w) out x xs own begins forms fed =
    let letter = beginning_is_letter x.number begins in
    record { new = item_numbered x w ∷ []; is = refl; start = refl; letters = ((own.0.mark ∙ letter.0, forms), tt); some = omega arith; begins = begins; taken = fed_are_continuing n x xs fed }
formed_kind (Split letters joins) out x xs own begins forms fed =
    let letter = beginning_is_letter x.number begins in
    let n = if joins then 1 else 0 in
    let e : n + 1 - 1 ≡ n = omega arith in
    let rest : AreContinuing (take n xs) = subst (λ (i : ℕ). AreContinuing (take i xs)) e (fed_are_continuing (n + 1) x xs fed) in
    let new = letters_of_first letters (x ∷ xs) ++ take n xs in
    let all : AreLetters new = letters_both (letters_of_first letters (x ∷ xs)) (take n xs) (renumbered_letters x (numbers_of letters) (own.0.mark ∙ letter.0) forms) (continuing_letters (take n xs) (own_first n xs own.1) rest) in
    record { new = letters_from 1 new; is = refl; start = refl; letters = letters_numbered 1 new all; some = by_letters letters (take n xs); begins = begins; taken = rest }
  where
    by_letters : (k : Letters) (zs : List Item) → 0 < length (letters_from 1 (letters_of_first k (x ∷ xs) ++ zs))
    by_letters (Two l v) zs = omega arith
    by_letters (Three l v t) zs = omega arith

step_kind : (font : FaceParts) (circles : Bool) (n : ℕ) (out : List Item) (x : Item) (xs : List Item) → AreOwn (x ∷ xs) → StepKind font (step font circles n out (x ∷ xs)) n out x xs
unfolding StepKind
step_kind font circles n out x xs own = by_scalar (is_character x.number)
  where
    kept : KeepsFirst (keep_step false out (x ∷ xs)) out x
    kept = record { is = refl; more = refl; start = refl }

    circled : is_tone x.number ≡ true → (t : Bool) → CirclesTone (with_circle t out (x ∷ xs)) out x
    circled e true = record { tone = e; new = circle_for x ∷ x ∷ []; circled = inl refl; is = refl; more = refl; start = refl }
    circled e false = record { tone = e; new = x ∷ circle_for x ∷ []; circled = inr refl; is = refl; more = refl; start = refl }

    by_tests : is_tone x.number ≡ true → (s : Bool) → nat_lt n (length out) ≡ s → (t : Bool) → has_no_width font x.number ≡ t → (w : Bool)
        → StepKind font (if s then (if t then keep_step false out (x ∷ xs) else before_syllable n out (x ∷ xs)) else (if w then with_circle (has_no_width font x.number) out (x ∷ xs) else keep_step false out (x ∷ xs))) n out x xs
    by_tests tone true e true f w = inl kept
    by_tests tone true e false f w = inr (inr (inl (record { tone = and_from (is_tone x.number) (not (has_no_width font x.number)) tone (ap not f); below = ltb-true n (length out) e; is = refl; more = refl; start = refl })))
    by_tests tone false e t f true = inr (inr (inr (circled tone (has_no_width font x.number))))
    by_tests tone false e t f false = inl kept

    by_action : (a : Action) → (a ≡ Keep false) ⊎ ((begins_syllable x.number ≡ true) × Forms a) → AreFed (taken_count a) (character_at 1 (x ∷ xs)) (character_at 2 (x ∷ xs)) → StepKind font (step_of a out (x ∷ xs)) n out x xs
    by_action a (inl keeps) fed = subst (λ b. StepKind font (step_of b out (x ∷ xs)) n out x xs) (sym keeps) (inl kept)
    by_action a (inr forms) fed = inr (inl (formed_kind a out x xs own forms.0 forms.1 fed))

    by_tone : (t : Bool) → is_tone x.number ≡ t → StepKind font (if t then tone_step font circles n x.number out (x ∷ xs) else step_of (action_on font x.number (character_at 1 (x ∷ xs)) (character_at 2 (x ∷ xs))) out (x ∷ xs)) n out x xs
    by_tone true e = by_tests e (nat_lt n (length out)) refl (has_no_width font x.number) refl (circles && has_character font DOTTED_CIRCLE)
    by_tone false e =
        by_action (action_on font x.number (character_at 1 (x ∷ xs)) (character_at 2 (x ∷ xs))) (action_forms font x.number (character_at 1 (x ∷ xs)) (character_at 2 (x ∷ xs))) (action_fed font x.number (character_at 1 (x ∷ xs)) (character_at 2 (x ∷ xs)))

    by_scalar : (b : Bool) → StepKind font (step_by font circles n (if b then Some x.number else None) out (x ∷ xs)) n out x xs
    by_scalar true = by_tone (is_tone x.number) refl
    by_scalar false = inl kept

-- ---- a walk

-- a statement on a walk stays with each kind of step: on the start of the last syllable, the text so far, and the rest
pub record Stays (font : FaceParts) (holds : ℕ → List Item → List Item → Type 0) : Type 0 where
  pub keep : (n : ℕ) (out : List Item) (x : Item) (xs : List Item) → IsOwn x → AreOwn xs → holds n out (x ∷ xs) → holds (length (out ++ x ∷ [])) (out ++ x ∷ []) xs
  pub form : (n m : ℕ) (out new : List Item) (x : Item) (xs : List Item) → IsOwn x → AreOwn xs → AreLetters new → 0 < length new → begins_syllable x.number ≡ true → AreContinuing (take m xs) → holds n out (x ∷ xs) → holds (length out) (out ++ new) (drop m xs)
  pub tone : (n : ℕ) (out : List Item) (x : Item) (xs : List Item) → IsOwn x → AreOwn xs → is_moved_tone font x.number ≡ true → n < length out → holds n out (x ∷ xs) → holds (length (take n out ++ x ∷ drop n out)) (take n out ++ x ∷ drop n out) xs
  pub circle : (n : ℕ) (out new : List Item) (x : Item) (xs : List Item) → IsOwn x → AreOwn xs → is_tone x.number ≡ true → IsCircled x new → holds n out (x ∷ xs) → holds (length (out ++ new)) (out ++ new) xs

moved_to : (holds : ℕ → List Item → List Item → Type 0) (s : Step) (m : ℕ) (out : List Item) (k : ℕ) (x : Item) (xs : List Item) → s.start ≡ m → s.out ≡ out → s.more ≡ k → holds m out (drop k xs) → holds s.start s.out (drop (s.more + 1) (x ∷ xs))
moved_to holds s m out k x xs start is more h =
    let e : s.more + 1 ≡ suc k = omega (arith, more) in
    let left : drop (s.more + 1) (x ∷ xs) ≡ drop k xs = ap (λ (i : ℕ). drop i (x ∷ xs)) e in
    subst (λ (i : ℕ). holds i s.out (drop (s.more + 1) (x ∷ xs))) (sym start) (subst (λ o. holds m o (drop (s.more + 1) (x ∷ xs))) (sym is) (subst (λ zs. holds m out zs) (sym left) h))

kind_stays : (font : FaceParts) (holds : ℕ → List Item → List Item → Type 0) (s : Step) (n : ℕ) (out : List Item) (x : Item) (xs : List Item) → Stays font holds → AreOwn (x ∷ xs) → StepKind font s n out x xs → holds n out (x ∷ xs) → holds s.start s.out (drop (s.more + 1) (x ∷ xs))
unfolding StepKind
kind_stays font holds s n out x xs p own (inl k) h = moved_to holds s (length (out ++ x ∷ [])) (out ++ x ∷ []) 0 x xs k.start k.is k.more (p.keep n out x xs own.0 own.1 h)
kind_stays font holds s n out x xs p own (inr (inl k)) h = moved_to holds s (length out) (out ++ k.new) s.more x xs k.start k.is refl (p.form n s.more out k.new x xs own.0 own.1 k.letters k.some k.begins k.taken h)
kind_stays font holds s n out x xs p own (inr (inr (inl k))) h =
    moved_to holds s (length (take n out ++ x ∷ drop n out)) (take n out ++ x ∷ drop n out) 0 x xs k.start k.is k.more (p.tone n out x xs own.0 own.1 k.tone k.below h)
kind_stays font holds s n out x xs p own (inr (inr (inr k))) h = moved_to holds s (length (out ++ k.new)) (out ++ k.new) 0 x xs k.start k.is k.more (p.circle n out k.new x xs own.0 own.1 k.tone k.circled h)

-- what stays with each step holds at the end
pub walk_stays : (font : FaceParts) (holds : ℕ → List Item → List Item → Type 0) → Stays font holds → (circles : Bool) (steps n : ℕ) (out xs : List Item) → length xs ≤ steps → AreOwn xs → holds n out xs → (m : ℕ) × holds m (text_after font circles steps n out xs) []
walk_stays font holds p circles steps n out [] le own h = (n, h)
walk_stays font holds p circles zero n out (x ∷ xs) le own h = absurd (omega (arith, le))
walk_stays font holds p circles (suc steps) n out (x ∷ xs) le own h =
    let s = step font circles n out (x ∷ xs) in
    let rest = drop (s.more + 1) (x ∷ xs) in
    let d : length rest ≡ suc (length xs) - (s.more + 1) = length-drop (s.more + 1) (x ∷ xs) in
    walk_stays font holds p circles steps s.start s.out rest (omega (arith, d, le)) (own_from (s.more + 1) (x ∷ xs) own) (kind_stays font holds s n out x xs p own (step_kind font circles n out x xs own) h)
