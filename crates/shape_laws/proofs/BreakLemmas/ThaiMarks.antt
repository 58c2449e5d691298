-- Where two texts of Thai or Lao, one after the other, are normalized each by itself, by their characters.
use Rattle.std.proofs.Common.{ℕ, zero, suc, ◌≡◌, ◌≤◌, ◌<◌, ◌+◌, ◌-◌, ◌%◌, ◌==◌, ◌||◌, ◌&&◌, ◌⊎◌, inl, inr, not, Bool, true, false, if◌then◌else◌, eqb-true, List, [], ◌∷◌, ◌++◌, length, take, drop, Option, None, Some, is_some, append_assoc, append-nil, arith, refl, sym, ap, subst, ◌∙◌}
use Rattle.std.specs.List.{list_any}
use Rattle.std.specs.Int.RustNames.{bit_and}
use Rattle.std.proofs.lemmas.Bool.{cases_Bool, cond-true, cond-false}
use Rattle.std.proofs.lemmas.Bool.Decides.{nat_tests}
use Rattle.std.proofs.lemmas.Grind.{common_steps}
use Rattle.std.proofs.lemmas.List.{length-append}
use Rattle.std.proofs.lemmas.Nat.{and_mask, and_or_apart}
use lib.Utf8.{scalar}
use Rattle.buffer_glyphs.specs.Items.{Item}
use Rattle.buffer_glyphs.specs.Replacements.{item_numbered}
use Rattle.buffer_unicode_tables.specs.Tables.{Tables, thai_of}
use Rattle.buffer_properties.specs.Characters.{is_mark, is_mark_number, with_category}
use Rattle.buffer_properties.specs.NormalizedList.{has_later_mark}
use Rattle.buffer_properties.specs.Properties.{CONTINUATION, is_mark_character}
use Rattle.layout_face.specs.declared.parts.FaceParts.{FaceParts}
use Rattle.layout_face.specs.Glyphs.{nominal_glyph}
use Rattle.script_thai.specs.declared.thai_private.State.{State}
use Rattle.script_thai.specs.ThaiPrivate.{action_on, character_after, character_shaped, first_known, items_shaped, mark_of, numbers_of, state_after as state_next}
use Rattle.script_thai.specs.ThaiVowel.{count_above, is_sara_am, nikhahit, sara_aa, text_with_splits, thai_or_lao, with_character, with_vowel}
use Rattle.shape_laws.specs.Breaks.Characters.{last_joined}
use Rattle.shape_laws.specs.Breaks.Normalizing.{is_joiner}
use Rattle.shape_laws.specs.Breaks.ThaiCharacters.{KeepsPrivateMarks, PrivateKeepsMarks}
use Rattle.shape_laws.proofs.BreakLemmas.Marks.{any_both}
use Rattle.shape_laws.proofs.BreakLemmas.Unjoined.{AreLow, IsLow, IsPlainly, last_anyway, last_both, low_both, low_first, low_from}
use Rattle.shape_laws.proofs.BreakLemmas.Vowels.{above_both}
use Rattle.shape_parts.proofs.WrittenVowels.{above_few as above_within}
use Rattle.script_thai.proofs.Vowel.{vowel_long as vowel_many}

-- ---- vowels

-- the character of such a vowel is above U+034F
vowel_high : (x : Item) → is_sara_am x ≡ true → 0xE33 ≤ x.number
vowel_high x e = let at : thai_or_lao x.number ≡ 0x0E33 = eqb-true (thai_or_lao x.number) 0x0E33 e in high x.number (bit_and x.number 0x80) at
  where
    high : (u b : ℕ) → u - b ≡ 0x0E33 → 0xE33 ≤ u
    high u b f = omega (arith, f)

high_unjoined : (u : ℕ) → 0xE32 ≤ u → (u == 0x34F) ≡ false
high_unjoined u le = grind (arith, nat_tests, common_steps, le)

first_unjoined : (x : Item) → is_sara_am x ≡ true → is_joiner (nikhahit x) ≡ false
first_unjoined x e = let le = vowel_high x e in high_unjoined (x.number + 0x1A) (omega (arith, le))

last_unjoined : (x : Item) → is_sara_am x ≡ true → is_joiner (sara_aa x) ≡ false
last_unjoined x e = let le = vowel_high x e in high_unjoined (x.number - 1) (omega (arith, le))

unjoined_low : (x : Item) → is_joiner x ≡ false → IsLow x
unjoined_low x e joined = cc

vowel_low : (out : List Item) (x : Item) → is_sara_am x ≡ true → AreLow out → AreLow (with_vowel out x)
vowel_low out x e h =
    let n = length out - count_above out in
    low_both (take n out ++ (nikhahit x ∷ drop n out)) (sara_aa x ∷ []) (low_both (take n out) (nikhahit x ∷ drop n out) (low_first n out h) (unjoined_low (nikhahit x) (first_unjoined x e), low_from n out h)) (unjoined_low (sara_aa x) (last_unjoined x e), tt)

pub vowels_low : (out xs : List Item) → AreLow out → AreLow xs → AreLow (text_with_splits out xs)
vowels_low out [] h k = h
vowels_low out (x ∷ xs) h k = vowels_low (with_character out x) xs (elim (cases_Bool (is_sara_am x)) [
  | inl found ↦ subst AreLow (sym (cond-true _ _ _ found)) (vowel_low out x found h)
  | inr lacks ↦ subst AreLow (sym (cond-false _ _ _ lacks)) (low_both out (x ∷ []) h (k.0, tt))
]) k.1

pub vowels_last : (before : Bool) (out xs : List Item) → last_joined before (out ++ xs) ≡ false → last_joined before (text_with_splits out xs) ≡ false
vowels_last before out [] e = sym (last_both before out []) ∙ e
vowels_last before out (x ∷ xs) e = vowels_last before (with_character out x) xs (last_both before (with_character out x) xs ∙ elim (cases_Bool (is_sara_am x)) [
  | inl found ↦
      let n = length out - count_above out in
      let front = take n out ++ (nikhahit x ∷ drop n out) in
      let here : last_joined before (with_character out x) ≡ false = ap (last_joined before) (cond-true _ _ _ found) ∙ last_both before front (sara_aa x ∷ []) ∙ last_unjoined x found in
      last_anyway (last_joined before (with_character out x)) (is_joiner x) xs (inl here) rest
  | inr lacks ↦ ap (λ o. last_joined (last_joined before o) xs) (cond-false _ _ _ lacks) ∙ ap (λ b. last_joined b xs) (last_both before out (x ∷ [])) ∙ rest
])
  where
    rest : last_joined (is_joiner x) xs ≡ false
    rest = sym (last_both before out (x ∷ xs)) ∙ e

-- ---- marks

-- the first half of a vowel is a mark
low_bits : (p r : ℕ) → r ≡ p % 32 → (p - r + 12) % 32 ≡ 12
low_bits p r e = omega (arith, e)

first_marks : (x : Item) → is_mark (nikhahit x) ≡ true
first_marks x =
    let p = x.unicode_props in
    ap is_mark_number (and_or_apart 0x1F (with_category 12 p) CONTINUATION refl ∙ and_mask (with_category 12 p) 5 ∙ low_bits p (bit_and p 0x1F) (and_mask p 5))

any_second : (xs ys : List Item) → list_any is_mark ys ≡ true → list_any is_mark (xs ++ ys) ≡ true
any_second xs ys e = any_both xs ys ∙ ap (λ b. list_any is_mark xs || b) e ∙ or_true (list_any is_mark xs)
  where
    or_true : (b : Bool) → (b || true) ≡ true
    or_true true = refl
    or_true false = refl

any_first : (xs ys : List Item) → list_any is_mark xs ≡ true → list_any is_mark (xs ++ ys) ≡ true
any_first xs ys e = any_both xs ys ∙ ap (λ b. b || list_any is_mark ys) e

any_mark : (x : Item) (xs : List Item) → is_mark x ≡ true → list_any is_mark (x ∷ xs) ≡ true
any_mark x xs e = ap (λ b. b || list_any is_mark xs) e

later_any : (xs : List Item) → has_later_mark xs ≡ true → list_any is_mark xs ≡ true
later_any [] e = cc
later_any (x ∷ xs) e = by_test (is_mark x)
  where
    by_test : (b : Bool) → (b || list_any is_mark xs) ≡ true
    by_test true = refl
    by_test false = e

-- a vowel after a text of which a mark is after the first item, or whose items are not all marks above
later_vowel : (o : Item) (out : List Item) (x : Item) → (has_later_mark (o ∷ out) ≡ true) ⊎ (count_above (o ∷ out) < length (o ∷ out)) → has_later_mark (with_vowel (o ∷ out) x) ≡ true
later_vowel o out x h = by_index (length (o ∷ out) - count_above (o ∷ out)) refl
  where
    by_index : (n : ℕ) → length (o ∷ out) - count_above (o ∷ out) ≡ n → has_later_mark ((take n (o ∷ out) ++ (nikhahit x ∷ drop n (o ∷ out))) ++ sara_aa x ∷ []) ≡ true
    by_index (suc n) e = any_first (take n out ++ (nikhahit x ∷ drop n out)) (sara_aa x ∷ []) (any_second (take n out) (nikhahit x ∷ drop n out) (any_mark (nikhahit x) (drop n out) (first_marks x)))
    by_index zero e = elim h [
      | inl later ↦ any_first (o ∷ out) (sara_aa x ∷ []) (later_any (o ∷ out) later)
      | inr below ↦ absurd (omega (arith, e, below))
    ]

-- whether an item is a mark, and no such vowel
abbrev pub is_other_mark : Item → Bool
is_other_mark x = is_mark x && not (is_sara_am x)

-- a text has a mark after its first item once vowels are decomposed: it had one, or a later one, or it has a later vowel,
-- and its items are not all marks above
abbrev pub IsMarkedLater : List Item → List Item → Type 0
IsMarkedLater [] xs = ⊥
IsMarkedLater (o ∷ out) xs = (has_later_mark (o ∷ out) ≡ true) ⊎ ((list_any is_other_mark xs ≡ true) ⊎ ((count_above (o ∷ out) < length (o ∷ out)) × (list_any is_sara_am xs ≡ true)))

later_stays : (o : Item) (out xs : List Item) → has_later_mark (o ∷ out) ≡ true → has_later_mark (text_with_splits (o ∷ out) xs) ≡ true
later_stays o out [] e = e
later_stays o out (x ∷ xs) e = by_out (λ z zs f. later_stays z zs xs f) (with_character (o ∷ out) x) (elim (cases_Bool (is_sara_am x)) [
  | inl found ↦ ap has_later_mark (cond-true _ _ _ found) ∙ later_vowel o out x (inl e)
  | inr lacks ↦ ap has_later_mark (cond-false _ _ _ lacks) ∙ any_first out (x ∷ []) e
])
  where
    by_out : ((z : Item) (zs : List Item) → has_later_mark (z ∷ zs) ≡ true → has_later_mark (text_with_splits (z ∷ zs) xs) ≡ true) → (zs : List Item) → has_later_mark zs ≡ true → has_later_mark (text_with_splits zs xs) ≡ true
    by_out next [] f = cc
    by_out next (z ∷ zs) f = next z zs f

more_below : (o : Item) (out : List Item) (x : Item) → count_above (o ∷ out) < length (o ∷ out) → count_above (o ∷ (out ++ x ∷ [])) < length (o ∷ (out ++ x ∷ []))
more_below o out x lt =
    let many = length-append out (x ∷ []) in
    let one = above_within (x ∷ []) in
    elim (above_both (o ∷ out) (x ∷ [])) [
      | inl same ↦ omega (arith, same, many, one, lt)
      | inr over ↦ let all = over.1 in omega (arith, all, many, lt)
    ]

pub marked_later : (out xs : List Item) → IsMarkedLater out xs → has_later_mark (text_with_splits out xs) ≡ true
marked_later [] xs h = absurd h
marked_later (o ∷ out) [] (inl e) = e
marked_later (o ∷ out) [] (inr (inl e)) = cc
marked_later (o ∷ out) [] (inr (inr h)) = let e = h.1 in cc
marked_later (o ∷ out) (x ∷ xs) h = elim (cases_Bool (is_sara_am x)) [
  | inl found ↦ ap (λ zs. has_later_mark (text_with_splits zs xs)) (cond-true _ _ _ found) ∙ by_vowel (λ zs k. marked_later zs xs k) (with_vowel (o ∷ out) x) (vowel_many (o ∷ out) x) found h (λ k. later_vowel o out x k)
  | inr lacks ↦ ap (λ zs. has_later_mark (text_with_splits zs xs)) (cond-false _ _ _ lacks) ∙ marked_later (o ∷ (out ++ x ∷ [])) xs (by_other lacks h)
]
  where
    rest_marked : (b : Bool) → (b || list_any is_other_mark xs) ≡ true → b ≡ false → list_any is_other_mark xs ≡ true
    rest_marked true e f = cc
    rest_marked false e f = e

    vowel_is_other : is_sara_am x ≡ true → is_other_mark x ≡ false
    vowel_is_other found = ap (λ b. is_mark x && not b) found ∙ and_false (is_mark x)
      where
        and_false : (b : Bool) → (b && false) ≡ false
        and_false true = refl
        and_false false = refl

    by_vowel : ((zs : List Item) → IsMarkedLater zs xs → has_later_mark (text_with_splits zs xs) ≡ true) → (zs : List Item) → length zs ≡ length (o ∷ out) + 2 → is_sara_am x ≡ true → IsMarkedLater (o ∷ out) (x ∷ xs) → ((has_later_mark (o ∷ out) ≡ true) ⊎ (count_above (o ∷ out) < length (o ∷ out)) → has_later_mark zs ≡ true) → has_later_mark (text_with_splits zs xs) ≡ true
    by_vowel again [] many found k next = absurd (omega (arith, many))
    by_vowel again (z ∷ zs) many found (inl later) next = later_stays z zs xs (next (inl later))
    by_vowel again (z ∷ zs) many found (inr (inl e)) next = again (z ∷ zs) (inr (inl (rest_marked (is_other_mark x) e (vowel_is_other found))))
    by_vowel again (z ∷ zs) many found (inr (inr k)) next = later_stays z zs xs (next (inr k.0))

    here_marked : (m : Bool) → is_mark x ≡ m → is_sara_am x ≡ false → (is_other_mark x || list_any is_other_mark xs) ≡ true → (has_later_mark (o ∷ (out ++ x ∷ [])) ≡ true) ⊎ (list_any is_other_mark xs ≡ true)
    here_marked true e lacks f = inl (any_second out (x ∷ []) (any_mark x [] e))
    here_marked false e lacks f = inr (rest_marked (is_other_mark x) f (ap (λ b. b && not (is_sara_am x)) e))

    by_other : is_sara_am x ≡ false → IsMarkedLater (o ∷ out) (x ∷ xs) → IsMarkedLater (o ∷ (out ++ x ∷ [])) xs
    by_other lacks (inl later) = inl (any_first out (x ∷ []) later)
    by_other lacks (inr (inl e)) = elim (here_marked (is_mark x) refl lacks e) [
      | inl later ↦ inl later
      | inr more ↦ inr (inl more)
    ]
    by_other lacks (inr (inr k)) = inr (inr (more_below o out x k.0, rest_vowels (is_sara_am x) k.1 lacks))
      where
        rest_vowels : (b : Bool) → (b || list_any is_sara_am xs) ≡ true → b ≡ false → list_any is_sara_am xs ≡ true
        rest_vowels true e f = cc
        rest_vowels false e f = e

-- a text without such vowels stays
pub vowelless_stays : (out xs : List Item) → list_any is_sara_am xs ≡ false → text_with_splits out xs ≡ out ++ xs
vowelless_stays out [] e = sym (append-nil out)
vowelless_stays out (x ∷ xs) e = by_test (is_sara_am x) refl e (λ f. vowelless_stays (out ++ x ∷ []) xs f)
  where
    by_test : (b : Bool) → is_sara_am x ≡ b → (b || list_any is_sara_am xs) ≡ false → (list_any is_sara_am xs ≡ false → text_with_splits (out ++ x ∷ []) xs ≡ (out ++ x ∷ []) ++ xs) → text_with_splits (with_character out x) xs ≡ out ++ x ∷ xs
    by_test true f g next = cc
    by_test false f g next = ap (λ o. text_with_splits o xs) (cond-false _ _ _ f) ∙ next g ∙ append_assoc out (x ∷ []) xs

-- ---- private forms

-- a private form is the character itself, or no U+034F, and no mark where the character is none
StandsPrivately : ℕ → ℕ → Type 0
StandsPrivately u v = (v ≡ u) ⊎ (((v == 0x34F) ≡ false) × (is_mark_character u ≡ false → is_mark_character v ≡ false))

row_stands : (font : FaceParts) (u : ℕ) (o : Option (ℕ × ℕ)) → PrivateKeepsMarks u o → StandsPrivately u (first_known font u o)
unfolding StandsPrivately
row_stands font u None h = inl refl
row_stands font u (Some (v, w)) h =
    elim (is_some (nominal_glyph v font)) as (λ b. (◌≡◌ {A = ℕ} (if b then v else if is_some (nominal_glyph w font) then w else u) u) ⊎ ((((if b then v else if is_some (nominal_glyph w font) then w else u) == 0x34F) ≡ false) × (is_mark_character u ≡ false → is_mark_character (if b then v else if is_some (nominal_glyph w font) then w else u) ≡ false))) [
      | true ↦ inr (h.0.0, λ e. (h.1 e).0)
      | false ↦ elim (is_some (nominal_glyph w font)) as (λ b. (◌≡◌ {A = ℕ} (if b then w else u) u) ⊎ ((((if b then w else u) == 0x34F) ≡ false) × (is_mark_character u ≡ false → is_mark_character (if b then w else u) ≡ false))) [
        | true ↦ inr (h.0.1, λ e. (h.1 e).1)
        | false ↦ inl refl
      ]
    ]

after_stands : (t : Tables) (font : FaceParts) (o : Option ℕ) (u : ℕ) → KeepsPrivateMarks t → StandsPrivately u (character_after t font o u)
unfolding StandsPrivately
after_stands t font None u h = inl refl
after_stands t font (Some a) u h = by_scalar (scalar u) (row_stands font u (thai_of t u a) (h u a))
  where
    by_scalar : (b : Bool) → StandsPrivately u (first_known font u (thai_of t u a)) → StandsPrivately u (if b then first_known font u (thai_of t u a) else u)
    by_scalar true k = k
    by_scalar false k = inl refl

numbered_low : (x : Item) (v : ℕ) → StandsPrivately x.number v → IsLow x → IsLow (item_numbered x v)
unfolding StandsPrivately
numbered_low x v (inl same) h = λ joined. h (ap (λ (n : ℕ). n == 0x34F) (sym same) ∙ joined)
numbered_low x v (inr other) h = λ joined. let off = other.0 in cc

pub shaped_low : (t : Tables) (font : FaceParts) (s : State) (xs : List Item) → KeepsPrivateMarks t → AreLow xs → AreLow (items_shaped t font s xs)
shaped_low t font s [] h low = tt
shaped_low t font s (x ∷ xs) h low = (numbered_low x (character_shaped t font s x.number (numbers_of xs)) (after_stands t font (action_on s (mark_of x.number) x.number (numbers_of xs)) x.number h) low.0, shaped_low t font (state_next s x.number) xs h low.1)

pub shaped_last : (t : Tables) (font : FaceParts) (s : State) (before d : Bool) (xs : List Item) → KeepsPrivateMarks t → (d ≡ false) ⊎ (before ≡ true) → last_joined before xs ≡ false → last_joined d (items_shaped t font s xs) ≡ false
unfolding StandsPrivately
shaped_last t font s before d [] h (inl e) f = e
shaped_last t font s before d [] h (inr e) f = cc
shaped_last t font s before d (x ∷ xs) h e f = shaped_last t font (state_next s x.number) (is_joiner x) (is_joiner (item_numbered x (character_shaped t font s x.number (numbers_of xs)))) xs h (either (after_stands t font (action_on s (mark_of x.number) x.number (numbers_of xs)) x.number h)) f
  where
    by_test : (b : Bool) → is_joiner x ≡ b → (v : ℕ) → v ≡ x.number → ((v == 0x34F) ≡ false) ⊎ (is_joiner x ≡ true)
    by_test true g v same = inr g
    by_test false g v same = inl (ap (λ (n : ℕ). n == 0x34F) same ∙ g)

    either : StandsPrivately x.number (character_shaped t font s x.number (numbers_of xs)) → (is_joiner (item_numbered x (character_shaped t font s x.number (numbers_of xs))) ≡ false) ⊎ (is_joiner x ≡ true)
    either (inl same) = by_test (is_joiner x) refl (character_shaped t font s x.number (numbers_of xs)) same
    either (inr other) = inl other.0

pub shaped_marks : (t : Tables) (font : FaceParts) (s : State) (xs : List Item) → list_any is_mark (items_shaped t font s xs) ≡ list_any is_mark xs
shaped_marks t font s [] = refl
shaped_marks t font s (x ∷ xs) = ap (λ b. is_mark x || b) (shaped_marks t font (state_next s x.number) xs)

pub shaped_later : (t : Tables) (font : FaceParts) (s : State) (xs : List Item) → has_later_mark (items_shaped t font s xs) ≡ has_later_mark xs
shaped_later t font s [] = refl
shaped_later t font s (x ∷ xs) = shaped_marks t font (state_next s x.number) xs

pub shaped_plainly : (t : Tables) (font : FaceParts) (s : State) (x : Item) (us : List ℕ) → KeepsPrivateMarks t → IsPlainly x → IsPlainly (item_numbered x (character_shaped t font s x.number us))
unfolding StandsPrivately
shaped_plainly t font s x us h p = (p.0, by_form (after_stands t font (action_on s (mark_of x.number) x.number us) x.number h))
  where
    by_form : StandsPrivately x.number (character_shaped t font s x.number us) → is_mark_character (character_shaped t font s x.number us) ≡ false
    by_form (inl same) = ap is_mark_character same ∙ p.1
    by_form (inr other) = other.1 p.1
