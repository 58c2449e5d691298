-- A text of Hangul once its syllables are formed: its marks, its first item and its last one, by its characters.
use Rattle.std.proofs.Common.{ℕ, zero, suc, ◌≡◌, ◌≤◌, ◌<◌, ◌==◌, ◌||◌, ◌&&◌, ◌⊎◌, inl, inr, not, Bool, true, false, if◌then◌else◌, List, [], ◌∷◌, ◌++◌, length, take, drop, arith, refl, sym, ap, subst, ◌∙◌}
use Rattle.std.specs.List.{list_any}
use Rattle.std.proofs.lemmas.Bool.{and_parts, cases_Bool, or_cases, or_left, or_parts, or_right}
use Rattle.std.proofs.lemmas.List.{length-append, length-drop, take-append-drop}
use Rattle.buffer_glyphs.specs.Items.{Item}
use Rattle.buffer_properties.specs.Characters.{is_mark}
use Rattle.buffer_properties.specs.NormalizedList.{has_later_mark}
use Rattle.buffer_properties.specs.Properties.{is_mark_character}
use Rattle.layout_face.specs.declared.parts.FaceParts.{FaceParts}
use Rattle.script_hangul.specs.Hangul.{text_after}
use Rattle.script_hangul.specs.Jamo.{is_tone}
use Rattle.script_hangul.specs.Steps.{DOTTED_CIRCLE, circle_for, has_no_width}
use Rattle.shape_laws.specs.Breaks.Characters.{AreUnjoined, characters, last_joined}
use Rattle.shape_laws.specs.Breaks.HangulCharacters.{after_syllable, begins_syllable, begins_toned, continues_syllable, has_later_mark_of_hangul, is_moved_tone, is_toned}
use Rattle.shape_laws.specs.Breaks.Normalizing.{is_joiner}
use Rattle.shape_laws.proofs.BreakLemmas.HangulForms.{AreContinuing, AreLetters, AreOwn, IsCircled, IsOwn, Stays, walk_stays}
use Rattle.shape_laws.proofs.BreakLemmas.HangulMarks.{beginning_is_letter, continuing_is_letter, tone_unjoined, tones_are_marks}
use Rattle.shape_laws.proofs.BreakLemmas.Marks.{any_both}
use Rattle.shape_laws.proofs.BreakLemmas.Seen.{FirstPlainly}
use Rattle.shape_laws.proofs.BreakLemmas.Unjoined.{AreLow, IsLow, last_anyway, last_both, low_both, low_first, low_from, unjoined_last}

-- ---- lists

longer : (out : List Item) (x : Item) (xs : List Item) → 1 ≤ length (out ++ x ∷ xs)
longer out x xs = let e = length-append out (x ∷ xs) in omega (arith, e)

some_more : (out new : List Item) → 0 < length new → 1 ≤ length (out ++ new)
some_more out new some = let e = length-append out new in omega (arith, e, some)

circled_some : (x : Item) (new : List Item) → IsCircled x new → 0 < length new
circled_some x new (inl e) = subst (λ zs. 0 < length zs) (sym e) (omega arith)
circled_some x new (inr e) = subst (λ zs. 0 < length zs) (sym e) (omega arith)

drop_front : (out new : List Item) → drop (length out) (out ++ new) ≡ new
drop_front [] new = refl
drop_front (o ∷ out) new = drop_front out new

any_from : (n : ℕ) (xs : List Item) → list_any is_mark xs ≡ false → list_any is_mark (drop n xs) ≡ false
any_from zero xs e = e
any_from (suc n) [] e = refl
any_from (suc n) (x ∷ xs) e = any_from n xs (or_parts (is_mark x) (list_any is_mark xs) e).1

-- ---- characters

marks_of : (xs : List Item) → AreOwn xs → list_any is_mark xs ≡ list_any is_mark_character (characters xs)
marks_of [] h = refl
marks_of (x ∷ xs) h = rw (h.0.mark, marks_of xs h.1) refl

tone_marks : (x : Item) → IsOwn x → is_tone x.number ≡ true → is_mark x ≡ true
tone_marks x own e = own.mark ∙ tones_are_marks x.number e

beginning_unmarked : (x : Item) → IsOwn x → begins_syllable x.number ≡ true → is_mark x ≡ false
beginning_unmarked x own e = own.mark ∙ (beginning_is_letter x.number e).0

moved_is_tone : (font : FaceParts) (u : ℕ) → is_moved_tone font u ≡ true → is_tone u ≡ true
moved_is_tone font u e = (and_parts (is_tone u) (not (has_no_width font u)) e).0

tone_continues_none : (u : ℕ) → is_tone u ≡ true → continues_syllable u ≡ false
tone_continues_none u e = elim (cases_Bool (continues_syllable u)) [
  | inl continues ↦ absurd (let none = (continuing_is_letter u continues).0 in let mark = tones_are_marks u e in cc)
  | inr other ↦ other
]

after_any : (font : FaceParts) (us : List ℕ) → list_any is_mark_character (after_syllable font us) ≡ true → list_any is_mark_character us ≡ true
after_any font [] h = h
after_any font (u ∷ us) h = by_tests (continues_syllable u) (is_moved_tone font u) (λ k. after_any font us k) h
  where
    by_tests : (a b : Bool) → (list_any is_mark_character (after_syllable font us) ≡ true → list_any is_mark_character us ≡ true) → list_any is_mark_character (if a then after_syllable font us else if b then us else u ∷ us) ≡ true → list_any is_mark_character (u ∷ us) ≡ true
    by_tests true b next k = or_right (is_mark_character u) (list_any is_mark_character us) (next k)
    by_tests false true next k = or_right (is_mark_character u) (list_any is_mark_character us) k
    by_tests false false next k = k

-- the marks of a text after a step over its first character
later_any : (font : FaceParts) (u : ℕ) (us : List ℕ) → has_later_mark_of_hangul font (u ∷ us) ≡ true → list_any is_mark_character us ≡ true
later_any font u us = by_test (begins_syllable u)
  where
    by_test : (b : Bool) → list_any is_mark_character (if b then after_syllable font us else us) ≡ true → list_any is_mark_character us ≡ true
    by_test true h = after_any font us h
    by_test false h = h

later_after : (font : FaceParts) (u : ℕ) (us : List ℕ) → begins_syllable u ≡ true → has_later_mark_of_hangul font (u ∷ us) ≡ true → list_any is_mark_character (after_syllable font us) ≡ true
later_after font u us e h = subst (λ b. list_any is_mark_character (if b then after_syllable font us else us) ≡ true) e h

after_tone : (font : FaceParts) (u : ℕ) (us : List ℕ) → is_moved_tone font u ≡ true → list_any is_mark_character (after_syllable font (u ∷ us)) ≡ true → list_any is_mark_character us ≡ true
after_tone font u us e h =
    subst (λ b. list_any is_mark_character (if b then us else u ∷ us) ≡ true) e
    (subst (λ b. list_any is_mark_character (if b then after_syllable font us else if is_moved_tone font u then us else u ∷ us) ≡ true) (tone_continues_none u (moved_is_tone font u e)) h)

after_drop : (font : FaceParts) (m : ℕ) (xs : List Item) → AreContinuing (take m xs) → after_syllable font (characters xs) ≡ after_syllable font (characters (drop m xs))
after_drop font zero xs h = refl
after_drop font (suc m) [] h = refl
after_drop font (suc m) (x ∷ xs) h =
    ap (λ b. if b then after_syllable font (characters xs) else if is_moved_tone font x.number then characters xs else x.number ∷ characters xs) h.0 ∙ after_drop font m xs h.1

toned_drop : (font : FaceParts) (m : ℕ) (xs : List Item) → AreContinuing (take m xs) → is_toned font (characters xs) ≡ is_toned font (characters (drop m xs))
toned_drop font zero xs h = refl
toned_drop font (suc m) [] h = refl
toned_drop font (suc m) (x ∷ xs) h = ap (λ b. if b then is_toned font (characters xs) else is_moved_tone font x.number) h.0 ∙ toned_drop font m xs h.1

toned_at : (font : FaceParts) (u : ℕ) (us : List ℕ) → is_moved_tone font u ≡ true → is_toned font (u ∷ us) ≡ true
toned_at font u us e = ap (λ b. if b then is_toned font us else is_moved_tone font u) (tone_continues_none u (moved_is_tone font u e)) ∙ e

-- the marks that are left after characters that continue a syllable
any_drop : (m : ℕ) (xs : List Item) → AreOwn xs → AreContinuing (take m xs) → list_any is_mark xs ≡ true → list_any is_mark (drop m xs) ≡ true
any_drop zero xs own h e = e
any_drop (suc m) [] own h e = e
any_drop (suc m) (x ∷ xs) own h e =
    let none : is_mark x ≡ false = own.0.mark ∙ (continuing_is_letter x.number h.0).0 in
    any_drop m xs own.1 h.1 (sym (ap (λ b. b || list_any is_mark xs) none) ∙ e)

-- ---- U+034F

letters_low : (zs : List Item) → AreLetters zs → AreLow zs
letters_low [] h = tt
letters_low (z ∷ zs) h = ((λ joined. let off = h.0.1.1 in cc), letters_low zs h.1)

letters_unjoined : (zs : List Item) → AreLetters zs → AreUnjoined zs
letters_unjoined [] h = tt
letters_unjoined (z ∷ zs) h = (h.0.1.1, letters_unjoined zs h.1)

circle_low : (x : Item) → IsLow (circle_for x)
circle_low x joined = let off : (DOTTED_CIRCLE == 0x34F) ≡ false = refl in cc

circled_low : (x : Item) (new : List Item) → IsOwn x → IsCircled x new → AreLow new
circled_low x new own (inl e) = subst AreLow (sym e) (circle_low x, (own.low, tt))
circled_low x new own (inr e) = subst AreLow (sym e) (own.low, (circle_low x, tt))

abbrev IsLowSoFar : ℕ → List Item → List Item → Type 0
IsLowSoFar n out xs = AreLow out

low_stays : (font : FaceParts) → Stays font IsLowSoFar
low_stays font = record {
  keep = λ n out x xs own rest h. low_both out (x ∷ []) h (own.low, tt);
  form = λ n m out new x xs own rest letters some begins taken h. low_both out new h (letters_low new letters);
  tone = λ n out x xs own rest tone below h. low_both (take n out) (x ∷ drop n out) (low_first n out h) (own.low, low_from n out h);
  circle = λ n out new x xs own rest tone circled h. low_both out new h (circled_low x new own circled);
}

pub formed_low : (font : FaceParts) (circles : Bool) (xs : List Item) → AreOwn xs → AreLow (text_after font circles (length xs) 0 [] xs)
formed_low font circles xs own = (walk_stays font IsLowSoFar (low_stays font) circles (length xs) 0 [] xs (omega arith) own tt).1

-- ---- the last item

-- a text doesn't end with U+034F, nor does what is left of it, however it was before
ends_after : (d : Bool) (out rest : List Item) → last_joined false out ≡ false → last_joined d rest ≡ false → last_joined false (out ++ rest) ≡ false
ends_after d out rest e f = last_both false out rest ∙ last_anyway (last_joined false out) d rest (inl e) f

rest_last : (out : List Item) (x : Item) (xs : List Item) → last_joined false (out ++ x ∷ xs) ≡ false → last_joined (is_joiner x) xs ≡ false
rest_last out x xs e = sym (last_both false out (x ∷ xs)) ∙ e

circled_last : (b : Bool) (x : Item) (new : List Item) → is_tone x.number ≡ true → IsCircled x new → last_joined b new ≡ false
circled_last b x new tone (inl e) = ap (last_joined b) e ∙ tone_unjoined x.number tone
circled_last b x new tone (inr e) = ap (last_joined b) e

-- the text so far and the rest don't end with U+034F, nor is it in the last syllable
abbrev EndsAlone : ℕ → List Item → List Item → Type 0
EndsAlone n out xs = (last_joined false (out ++ xs) ≡ false) × (n < length out → AreUnjoined (drop n out))

last_stays : (font : FaceParts) → Stays font EndsAlone
last_stays font = record {
  keep = λ n out x xs own rest h. (
    last_both false (out ++ x ∷ []) xs ∙ ap (λ b. last_joined b xs) (last_both false out (x ∷ [])) ∙ rest_last out x xs h.0,
    λ lt. absurd (omega (arith, lt)),
  );
  form = λ n m out new x xs own rest letters some begins taken h. (
    ends_after (last_joined (is_joiner x) (take m xs)) (out ++ new) (drop m xs) (last_both false out new ∙ unjoined_last (last_joined false out) new (letters_unjoined new letters) some)
        (sym (last_both (is_joiner x) (take m xs) (drop m xs)) ∙ ap (last_joined (is_joiner x)) (take-append-drop m xs) ∙ rest_last out x xs h.0),
    λ lt. subst AreUnjoined (sym (drop_front out new)) (letters_unjoined new letters),
  );
  tone = λ n out x xs own rest tone below h. (
    ends_after (is_joiner x) (take n out ++ x ∷ drop n out) xs (last_both false (take n out) (x ∷ drop n out) ∙ unjoined_last (is_joiner x) (drop n out) (h.1 below) (some_left n out below)) (rest_last out x xs h.0),
    λ lt. absurd (omega (arith, lt)),
  );
  circle = λ n out new x xs own rest tone circled h. (
    ends_after (is_joiner x) (out ++ new) xs (last_both false out new ∙ circled_last (last_joined false out) x new tone circled) (rest_last out x xs h.0),
    λ lt. absurd (omega (arith, lt)),
  );
}
  where
    some_left : (n : ℕ) (out : List Item) → n < length out → 0 < length (drop n out)
    some_left n out lt = let e = length-drop n out in omega (arith, e, lt)

pub formed_last : (font : FaceParts) (circles : Bool) (xs : List Item) → AreOwn xs → last_joined false xs ≡ false → last_joined false (text_after font circles (length xs) 0 [] xs) ≡ false
formed_last font circles xs own e =
    let all = text_after font circles (length xs) 0 [] xs in
    let end = (walk_stays font EndsAlone (last_stays font) circles (length xs) 0 [] xs (omega arith) own (e, λ lt. absurd (omega (arith, lt)))).1.0 in
    sym (last_both false all []) ∙ end

-- ---- a text without marks

letters_unmarked : (zs : List Item) → AreLetters zs → list_any is_mark zs ≡ false
letters_unmarked [] h = refl
letters_unmarked (z ∷ zs) h = ap (λ b. b || list_any is_mark zs) h.0.0 ∙ letters_unmarked zs h.1

none_both : (xs ys : List Item) → list_any is_mark xs ≡ false → list_any is_mark ys ≡ false → list_any is_mark (xs ++ ys) ≡ false
none_both xs ys e f = any_both xs ys ∙ ap (λ b. b || list_any is_mark ys) e ∙ f

-- there is no mark in the text so far, nor in the rest
abbrev IsUnmarkedSoFar : ℕ → List Item → List Item → Type 0
IsUnmarkedSoFar n out xs = (list_any is_mark out ≡ false) × (list_any is_mark xs ≡ false)

tone_is_there : (x : Item) (xs : List Item) → IsOwn x → is_tone x.number ≡ true → list_any is_mark (x ∷ xs) ≡ false → ⊥
tone_is_there x xs own tone none = let mark = tone_marks x own tone in let first = (or_parts (is_mark x) (list_any is_mark xs) none).0 in cc

none_stays : (font : FaceParts) → Stays font IsUnmarkedSoFar
none_stays font = record {
  keep = λ n out x xs own rest h. let both = or_parts (is_mark x) (list_any is_mark xs) h.1 in (none_both out (x ∷ []) h.0 (ap (λ b. b || false) both.0), both.1);
  form = λ n m out new x xs own rest letters some begins taken h. (none_both out new h.0 (letters_unmarked new letters), any_from m xs (or_parts (is_mark x) (list_any is_mark xs) h.1).1);
  tone = λ n out x xs own rest tone below h. absurd (tone_is_there x xs own (moved_is_tone font x.number tone) h.1);
  circle = λ n out new x xs own rest tone circled h. absurd (tone_is_there x xs own tone h.1);
}

pub formed_none : (font : FaceParts) (circles : Bool) (xs : List Item) → AreOwn xs → list_any is_mark xs ≡ false → list_any is_mark (text_after font circles (length xs) 0 [] xs) ≡ false
formed_none font circles xs own e = (walk_stays font IsUnmarkedSoFar (none_stays font) circles (length xs) 0 [] xs (omega arith) own (refl, e)).1.0

-- ---- a text that has items

abbrev HasSome : ℕ → List Item → List Item → Type 0
HasSome n out xs = (0 < length out) ⊎ (0 < length xs)

some_stays : (font : FaceParts) → Stays font HasSome
some_stays font = record {
  keep = λ n out x xs own rest h. inl (longer out x []);
  form = λ n m out new x xs own rest letters some begins taken h. inl (some_more out new some);
  tone = λ n out x xs own rest tone below h. inl (longer (take n out) x (drop n out));
  circle = λ n out new x xs own rest tone circled h. inl (some_more out new (circled_some x new circled));
}

pub formed_some : (font : FaceParts) (circles : Bool) (xs : List Item) → AreOwn xs → 0 < length xs → 0 < length (text_after font circles (length xs) 0 [] xs)
formed_some font circles xs own some = elim ((walk_stays font HasSome (some_stays font) circles (length xs) 0 [] xs (omega arith) own (inr some)).1) [
  | inl there ↦ there
  | inr none ↦ absurd (omega (arith, none))
]

-- ---- later marks

later_append : (out new : List Item) → has_later_mark out ≡ true → has_later_mark (out ++ new) ≡ true
later_append [] new e = cc
later_append (o ∷ out) new e = any_both out new ∙ ap (λ b. b || list_any is_mark new) e

later_with : (out new : List Item) → 0 < length out → list_any is_mark new ≡ true → has_later_mark (out ++ new) ≡ true
later_with [] new some e = absurd (omega (arith, some))
later_with (o ∷ out) new some e = any_both out new ∙ or_right (list_any is_mark out) (list_any is_mark new) e

any_inserted : (n : ℕ) (out : List Item) (x : Item) → list_any is_mark out ≡ true → list_any is_mark (take n out ++ x ∷ drop n out) ≡ true
any_inserted zero out x e = or_right (is_mark x) (list_any is_mark out) e
any_inserted (suc n) [] x e = cc
any_inserted (suc n) (o ∷ out) x e = elim (or_cases (is_mark o) (list_any is_mark out) e) [
  | inl here ↦ or_left (is_mark o) (list_any is_mark (take n out ++ x ∷ drop n out)) here
  | inr there ↦ or_right (is_mark o) (list_any is_mark (take n out ++ x ∷ drop n out)) (any_inserted n out x there)
]

later_inserted : (n : ℕ) (out : List Item) (x : Item) → has_later_mark out ≡ true → has_later_mark (take n out ++ x ∷ drop n out) ≡ true
later_inserted n [] x e = cc
later_inserted zero (o ∷ out) x e = or_right (is_mark o) (list_any is_mark out) e
later_inserted (suc n) (o ∷ out) x e = any_inserted n out x e

later_mark : (n : ℕ) (out : List Item) (x : Item) → 1 ≤ n → 0 < length out → is_mark x ≡ true → has_later_mark (take n out ++ x ∷ drop n out) ≡ true
later_mark n [] x le some e = absurd (omega (arith, some))
later_mark zero (o ∷ out) x le some e = absurd (omega (arith, le))
later_mark (suc n) (o ∷ out) x le some e = any_both (take n out) (x ∷ drop n out) ∙ or_right (list_any is_mark (take n out)) (list_any is_mark (x ∷ drop n out)) (or_left (is_mark x) (list_any is_mark (drop n out)) e)

circled_marks : (x : Item) (new : List Item) → is_mark x ≡ true → IsCircled x new → list_any is_mark new ≡ true
circled_marks x new e (inl f) = ap (list_any is_mark) f ∙ or_right (is_mark (circle_for x)) (is_mark x || false) (or_left (is_mark x) false e)
circled_marks x new e (inr f) = ap (list_any is_mark) f ∙ or_left (is_mark x) (is_mark (circle_for x) || false) e

-- there is a mark in the rest that isn't moved before the first item: where the last syllable is not the first one, any
abbrev HasMarkLeft : FaceParts → ℕ → List Item → Type 0
HasMarkLeft font n xs = ((1 ≤ n) × (list_any is_mark xs ≡ true)) ⊎ (list_any is_mark_character (after_syllable font (characters xs)) ≡ true)

left_any : (font : FaceParts) (n : ℕ) (xs : List Item) → AreOwn xs → HasMarkLeft font n xs → list_any is_mark xs ≡ true
left_any font n xs own (inl marked) = marked.1
left_any font n xs own (inr after) = marks_of xs own ∙ after_any font (characters xs) after

-- the text so far has a mark after its first item, or there is one left, or nothing was read yet
abbrev HasMarkLater : FaceParts → ℕ → List Item → List Item → Type 0
HasMarkLater font n out xs = (has_later_mark out ≡ true) ⊎ (((0 < length out) × HasMarkLeft font n xs) ⊎ ((length out ≡ 0) × (has_later_mark_of_hangul font (characters xs) ≡ true)))

marked_still : (font : FaceParts) (n : ℕ) (out xs : List Item) → 1 ≤ n → 1 ≤ length out → list_any is_mark xs ≡ true → HasMarkLater font n out xs
marked_still font n out xs le some e = inr (inl (some, inl (le, e)))

rest_marked : (font : FaceParts) (x : Item) (xs : List Item) → AreOwn xs → has_later_mark_of_hangul font (characters (x ∷ xs)) ≡ true → list_any is_mark xs ≡ true
rest_marked font x xs own e = marks_of xs own ∙ later_any font x.number (characters xs) e

later_kept : (font : FaceParts) (n : ℕ) (out : List Item) (x : Item) (xs : List Item) → IsOwn x → AreOwn xs → HasMarkLater font n out (x ∷ xs) → HasMarkLater font (length (out ++ x ∷ [])) (out ++ x ∷ []) xs
later_kept font n out x xs own rest (inl later) = inl (later_append out (x ∷ []) later)
later_kept font n out x xs own rest (inr (inl left)) = elim (or_cases (is_mark x) (list_any is_mark xs) (left_any font n (x ∷ xs) (own, rest) left.1)) [
  | inl here ↦ inl (later_with out (x ∷ []) left.0 (or_left (is_mark x) false here))
  | inr there ↦ marked_still font (length (out ++ x ∷ [])) (out ++ x ∷ []) xs (longer out x []) (longer out x []) there
]
later_kept font n out x xs own rest (inr (inr first)) = marked_still font (length (out ++ x ∷ [])) (out ++ x ∷ []) xs (longer out x []) (longer out x []) (rest_marked font x xs rest first.1)

later_formed : (font : FaceParts) (n m : ℕ) (out new : List Item) (x : Item) (xs : List Item) → IsOwn x → AreOwn xs → 0 < length new → begins_syllable x.number ≡ true → AreContinuing (take m xs) → HasMarkLater font n out (x ∷ xs) → HasMarkLater font (length out) (out ++ new) (drop m xs)
later_formed font n m out new x xs own rest some begins taken (inl later) = inl (later_append out new later)
later_formed font n m out new x xs own rest some begins taken (inr (inl left)) =
    let any = sym (ap (λ b. b || list_any is_mark xs) (beginning_unmarked x own begins)) ∙ left_any font n (x ∷ xs) (own, rest) left.1 in
    marked_still font (length out) (out ++ new) (drop m xs) left.0 (some_more out new some) (any_drop m xs rest taken any)
later_formed font n m out new x xs own rest some begins taken (inr (inr first)) =
    inr (inl (some_more out new some, inr (ap (list_any is_mark_character) (sym (after_drop font m xs taken)) ∙ later_after font x.number (characters xs) begins first.1)))

later_toned : (font : FaceParts) (n : ℕ) (out : List Item) (x : Item) (xs : List Item) → IsOwn x → AreOwn xs → is_moved_tone font x.number ≡ true → n < length out → HasMarkLater font n out (x ∷ xs) → HasMarkLater font (length (take n out ++ x ∷ drop n out)) (take n out ++ x ∷ drop n out) xs
later_toned font n out x xs own rest tone below (inl later) = inl (later_inserted n out x later)
later_toned font n out x xs own rest tone below (inr (inl (some, inl marked))) = inl (later_mark n out x marked.0 some (tone_marks x own (moved_is_tone font x.number tone)))
later_toned font n out x xs own rest tone below (inr (inl (some, inr after))) =
    let more = longer (take n out) x (drop n out) in
    marked_still font (length (take n out ++ x ∷ drop n out)) (take n out ++ x ∷ drop n out) xs more more (marks_of xs rest ∙ after_tone font x.number (characters xs) tone after)
later_toned font n out x xs own rest tone below (inr (inr first)) = let none = first.0 in absurd (omega (arith, none, below))

later_circled : (font : FaceParts) (n : ℕ) (out new : List Item) (x : Item) (xs : List Item) → IsOwn x → AreOwn xs → is_tone x.number ≡ true → IsCircled x new → HasMarkLater font n out (x ∷ xs) → HasMarkLater font (length (out ++ new)) (out ++ new) xs
later_circled font n out new x xs own rest tone circled (inl later) = inl (later_append out new later)
later_circled font n out new x xs own rest tone circled (inr (inl left)) = inl (later_with out new left.0 (circled_marks x new (tone_marks x own tone) circled))
later_circled font n out new x xs own rest tone circled (inr (inr first)) =
    let more = some_more out new (circled_some x new circled) in
    marked_still font (length (out ++ new)) (out ++ new) xs more more (rest_marked font x xs rest first.1)

later_stays : (font : FaceParts) → Stays font (HasMarkLater font)
later_stays font = record {
  keep = λ n out x xs own rest h. later_kept font n out x xs own rest h;
  form = λ n m out new x xs own rest letters some begins taken h. later_formed font n m out new x xs own rest some begins taken h;
  tone = λ n out x xs own rest tone below h. later_toned font n out x xs own rest tone below h;
  circle = λ n out new x xs own rest tone circled h. later_circled font n out new x xs own rest tone circled h;
}

pub formed_later : (font : FaceParts) (circles : Bool) (xs : List Item) → AreOwn xs → has_later_mark_of_hangul font (characters xs) ≡ true → has_later_mark (text_after font circles (length xs) 0 [] xs) ≡ true
formed_later font circles xs own e =
    let end = walk_stays font (HasMarkLater font) (later_stays font) circles (length xs) 0 [] xs (omega arith) own (inr (inr (refl, e))) in
    at_end end.0 (text_after font circles (length xs) 0 [] xs) end.1
  where
    at_end : (m : ℕ) (all : List Item) → HasMarkLater font m all [] → has_later_mark all ≡ true
    at_end m all (inl later) = later
    at_end m all (inr (inl (some, inl marked))) = let any = marked.1 in cc
    at_end m all (inr (inl (some, inr after))) = cc
    at_end m all (inr (inr first)) = let any = first.1 in cc

-- ---- the first item

first_append : (out new : List Item) → FirstPlainly out → FirstPlainly (out ++ new)
first_append [] new h = absurd h
first_append (o ∷ out) new h = h

first_anew : (out new : List Item) → length out ≡ 0 → FirstPlainly new → FirstPlainly (out ++ new)
first_anew [] new e h = h
first_anew (o ∷ out) new e h = absurd (omega (arith, e))

first_letters : (new : List Item) → AreLetters new → 0 < length new → FirstPlainly new
first_letters [] h some = absurd (omega (arith, some))
first_letters (z ∷ zs) h some = (h.0.0, h.0.1.0)

first_inserted : (n : ℕ) (out : List Item) (x : Item) → 1 ≤ n → FirstPlainly out → FirstPlainly (take n out ++ x ∷ drop n out)
first_inserted n [] x le h = absurd h
first_inserted zero (o ∷ out) x le h = absurd (omega (arith, le))
first_inserted (suc n) (o ∷ out) x le h = h

first_some : (out : List Item) → FirstPlainly out → 1 ≤ length out
first_some [] h = absurd h
first_some (o ∷ out) h = omega arith

-- the text so far begins with no mark, and no tone mark is moved before its first item; or nothing was read yet
abbrev BeginsUnmarked : FaceParts → ℕ → List Item → List Item → Type 0
BeginsUnmarked font n out xs = ((length out ≡ 0) × (FirstPlainly xs × (begins_toned font (characters xs) ≡ false))) ⊎ (FirstPlainly out × ((1 ≤ n) ⊎ (is_toned font (characters xs) ≡ false)))

first_kept : (font : FaceParts) (n : ℕ) (out : List Item) (x : Item) (xs : List Item) → BeginsUnmarked font n out (x ∷ xs) → BeginsUnmarked font (length (out ++ x ∷ [])) (out ++ x ∷ []) xs
first_kept font n out x xs (inl none) = inr (first_anew out (x ∷ []) none.0 none.1.0, inl (longer out x []))
first_kept font n out x xs (inr some) = inr (first_append out (x ∷ []) some.0, inl (longer out x []))

first_formed : (font : FaceParts) (n m : ℕ) (out new : List Item) (x : Item) (xs : List Item) → AreLetters new → 0 < length new → begins_syllable x.number ≡ true → AreContinuing (take m xs) → BeginsUnmarked font n out (x ∷ xs) → BeginsUnmarked font (length out) (out ++ new) (drop m xs)
first_formed font n m out new x xs letters some begins taken (inl none) =
    let toneless : is_toned font (characters xs) ≡ false = sym (ap (λ b. b && is_toned font (characters xs)) begins) ∙ none.1.1 in
    inr (first_anew out new none.0 (first_letters new letters some), inr (sym (toned_drop font m xs taken) ∙ toneless))
first_formed font n m out new x xs letters some begins taken (inr there) = inr (first_append out new there.0, inl (first_some out there.0))

first_toned : (font : FaceParts) (n : ℕ) (out : List Item) (x : Item) (xs : List Item) → is_moved_tone font x.number ≡ true → n < length out → BeginsUnmarked font n out (x ∷ xs) → BeginsUnmarked font (length (take n out ++ x ∷ drop n out)) (take n out ++ x ∷ drop n out) xs
first_toned font n out x xs tone below (inl none) = let zero_long = none.0 in absurd (omega (arith, zero_long, below))
first_toned font n out x xs tone below (inr (first, inl le)) = inr (first_inserted n out x le first, inl (longer (take n out) x (drop n out)))
first_toned font n out x xs tone below (inr (first, inr toneless)) = absurd (let toned = toned_at font x.number (characters xs) tone in cc)

first_circled : (font : FaceParts) (n : ℕ) (out new : List Item) (x : Item) (xs : List Item) → is_tone x.number ≡ true → IsCircled x new → BeginsUnmarked font n out (x ∷ xs) → BeginsUnmarked font (length (out ++ new)) (out ++ new) xs
first_circled font n out new x xs tone circled (inl none) = absurd (let plain = none.1.0.1 in let mark = tones_are_marks x.number tone in cc)
first_circled font n out new x xs tone circled (inr some) = inr (first_append out new some.0, inl (some_more out new (circled_some x new circled)))

first_stays : (font : FaceParts) → Stays font (BeginsUnmarked font)
first_stays font = record {
  keep = λ n out x xs own rest h. first_kept font n out x xs h;
  form = λ n m out new x xs own rest letters some begins taken h. first_formed font n m out new x xs letters some begins taken h;
  tone = λ n out x xs own rest tone below h. first_toned font n out x xs tone below h;
  circle = λ n out new x xs own rest tone circled h. first_circled font n out new x xs tone circled h;
}

pub formed_first : (font : FaceParts) (circles : Bool) (xs : List Item) → AreOwn xs → FirstPlainly xs → begins_toned font (characters xs) ≡ false → FirstPlainly (text_after font circles (length xs) 0 [] xs)
formed_first font circles xs own plain toneless =
    let end = walk_stays font (BeginsUnmarked font) (first_stays font) circles (length xs) 0 [] xs (omega arith) own (inl (refl, (plain, toneless))) in
    at_end end.0 (text_after font circles (length xs) 0 [] xs) end.1
  where
    at_end : (m : ℕ) (all : List Item) → BeginsUnmarked font m all [] → FirstPlainly all
    at_end m all (inl none) = absurd none.1.0
    at_end m all (inr there) = there.0
