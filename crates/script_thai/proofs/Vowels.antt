-- A text whose vowels are split one after another.
use Rattle.std.proofs.Common.{ℕ, zero, suc, ◌≡◌, ◌≢◌, ◌≤◌, ◌+◌, ◌-◌, Bool, true, false, nat_le, if◌then◌else◌, List, [], ◌∷◌, ◌++◌, Err, Some, length, take, drop, refl, sym, ap, subst, ◌∙◌, append_assoc, arith, add-one}
use Rattle.std.specs.Prelude.{not, ◌&&◌, slice_get}
use Rattle.std.specs.List.{list_all}
use Rattle.std.proofs.lemmas.Bool.{and_from, and_parts}
use Rattle.std.proofs.lemmas.Bool.Decides.{nat_tests}
use Rattle.std.proofs.lemmas.List.{append-nil, length-append, length-drop, length-map, length-take-le, take-append-drop}
use Rattle.buffer_glyphs.specs.declared.cause.ShapeCause.{ShapeCause}
use Rattle.buffer_glyphs.specs.declared.cause.ShapeCause.TheVariants.{OutOfMemory, TooLong}
use Rattle.buffer_glyphs.specs.declared.info.hb_glyph_info_t.{hb_glyph_info_t}
use Rattle.buffer_glyphs.specs.Items.{Item, item_of, strip}
use Rattle.buffer_glyphs.specs.Events.{Event}
use Rattle.buffer_core.specs.Readings.{reading_of}
use Rattle.buffer_core.specs.Sides.{Sides, all_glyphs, items_of, state_of, with_output, after_sync, fits_joined}
use Rattle.buffer_stages.specs.Ready.{IsReady}
use Rattle.buffer_stages.specs.Stages.{IsFollowed}
use Rattle.buffer_stages.specs.Walks.{RefusesLength, HasWalked}
use Rattle.buffer_stages.proofs.Lemmas.Walked.{both_walked, nothing_walked, walked_followed}
use Rattle.script_thai.proofs.Vowel.{vowel_is, vowel_long}
use Rattle.script_thai.specs.ThaiVowel.{count_above, is_sara_am, with_vowel, with_character, text_with_splits, events_of_character, events_of_vowel, split_events, vowels_split}
use Rattle.buffer_stages.proofs.Lemmas.Fitting.{limit_same, written_exceed, written_fit}

-- the output and input together are what the whole walk makes
pub record IsUnderway (left : ℕ) (s t : Sides) : Type 0 where
  pub events : List Event
  pub walked : HasWalked (strip t.behind) (strip t.ahead) events s t
  pub items : text_with_splits (strip t.behind) (strip t.ahead) ≡ text_with_splits [] (items_of s)
  pub whole : events ++ split_events (strip t.behind) (strip t.ahead) ≡ split_events [] (items_of s)
  pub count : length t.ahead ≡ left

pub begun : (n : ℕ) (s : Sides) → length (all_glyphs s) ≡ n → IsUnderway n (with_output s) (with_output s)
begun n s e = record { events = []; walked = nothing_walked (with_output s) refl; items = refl; whole = refl; count = e }

-- characters, and then others
pub splits_both : (out xs ys : List Item) → text_with_splits out (xs ++ ys) ≡ text_with_splits (text_with_splits out xs) ys
splits_both out [] ys = refl
splits_both out (x ∷ xs) ys = splits_both (with_character out x) xs ys

pub events_both : (out xs ys : List Item) → split_events out (xs ++ ys) ≡ split_events out xs ++ split_events (text_with_splits out xs) ys
events_both out [] ys = refl
events_both out (x ∷ xs) ys =
    ap (λ es. events_of_character out x ++ es) (events_both (with_character out x) xs ys)
    ∙ sym (append_assoc (events_of_character out x) (split_events (with_character out x) xs) (split_events (text_with_splits (with_character out x) xs) ys))

-- the first n of the characters ahead, decomposed
abbrev pub FirstWalked : ℕ → Sides → Sides → Type 0
FirstWalked n s new = HasWalked (text_with_splits (strip s.behind) (take n (strip s.ahead))) (drop n (strip s.ahead)) (split_events (strip s.behind) (take n (strip s.ahead))) s new

-- so many characters more
pub more : (left n : ℕ) (s t u : Sides) → IsUnderway left s t → FirstWalked n t u → IsUnderway (left - n) s u
more left n s t u h w =
    let out = strip t.behind in
    let xs = strip t.ahead in
    let es = split_events out (take n xs) in
    let all = take-append-drop n xs in
    let both = both_walked out xs (text_with_splits out (take n xs)) (drop n xs) h.events es s t u h.walked w in
    record {
      events = h.events ++ es;
      walked = record { behind = refl; ahead = refl; happened = both.happened; view = both.view; settings = both.settings; opened = both.opened; unrefused = both.unrefused };
      items =
          ap (λ o. text_with_splits o (strip u.ahead)) w.behind ∙ ap (text_with_splits (text_with_splits out (take n xs))) w.ahead
          ∙ sym (splits_both out (take n xs) (drop n xs)) ∙ ap (text_with_splits out) all ∙ h.items;
      whole =
          append_assoc h.events es (split_events (strip u.behind) (strip u.ahead))
          ∙ ap (λ o. h.events ++ (es ++ split_events o (strip u.ahead))) w.behind
          ∙ ap (λ r. h.events ++ (es ++ split_events (text_with_splits out (take n xs)) r)) w.ahead
          ∙ ap (λ r. h.events ++ r) (sym (events_both out (take n xs) (drop n xs)) ∙ ap (split_events out) all) ∙ h.whole;
      count = sym (length-map u.ahead item_of) ∙ ap (λ (ys : List Item). length ys) w.ahead ∙ length-drop n xs ∙ ap (λ m. m - n) (length-map t.ahead item_of ∙ h.count);
    }

-- all characters
all_walked : (s t : Sides) → IsUnderway 0 s t → HasWalked (text_with_splits [] (items_of s)) [] (split_events [] (items_of s)) s t
all_walked s t h = by_ahead t.ahead refl
  where
    by_ahead : (gs : List hb_glyph_info_t) → t.ahead ≡ gs → HasWalked (text_with_splits [] (items_of s)) [] (split_events [] (items_of s)) s t
    by_ahead (g ∷ gs) e = absurd (let some = ap (λ (ys : List hb_glyph_info_t). length ys) e in let c = h.count in omega (arith, some, c))
    by_ahead [] e =
        let none : strip t.ahead ≡ [] = ap strip e in
        let w = h.walked in
        let out : strip t.behind ≡ text_with_splits [] (items_of s) = ap (text_with_splits (strip t.behind)) (sym none) ∙ h.items in
        let es : h.events ≡ split_events [] (items_of s) = sym (append-nil h.events) ∙ ap (λ r. h.events ++ split_events (strip t.behind) r) (sym none) ∙ h.whole in
        subst (λ fs. HasWalked (text_with_splits [] (items_of s)) [] fs s t) es
        (record { behind = out; ahead = none; happened = w.happened; view = w.view; settings = w.settings; opened = w.opened; unrefused = w.unrefused })

pub text_followed : (s t new : Sides) → IsReady s → IsUnderway 0 (with_output s) t → fits_joined t ≡ true → new ≡ after_sync t → IsFollowed vowels_split s new
text_followed s t new ready h fits is =
    let w = all_walked (with_output s) t h in
    let xs = text_with_splits [] (items_of s) in
    let within = written_fit xs (split_events [] (items_of s)) s t w fits in
    walked_followed vowels_split xs (split_events [] (items_of s)) (λ level. split_events [] (items_of s)) s t new ready w is (rw within refl) refl

pub text_too_long : (e : ShapeCause) (s t : Sides) → IsReady s → IsUnderway 0 (with_output s) t → (e ≢ OutOfMemory → (e ≡ TooLong) × (fits_joined t ≡ false)) → e ≢ OutOfMemory → reading_of vowels_split (state_of s) ≡ Err e
text_too_long e s t ready h over other =
    let w = all_walked (with_output s) t h in
    let xs = text_with_splits [] (items_of s) in
    let o = over other in
    let within = written_exceed xs (split_events [] (items_of s)) s t ready w o.1 in
    rw within (ap Err (sym o.0))

vowel_grows : (out : List Item) (x : Item) → length out ≤ length (with_vowel out x)
vowel_grows out x = let n = vowel_long out x in omega (arith, n)

character_grows : (out : List Item) (x : Item) (t : Bool) → length out ≤ length (if t then with_vowel out x else out ++ x ∷ [])
character_grows out x true = vowel_grows out x
character_grows out x false = let a = length-append out (x ∷ []) in omega (arith, a)

pub grows : (out xs : List Item) → length out ≤ length (text_with_splits out xs)
grows out [] = omega arith
grows out (x ∷ xs) = let a = character_grows out x (is_sara_am x) in let b = grows (with_character out x) xs in omega (arith, a, b)

-- characters that were too many
pub too_long : (left : ℕ) (e : ShapeCause) (s t : Sides) → IsUnderway left (with_output s) t → RefusesLength (length (text_with_splits (strip t.behind) (strip t.ahead))) e t → e ≢ OutOfMemory → reading_of vowels_split (state_of s) ≡ Err e
too_long left e s t h over other =
    let o = over other in
    let limit = limit_same (strip t.behind) (strip t.ahead) h.events (with_output s) t h.walked in
    let many : length (text_with_splits (strip t.behind) (strip t.ahead)) ≡ length (text_with_splits [] (items_of s)) = ap (λ (ys : List Item). length ys) h.items in
    let past = o.1 in
    let within : nat_le (length (text_with_splits [] (items_of s))) s.max_len ≡ false = grind (arith, nat_tests, limit, many, past) in
    rw within (ap Err (sym o.0))

-- ---- the vowel at the cursor

pub vowel_first : (g : hb_glyph_info_t) (s new : Sides) → slice_get s.ahead 0 ≡ Some g → is_sara_am (item_of g) ≡ true
    → ((x : Item) (xs : List Item) → strip s.ahead ≡ x ∷ xs → HasWalked (with_vowel (strip s.behind) x) xs (events_of_vowel (length s.behind) (count_above (strip s.behind))) s new) → FirstWalked 1 s new
vowel_first g s new there is w = by_ahead s.ahead refl
  where
    by_ahead : (gs : List hb_glyph_info_t) → s.ahead ≡ gs → FirstWalked 1 s new
    by_ahead [] e = absurd (let none = sym (ap (λ (hs : List hb_glyph_info_t). slice_get hs 0) e) ∙ there in cc)
    by_ahead (h ∷ hs) e =
        let x = item_of h in
        let seen : strip s.ahead ≡ x ∷ strip hs = ap strip e in
        let one = vowel_is g x (strip hs) s new there seen is (w x (strip hs) seen) in
        let P : List Item → Type 0 = λ ys. HasWalked (text_with_splits (strip s.behind) (take 1 ys)) (drop 1 ys) (split_events (strip s.behind) (take 1 ys)) s new in
        subst P (sym seen) (subst (λ es. HasWalked (with_character (strip s.behind) x) (strip hs) es s new) (sym (append-nil (events_of_character (strip s.behind) x))) one)

-- more than so many glyphs are too many
exceeds_more : (n m : ℕ) (e : ShapeCause) (s : Sides) → n ≤ m → RefusesLength n e s → RefusesLength m e s
exceeds_more n m e s le over = λ other. let o = over other in let past = o.1 in (o.0, omega (arith, le, past))

pub vowel_exceeds : (g : hb_glyph_info_t) (e : ShapeCause) (s : Sides) → slice_get s.ahead 0 ≡ Some g → is_sara_am (item_of g) ≡ true → RefusesLength (length s.behind + 2) e s → RefusesLength (length (text_with_splits (strip s.behind) (strip s.ahead))) e s
vowel_exceeds g e s there is over = by_ahead s.ahead refl
  where
    by_ahead : (gs : List hb_glyph_info_t) → s.ahead ≡ gs → RefusesLength (length (text_with_splits (strip s.behind) (strip s.ahead))) e s
    by_ahead [] f = absurd (let none = sym (ap (λ (hs : List hb_glyph_info_t). slice_get hs 0) f) ∙ there in cc)
    by_ahead (h ∷ hs) f =
        let out = strip s.behind in
        let first : h ≡ g = let at : slice_get (h ∷ hs) 0 ≡ Some g = sym (ap (λ (ks : List hb_glyph_info_t). slice_get ks 0) f) ∙ there in cc in
        let is_one : is_sara_am (item_of h) ≡ true = ap (λ k. is_sara_am (item_of k)) first ∙ is in
        let two : length (with_character out (item_of h)) ≡ length s.behind + 2 = ap (λ b. length (if b then with_vowel out (item_of h) else out ++ item_of h ∷ [])) is_one ∙ vowel_long out (item_of h) ∙ ap (λ m. m + 2) (length-map s.behind item_of) in
        let rest = grows (with_character out (item_of h)) (strip hs) in
        let all : length (text_with_splits out (strip s.ahead)) ≡ length (text_with_splits (with_character out (item_of h)) (strip hs)) = ap (λ ks. length (text_with_splits out (strip ks))) f in
        exceeds_more (length s.behind + 2) (length (text_with_splits out (strip s.ahead))) e s (omega (arith, two, rest, all)) over

-- ---- characters before the next vowel

abbrev pub are_others : List Item → Bool
are_others xs = list_all (λ x. not (is_sara_am x)) xs

other_kept : (out : List Item) (x : Item) (xs : List Item) (t : Bool) → is_sara_am x ≡ t → (not t && are_others xs) ≡ true
    → (are_others xs ≡ true → (text_with_splits (out ++ x ∷ []) xs ≡ (out ++ x ∷ []) ++ xs) × (split_events (out ++ x ∷ []) xs ≡ []))
    → (text_with_splits (with_character out x) xs ≡ out ++ x ∷ xs) × (events_of_character out x ++ split_events (with_character out x) xs ≡ [])
other_kept out x xs true is e rest = absurd (let bad = e in cc)
other_kept out x xs false is e rest =
    let h = rest e in (
      ap (λ b. text_with_splits (if b then with_vowel out x else out ++ x ∷ []) xs) is ∙ h.0 ∙ append_assoc out (x ∷ []) xs,
      ap (λ b. (if b then events_of_vowel (length out) (count_above out) else []) ++ split_events (if b then with_vowel out x else out ++ x ∷ []) xs) is ∙ h.1,
    )

others_kept : (out xs : List Item) → are_others xs ≡ true → (text_with_splits out xs ≡ out ++ xs) × (split_events out xs ≡ [])
others_kept out [] e = (sym (append-nil out), refl)
others_kept out (x ∷ xs) e = other_kept out x xs (is_sara_am x) refl e (others_kept (out ++ x ∷ []) xs)

pub others_walked : (n : ℕ) (s new : Sides) → are_others (take n (strip s.ahead)) ≡ true
    → HasWalked (strip s.behind ++ take n (strip s.ahead)) (drop n (strip s.ahead)) [] s new → FirstWalked n s new
others_walked n s new e w =
    let h = others_kept (strip s.behind) (take n (strip s.ahead)) e in
    subst (λ es. HasWalked (text_with_splits (strip s.behind) (take n (strip s.ahead))) (drop n (strip s.ahead)) es s new) (sym h.1)
    (record { behind = w.behind ∙ sym h.0; ahead = w.ahead; happened = w.happened; view = w.view; settings = w.settings; opened = w.opened; unrefused = w.unrefused })

pub others_exceed : (n : ℕ) (e : ShapeCause) (s : Sides) → n ≤ length s.ahead → are_others (take n (strip s.ahead)) ≡ true → RefusesLength (length s.behind + n) e s
    → RefusesLength (length (text_with_splits (strip s.behind) (strip s.ahead))) e s
others_exceed n e s le are over =
    let out = strip s.behind in
    let xs = strip s.ahead in
    let a : text_with_splits out xs ≡ text_with_splits (text_with_splits out (take n xs)) (drop n xs) = ap (text_with_splits out) (sym (take-append-drop n xs)) ∙ splits_both out (take n xs) (drop n xs) in
    let b : length (text_with_splits out xs) ≡ length (text_with_splits (text_with_splits out (take n xs)) (drop n xs)) = ap (λ (ys : List Item). length ys) a in
    let c = grows (text_with_splits out (take n xs)) (drop n xs) in
    let d : length (text_with_splits out (take n xs)) ≡ length (out ++ take n xs) = ap (λ (ys : List Item). length ys) (others_kept out (take n xs) are).0 in
    let f = length-append out (take n xs) in
    let many = length-map s.ahead item_of in
    let g = length-take-le n xs (omega (arith, le, many)) in
    let k = length-map s.behind item_of in
    exceeds_more (length s.behind + n) (length (text_with_splits out xs)) e s (omega (arith, b, c, d, f, g, k)) over

-- ---- counting them

pub first_other : (g : hb_glyph_info_t) (gs : List hb_glyph_info_t) → slice_get gs 0 ≡ Some g → is_sara_am (item_of g) ≡ false → are_others (take 1 (strip gs)) ≡ true
first_other g [] at is = absurd (let none = at in cc)
first_other g (h ∷ hs) at is = let e : h ≡ g = cc in ap (λ k. not (is_sara_am (item_of k)) && true) e ∙ ap (λ b. not b && true) is

next_other : (i : ℕ) (g : hb_glyph_info_t) (gs : List hb_glyph_info_t) → slice_get gs i ≡ Some g → is_sara_am (item_of g) ≡ false → are_others (take i (strip gs)) ≡ true → are_others (take (suc i) (strip gs)) ≡ true
next_other zero g gs at is all = first_other g gs at is
next_other (suc i) g [] at is all = absurd (let none = at in cc)
next_other (suc i) g (h ∷ hs) at is all =
    let parts = and_parts (not (is_sara_am (item_of h))) (are_others (take i (strip hs))) all in
    and_from (not (is_sara_am (item_of h))) (are_others (take (suc i) (strip hs))) parts.0 (next_other i g hs at is parts.1)

pub one_other : (i : ℕ) (g : hb_glyph_info_t) (gs : List hb_glyph_info_t) → slice_get gs i ≡ Some g → is_sara_am (item_of g) ≡ false → are_others (take i (strip gs)) ≡ true → are_others (take (i + 1) (strip gs)) ≡ true
one_other i g gs at is all = rw add-one (next_other i g gs at is all)
