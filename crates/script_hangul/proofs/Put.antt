-- Letters, syllables and tone marks that were appended to the output.
use Rattle.std.proofs.Common.{ℕ, ◌≡◌, ◌<◌, ◌+◌, ◌-◌, Bool, true, false, if◌then◌else◌, List, [], ◌∷◌, ◌++◌, Some, length, take, drop, arith, refl, ap, ap₂, sym, subst, ◌∙◌, append_assoc}
use Rattle.std.specs.Prelude.{slice_get}
use Rattle.std.proofs.lemmas.List.{append-nil, drop-drop, length-append, length-drop, length-map, length-take-le, take-append-le, drop-append-le}
use Rattle.buffer_glyphs.specs.declared.cause.ShapeCause.{ShapeCause}
use Rattle.buffer_core.specs.Readings.{View}
use Rattle.buffer_glyphs.specs.declared.info.hb_glyph_info_t.{hb_glyph_info_t}
use Rattle.buffer_glyphs.specs.Items.{Item, item_of, strip}
use Rattle.buffer_glyphs.specs.Levels.{InOutput}
use Rattle.buffer_glyphs.specs.Events.{Event, Move, Replace}
use Rattle.buffer_glyphs.specs.Replacements.{item_numbered}
use Rattle.buffer_core.specs.Sides.{Sides}
use Rattle.buffer_stages.specs.Moves.{with_range_moved, order_of_move}
use Rattle.buffer_stages.specs.Walks.{RefusesLength, HasWalked, renumbered_first}
use Rattle.buffer_stages.specs.Lemmas.Moves.{moved_length}
use Rattle.buffer_stages.proofs.Lemmas.Walked.{both_walked}
use Rattle.script_hangul.specs.declared.jamo.Letters.{Letters}
use Rattle.script_hangul.specs.declared.jamo.Letters.TheVariants.{Two, Three}
use Rattle.script_hangul.specs.Steps.{apart_step, before_syllable, circle_for, circle_beside, compose_step, keep_step, letters_from, numbers_of, letters_of_first, numbered_letter, with_tone_first, split_step, with_circle}
use Rattle.script_hangul.specs.Stepped.{Refuses, IsStepped, is_two}

-- other words for the same
renamed : (o r o' r' : List Item) (es es' : List Event) (s t : Sides) → HasWalked o r es s t → o ≡ o' → r ≡ r' → es ≡ es' → HasWalked o' r' es' s t
renamed o r o' r' es es' s t w a b c =
    subst (λ fs. HasWalked o' r' fs s t) c (record { behind = w.behind ∙ a; ahead = w.ahead ∙ b; happened = w.happened; view = w.view; settings = w.settings; opened = w.opened; unrefused = w.unrefused })

first_seen : (g : hb_glyph_info_t) (gs : List hb_glyph_info_t) → slice_get gs 0 ≡ Some g → strip gs ≡ item_of g ∷ drop 1 (strip gs)
first_seen g [] at = absurd (let bad = at in cc)
first_seen g (h ∷ gs) at = let e : h ≡ g = cc in ap (λ k. item_of k ∷ strip gs) e

seen_long : (s : Sides) → length (strip s.behind) ≡ length s.behind
seen_long s = length-map s.behind item_of

-- the number of output items
behind_long : (o r : List Item) (es : List Event) (s t : Sides) → HasWalked o r es s t → length t.behind ≡ length o
behind_long o r es s t w = sym (length-map t.behind item_of) ∙ ap (λ (xs : List Item). length xs) w.behind

-- ---- one that stays, and syllables that were composed

pub kept_whole : (whole : Bool) (n : ℕ) (s t : Sides) → whole ≡ true → n ≡ length s.behind → HasWalked (strip s.behind ++ take 1 (strip s.ahead)) (drop 1 (strip s.ahead)) [] s t → IsStepped (keep_step whole (strip s.behind) (strip s.ahead)) n s t
kept_whole true n s t e len w = record { walked = w; start = len ∙ sym (seen_long s) }
kept_whole false n s t e len w = absurd (let bad = e in cc)

pub kept_other : (whole : Bool) (n : ℕ) (s t : Sides) → whole ≡ false → n ≡ length t.behind → HasWalked (strip s.behind ++ take 1 (strip s.ahead)) (drop 1 (strip s.ahead)) [] s t → IsStepped (keep_step whole (strip s.behind) (strip s.ahead)) n s t
kept_other false n s t e len w = record { walked = w; start = len ∙ behind_long (strip s.behind ++ take 1 (strip s.ahead)) (drop 1 (strip s.ahead)) [] s t w }
kept_other true n s t e len w = absurd (let bad = e in cc)

pub composed_stepped : (count u n : ℕ) (s t : Sides) → 0 < count → n ≡ length s.behind → HasWalked (strip s.behind ++ renumbered_first u (strip s.ahead)) (drop count (strip s.ahead)) (Replace (length s.behind) count 1 ∷ []) s t
    → IsStepped (compose_step count u (strip s.behind) (strip s.ahead)) n s t
composed_stepped count u n s t some len w =
    let again : count ≡ count - 1 + 1 = omega (arith, some) in
    let o = strip s.behind ++ renumbered_first u (strip s.ahead) in
    record {
      walked = renamed o (drop count (strip s.ahead)) o (drop (count - 1 + 1) (strip s.ahead)) (Replace (length s.behind) count 1 ∷ []) (Replace (length (strip s.behind)) count 1 ∷ []) s t w refl (ap (λ k. drop k (strip s.ahead)) again) (ap (λ k. Replace k count 1 ∷ []) (sym (seen_long s)));
      start = len ∙ sym (seen_long s);
    }

-- ---- letters

pub letter_walked : (n : ℕ) (h g : hb_glyph_info_t) (s t : Sides) → slice_get s.ahead 0 ≡ Some g → item_of h ≡ numbered_letter n (item_of g) → HasWalked (strip s.behind ++ item_of h ∷ []) (drop 1 (strip s.ahead)) [] s t
    → HasWalked (strip s.behind ++ letters_from n (take 1 (strip s.ahead))) (drop 1 (strip s.ahead)) [] s t
letter_walked n h g s t at is w =
    renamed (strip s.behind ++ item_of h ∷ []) (drop 1 (strip s.ahead)) (strip s.behind ++ letters_from n (take 1 (strip s.ahead))) (drop 1 (strip s.ahead)) [] [] s t w
    (ap (λ x. strip s.behind ++ x ∷ []) is ∙ ap (λ ys. strip s.behind ++ letters_from n (take 1 ys)) (sym (first_seen g s.ahead at))) refl refl

letters_two : (xs : List Item) → letters_from 1 (take 1 xs) ++ letters_from 2 (take 1 (drop 1 xs)) ≡ letters_from 1 (take 2 xs)
letters_two [] = refl
letters_two (x ∷ []) = refl
letters_two (x ∷ y ∷ xs) = refl

letters_three : (xs : List Item) → letters_from 1 (take 2 xs) ++ letters_from 3 (take 1 (drop 2 xs)) ≡ letters_from 1 (take 3 xs)
letters_three [] = refl
letters_three (x ∷ []) = refl
letters_three (x ∷ y ∷ []) = refl
letters_three (x ∷ y ∷ z ∷ xs) = refl

pub two_letters : (s a b : Sides) → HasWalked (strip s.behind ++ letters_from 1 (take 1 (strip s.ahead))) (drop 1 (strip s.ahead)) [] s a → HasWalked (strip a.behind ++ letters_from 2 (take 1 (strip a.ahead))) (drop 1 (strip a.ahead)) [] a b
    → HasWalked (strip s.behind ++ letters_from 1 (take 2 (strip s.ahead))) (drop 2 (strip s.ahead)) [] s b
two_letters s a b w v =
    let bs = strip s.behind in
    let xs = strip s.ahead in
    let both = both_walked (bs ++ letters_from 1 (take 1 xs)) (drop 1 xs) (strip a.behind ++ letters_from 2 (take 1 (strip a.ahead))) (drop 1 (strip a.ahead)) [] [] s a b w v in
    renamed (strip a.behind ++ letters_from 2 (take 1 (strip a.ahead))) (drop 1 (strip a.ahead)) (bs ++ letters_from 1 (take 2 xs)) (drop 2 xs) [] [] s b both
    (ap (λ ys. ys ++ letters_from 2 (take 1 (strip a.ahead))) w.behind ∙ ap (λ ys. (bs ++ letters_from 1 (take 1 xs)) ++ letters_from 2 (take 1 ys)) w.ahead
    ∙ append_assoc bs (letters_from 1 (take 1 xs)) (letters_from 2 (take 1 (drop 1 xs))) ∙ ap (λ ys. bs ++ ys) (letters_two xs))
    (ap (drop 1) w.ahead ∙ drop-drop 1 1 xs) refl

pub apart_two : (count at : ℕ) (s b : Sides) → count ≡ 2 → at ≡ length s.behind → HasWalked (strip s.behind ++ letters_from 1 (take 2 (strip s.ahead))) (drop 2 (strip s.ahead)) [] s b → IsStepped (apart_step count (strip s.behind) (strip s.ahead)) at s b
apart_two count at s b is len w = rw is (record { walked = w; start = len ∙ sym (seen_long s) })

pub apart_three : (count at : ℕ) (s b t : Sides) → count ≡ 3 → at ≡ length s.behind → HasWalked (strip s.behind ++ letters_from 1 (take 2 (strip s.ahead))) (drop 2 (strip s.ahead)) [] s b
    → HasWalked (strip b.behind ++ letters_from 3 (take 1 (strip b.ahead))) (drop 1 (strip b.ahead)) [] b t → IsStepped (apart_step count (strip s.behind) (strip s.ahead)) at s t
apart_three count at s b t is len w v =
    let bs = strip s.behind in
    let xs = strip s.ahead in
    let both = both_walked (bs ++ letters_from 1 (take 2 xs)) (drop 2 xs) (strip b.behind ++ letters_from 3 (take 1 (strip b.ahead))) (drop 1 (strip b.ahead)) [] [] s b t w v in
    rw is (record {
      walked = renamed (strip b.behind ++ letters_from 3 (take 1 (strip b.ahead))) (drop 1 (strip b.ahead)) (bs ++ letters_from 1 (take 3 xs)) (drop 3 xs) [] [] s t both
          (ap (λ ys. ys ++ letters_from 3 (take 1 (strip b.ahead))) w.behind ∙ ap (λ ys. (bs ++ letters_from 1 (take 2 xs)) ++ letters_from 3 (take 1 ys)) w.ahead
          ∙ append_assoc bs (letters_from 1 (take 2 xs)) (letters_from 3 (take 1 (drop 2 xs))) ∙ ap (λ ys. bs ++ ys) (letters_three xs))
          (ap (drop 1) w.ahead ∙ drop-drop 1 2 xs)
          refl;
      start = len ∙ sym (seen_long s);
    })

-- ---- syllables that were split

pub two_parted : (l v : ℕ) (g a b : hb_glyph_info_t) (s t : Sides) → slice_get s.ahead 0 ≡ Some g → item_of a ≡ numbered_letter 1 (item_numbered (item_of g) l) → item_of b ≡ numbered_letter 2 (item_numbered (item_of g) v)
    → HasWalked (strip s.behind ++ strip (a ∷ b ∷ [])) (drop 1 (strip s.ahead)) (Replace (length s.behind) 1 2 ∷ []) s t
    → HasWalked (strip s.behind ++ letters_from 1 (letters_of_first (Two l v) (strip s.ahead))) (drop 1 (strip s.ahead)) (Replace (length s.behind) 1 2 ∷ []) s t
two_parted l v g a b s t at is_a is_b w =
    renamed (strip s.behind ++ strip (a ∷ b ∷ [])) (drop 1 (strip s.ahead)) (strip s.behind ++ letters_from 1 (letters_of_first (Two l v) (strip s.ahead))) (drop 1 (strip s.ahead)) (Replace (length s.behind) 1 2 ∷ []) (Replace (length s.behind) 1 2 ∷ []) s t w
    (ap₂ (λ x y. strip s.behind ++ (x ∷ y ∷ [])) is_a is_b ∙ ap (λ ys. strip s.behind ++ letters_from 1 (letters_of_first (Two l v) ys)) (sym (first_seen g s.ahead at))) refl refl

pub three_parted : (l v k : ℕ) (g a b c : hb_glyph_info_t) (s t : Sides) → slice_get s.ahead 0 ≡ Some g → item_of a ≡ numbered_letter 1 (item_numbered (item_of g) l) → item_of b ≡ numbered_letter 2 (item_numbered (item_of g) v) → item_of c ≡ numbered_letter 3 (item_numbered (item_of g) k)
    → HasWalked (strip s.behind ++ strip (a ∷ b ∷ c ∷ [])) (drop 1 (strip s.ahead)) (Replace (length s.behind) 1 3 ∷ []) s t
    → HasWalked (strip s.behind ++ letters_from 1 (letters_of_first (Three l v k) (strip s.ahead))) (drop 1 (strip s.ahead)) (Replace (length s.behind) 1 3 ∷ []) s t
three_parted l v k g a b c s t at is_a is_b is_c w =
    renamed (strip s.behind ++ strip (a ∷ b ∷ c ∷ [])) (drop 1 (strip s.ahead)) (strip s.behind ++ letters_from 1 (letters_of_first (Three l v k) (strip s.ahead))) (drop 1 (strip s.ahead)) (Replace (length s.behind) 1 3 ∷ []) (Replace (length s.behind) 1 3 ∷ []) s t w
    (ap₂ (λ x y. strip s.behind ++ (x ∷ y ∷ item_of c ∷ [])) is_a is_b ∙ ap (λ z. strip s.behind ++ (numbered_letter 1 (item_numbered (item_of g) l) ∷ numbered_letter 2 (item_numbered (item_of g) v) ∷ z ∷ [])) is_c
    ∙ ap (λ ys. strip s.behind ++ letters_from 1 (letters_of_first (Three l v k) ys)) (sym (first_seen g s.ahead at))) refl refl

parted_long : (letters : Letters) (xs : List Item) → 0 < length xs → length (letters_from 1 (letters_of_first letters xs)) ≡ length (numbers_of letters)
parted_long letters [] lt = absurd (omega (arith, lt))
parted_long (Two l v) (x ∷ xs) lt = refl
parted_long (Three l v t) (x ∷ xs) lt = refl

some_items : (s : Sides) → 0 < length s.ahead → 0 < length (strip s.ahead)
some_items s lt = let n = length-map s.ahead item_of in omega (arith, n, lt)

pub pieces_behind : (letters : Letters) (s m : Sides) → 0 < length s.ahead → HasWalked (strip s.behind ++ letters_from 1 (letters_of_first letters (strip s.ahead))) (drop 1 (strip s.ahead)) (Replace (length s.behind) 1 (length (numbers_of letters)) ∷ []) s m
    → length m.behind ≡ length s.behind + length (numbers_of letters)
pieces_behind letters s m some w =
    let a = behind_long (strip s.behind ++ letters_from 1 (letters_of_first letters (strip s.ahead))) (drop 1 (strip s.ahead)) (Replace (length s.behind) 1 (length (numbers_of letters)) ∷ []) s m w in
    let b = length-append (strip s.behind) (letters_from 1 (letters_of_first letters (strip s.ahead))) in
    let c = parted_long letters (strip s.ahead) (some_items s some) in
    let d = seen_long s in
    omega (arith, a, b, c, d)

pub pieces_ahead : (letters : Letters) (s m : Sides) → HasWalked (strip s.behind ++ letters_from 1 (letters_of_first letters (strip s.ahead))) (drop 1 (strip s.ahead)) (Replace (length s.behind) 1 (length (numbers_of letters)) ∷ []) s m → length m.ahead ≡ length s.ahead - 1
pieces_ahead letters s m w =
    let a = length-map m.ahead item_of in
    let b = ap (λ (xs : List Item). length xs) w.ahead in
    let c = length-drop 1 (strip s.ahead) in
    let d = length-map s.ahead item_of in
    omega (arith, a, b, c, d)

pub split_alone : (letters : Letters) (joins : Bool) (at : ℕ) (s m : Sides) → joins ≡ false → at ≡ length s.behind
    → HasWalked (strip s.behind ++ letters_from 1 (letters_of_first letters (strip s.ahead))) (drop 1 (strip s.ahead)) (Replace (length s.behind) 1 (length (numbers_of letters)) ∷ []) s m
    → IsStepped (split_step letters (if joins then 1 else 0) (strip s.behind) (strip s.ahead)) at s m
split_alone letters true at s m none len w = absurd (let bad = none in cc)
split_alone letters false at s m none len w =
    let bs = strip s.behind in
    let xs = strip s.ahead in
    let k = length (numbers_of letters) in
    record {
      walked = renamed (bs ++ letters_from 1 (letters_of_first letters xs)) (drop 1 xs) (bs ++ letters_from 1 (letters_of_first letters xs ++ [])) (drop 1 xs) (Replace (length s.behind) 1 k ∷ []) (Replace (length bs) 1 k ∷ []) s m w
          (ap (λ ys. bs ++ letters_from 1 ys) (sym (append-nil (letters_of_first letters xs)))) refl (ap (λ i. Replace i 1 k ∷ []) (sym (seen_long s)));
      start = len ∙ sym (seen_long s);
    }

joined_out : (l v : ℕ) (bs xs : List Item) → 0 < length xs → (bs ++ letters_from 1 (letters_of_first (Two l v) xs)) ++ letters_from 3 (take 1 (drop 1 xs)) ≡ bs ++ letters_from 1 (letters_of_first (Two l v) xs ++ take 1 (drop 1 xs))
joined_out l v bs [] lt = absurd (omega (arith, lt))
joined_out l v bs (x ∷ xs) lt = append_assoc bs (letters_from 1 (letters_of_first (Two l v) (x ∷ xs))) (letters_from 3 (take 1 xs))

pub split_joined : (letters : Letters) (joins : Bool) (at : ℕ) (s m t : Sides) → joins ≡ true → is_two letters ≡ true → 0 < length s.ahead → at ≡ length s.behind
    → HasWalked (strip s.behind ++ letters_from 1 (letters_of_first letters (strip s.ahead))) (drop 1 (strip s.ahead)) (Replace (length s.behind) 1 (length (numbers_of letters)) ∷ []) s m
    → HasWalked (strip m.behind ++ letters_from 3 (take 1 (strip m.ahead))) (drop 1 (strip m.ahead)) [] m t → IsStepped (split_step letters (if joins then 1 else 0) (strip s.behind) (strip s.ahead)) at s t
split_joined letters false at s m t j two some len w v = absurd (let bad = j in cc)
split_joined (Three l k z) true at s m t j two some len w v = absurd (let bad = two in cc)
split_joined (Two l k) true at s m t j two some len w v =
    let bs = strip s.behind in
    let xs = strip s.ahead in
    let both = both_walked (bs ++ letters_from 1 (letters_of_first (Two l k) xs)) (drop 1 xs) (strip m.behind ++ letters_from 3 (take 1 (strip m.ahead))) (drop 1 (strip m.ahead)) (Replace (length s.behind) 1 2 ∷ []) [] s m t w v in
    record {
      walked = renamed (strip m.behind ++ letters_from 3 (take 1 (strip m.ahead))) (drop 1 (strip m.ahead)) (bs ++ letters_from 1 (letters_of_first (Two l k) xs ++ take 1 (drop 1 xs))) (drop 2 xs)
          (Replace (length s.behind) 1 2 ∷ []) (Replace (length bs) 1 2 ∷ []) s t both
          (ap (λ ys. ys ++ letters_from 3 (take 1 (strip m.ahead))) w.behind ∙ ap (λ ys. (bs ++ letters_from 1 (letters_of_first (Two l k) xs)) ++ letters_from 3 (take 1 ys)) w.ahead ∙ joined_out l k bs xs (some_items s some))
          (ap (drop 1) w.ahead ∙ drop-drop 1 1 xs)
          (ap (λ i. Replace i 1 2 ∷ []) (sym (seen_long s)));
      start = len ∙ sym (seen_long s);
    }

pub two_long : (letters : Letters) → is_two letters ≡ true → length (numbers_of letters) ≡ 2
two_long (Two l v) e = refl
two_long (Three l v t) e = absurd (let bad = e in cc)

joined_long : (letters : Letters) (xs : List Item) → is_two letters ≡ true → 1 < length xs → length (letters_from 1 (letters_of_first letters xs ++ take 1 (drop 1 xs))) ≡ 3
joined_long (Three l v t) xs e lt = absurd (let bad = e in cc)
joined_long (Two l v) [] e lt = absurd (omega (arith, lt))
joined_long (Two l v) (x ∷ []) e lt = absurd (omega (arith, lt))
joined_long (Two l v) (x ∷ y ∷ xs) e lt = refl

-- a third letter after two that makes the list too long
pub joined_exceeds : (letters : Letters) (joins : Bool) (e : ShapeCause) (s m : Sides) → joins ≡ true → is_two letters ≡ true → 1 < length s.ahead
    → HasWalked (strip s.behind ++ letters_from 1 (letters_of_first letters (strip s.ahead))) (drop 1 (strip s.ahead)) (Replace (length s.behind) 1 (length (numbers_of letters)) ∷ []) s m
    → RefusesLength (length m.behind + 1) e m → Refuses (split_step letters (if joins then 1 else 0) (strip s.behind) (strip s.ahead)) e s
joined_exceeds letters false e s m j two more w over = absurd (let bad = j in cc)
joined_exceeds letters true e s m j two more w over = λ other.
    let o = over other in
    let past = o.1 in
    let limit : m.max_len ≡ s.max_len = ap (λ (v : View). v.max_len) w.view in
    let many = pieces_behind letters s m (omega (arith, more)) w in
    let k = two_long letters two in
    let long = joined_long letters (strip s.ahead) two (let n = length-map s.ahead item_of in omega (arith, n, more)) in
    let sums = length-append (strip s.behind) (letters_from 1 (letters_of_first letters (strip s.ahead) ++ take 1 (drop 1 (strip s.ahead)))) in
    let b = seen_long s in
    (o.0, omega (arith, past, limit, many, k, long, sums, b))

-- ---- tone marks

pub thin_circled : (thin : Bool) (g h : hb_glyph_info_t) (s : Sides) → thin ≡ true → slice_get s.ahead 0 ≡ Some g → item_of h ≡ circle_for (item_of g) → strip (h ∷ g ∷ []) ≡ circle_beside thin (strip s.ahead)
thin_circled true g h s e at is = ap (λ x. x ∷ item_of g ∷ []) is ∙ ap (circle_beside true) (sym (first_seen g s.ahead at))
thin_circled false g h s e at is = absurd (let bad = e in cc)

pub wide_circled : (thin : Bool) (g h : hb_glyph_info_t) (s : Sides) → thin ≡ false → slice_get s.ahead 0 ≡ Some g → item_of h ≡ circle_for (item_of g) → strip (g ∷ h ∷ []) ≡ circle_beside thin (strip s.ahead)
wide_circled false g h s e at is = ap (λ x. item_of g ∷ x ∷ []) is ∙ ap (circle_beside false) (sym (first_seen g s.ahead at))
wide_circled true g h s e at is = absurd (let bad = e in cc)

pub circle_stepped : (thin : Bool) (n : ℕ) (gs : List Item) (s t : Sides) → gs ≡ circle_beside thin (strip s.ahead) → n ≡ length t.behind → HasWalked (strip s.behind ++ gs) (drop 1 (strip s.ahead)) (Replace (length s.behind) 1 2 ∷ []) s t
    → IsStepped (with_circle thin (strip s.behind) (strip s.ahead)) n s t
circle_stepped thin n gs s t e len w =
    let o = strip s.behind ++ circle_beside thin (strip s.ahead) in
    let r = drop 1 (strip s.ahead) in
    let w' = renamed (strip s.behind ++ gs) r o r (Replace (length s.behind) 1 2 ∷ []) (Replace (length (strip s.behind)) 1 2 ∷ []) s t w (ap (λ ys. strip s.behind ++ ys) e) refl (ap (λ k. Replace k 1 2 ∷ []) (sym (seen_long s))) in
    record { walked = w'; start = len ∙ behind_long o r (Replace (length (strip s.behind)) 1 2 ∷ []) s t w' }

one_long : (s : Sides) → 0 < length s.ahead → length (take 1 (strip s.ahead)) ≡ 1
one_long s some = let n = some_items s some in length-take-le 1 (strip s.ahead) (omega (arith, n))

none_left : (xs : List Item) → drop (length xs) xs ≡ []
none_left [] = refl
none_left (x ∷ xs) = none_left xs

-- an output item after others is moved before some of them
put_moved : (start n : ℕ) (bs one : List Item) → start + n ≡ length bs → length one ≡ 1 → with_range_moved start n 1 (bs ++ one) ≡ take start bs ++ (one ++ drop start bs)
put_moved start n bs one sum long =
    let past : start + (n + 1) ≡ length bs + 1 = omega (arith, sum) in
    let there : drop (length bs) (bs ++ one) ≡ one = drop-append-le (length bs) bs one (omega arith) ∙ ap (λ ys. ys ++ one) (none_left bs) in
    let end : drop (length bs + 1) (bs ++ one) ≡ [] = sym (drop-drop 1 (length bs) (bs ++ one)) ∙ ap (drop 1) there ∙ ap (λ k. drop k one) (sym long) ∙ none_left one in
    let rest : take n (drop start bs ++ one) ≡ drop start bs = take-append-le n (drop start bs) one (omega (arith, sum, length-drop start bs)) ∙ whole n (drop start bs) (omega (arith, sum, length-drop start bs)) in
    rw (sum, past, there, end, take-append-le start bs one (omega (arith, sum)), drop-append-le start bs one (omega (arith, sum)), rest, whole 1 one long) (append-nil (take start bs ++ (one ++ drop start bs)))
  where
    all : (xs : List Item) → take (length xs) xs ≡ xs
    all [] = refl
    all (x ∷ xs) = ap (λ ys. x ∷ ys) (all xs)

    whole : (m : ℕ) (xs : List Item) → length xs ≡ m → take m xs ≡ xs
    whole m xs e = ap (λ j. take j xs) (sym e) ∙ all xs

pub before_stepped : (start middle end : ℕ) (s m t : Sides) → start < length s.behind → middle ≡ length s.behind → end ≡ length m.behind → 0 < length s.ahead
    → HasWalked (strip s.behind ++ take 1 (strip s.ahead)) (drop 1 (strip s.ahead)) [] s m
    → HasWalked (with_range_moved start (middle - start) (end - middle) (strip m.behind)) (strip m.ahead) (Move InOutput start (order_of_move (middle - start) (end - middle)) ∷ []) m t
    → IsStepped (before_syllable start (strip s.behind) (strip s.ahead)) end s t
before_stepped start middle end s m t lt is_middle is_end some w v =
    let bs = strip s.behind in
    let one = take 1 (strip s.ahead) in
    let r = drop 1 (strip s.ahead) in
    let b = seen_long s in
    let long = one_long s some in
    let many = behind_long (bs ++ one) r [] s m w in
    let sums = length-append bs one in
    let n = middle - start in
    let one_more : end - middle ≡ 1 = omega (arith, is_middle, is_end, many, sums, long, b) in
    let left : n ≡ length bs - start = omega (arith, is_middle, b) in
    let both = both_walked (bs ++ one) r (with_range_moved start n (end - middle) (strip m.behind)) (strip m.ahead) [] (Move InOutput start (order_of_move n (end - middle)) ∷ []) s m t w v in
    let out : with_range_moved start n (end - middle) (strip m.behind) ≡ with_tone_first start bs (strip s.ahead) =
    ap₂ (λ k ys. with_range_moved start n k ys) one_more w.behind ∙ put_moved start n bs one (omega (arith, is_middle, b, lt)) long in
    let w' = renamed (with_range_moved start n (end - middle) (strip m.behind)) (strip m.ahead) (with_tone_first start bs (strip s.ahead)) r (Move InOutput start (order_of_move n (end - middle)) ∷ []) (Move InOutput start (order_of_move (length bs - start) 1) ∷ []) s t both out w.ahead
    (ap₂ (λ i j. Move InOutput start (order_of_move i j) ∷ []) left one_more) in
    let same : length (with_tone_first start bs (strip s.ahead)) ≡ length (strip m.behind) = ap (λ (ys : List Item). length ys) (sym out) ∙ moved_length start n (end - middle) (strip m.behind) (omega (arith, one_more, is_middle, many, sums, long, b, lt, length-map m.behind item_of)) in
    record { walked = w'; start = is_end ∙ sym (length-map m.behind item_of) ∙ sym same }
