-- A vowel whose two halves were appended to the output.
use Rattle.std.proofs.Common.{ℕ, ◌≡◌, ◌≤◌, ◌+◌, ◌-◌, ◌==◌, Bool, true, false, if◌then◌else◌, List, [], ◌∷◌, ◌++◌, Some, length, take, drop, arith, refl, ap, sym, subst, ◌∙◌, append_assoc}
use Rattle.std.specs.Prelude.{slice_get}
use Rattle.std.proofs.lemmas.List.{append-nil, drop-drop, length-append, length-drop, length-map, length-take-le, take-append-drop, take-append-le, drop-append-le}
use Rattle.buffer_glyphs.specs.declared.info.hb_glyph_info_t.{hb_glyph_info_t}
use Rattle.buffer_glyphs.specs.Items.{Item, item_of, strip}
use Rattle.buffer_glyphs.specs.Events.{Move, Replace}
use Rattle.buffer_glyphs.specs.Levels.{InOutput}
use Rattle.buffer_core.specs.Sides.{Sides}
use Rattle.buffer_stages.specs.Moves.{with_range_moved, order_of_move}
use Rattle.buffer_stages.specs.Walks.{HasWalked}
use Rattle.buffer_stages.proofs.Lemmas.Walked.{both_walked}
use Rattle.script_thai.specs.ThaiVowel.{count_above, is_sara_am, nikhahit, sara_aa, with_vowel, with_character, events_of_vowel, events_of_character, move_of_vowel}

item_ahead : (g : hb_glyph_info_t) (hs : List hb_glyph_info_t) (x : Item) (xs : List Item) → slice_get hs 0 ≡ Some g → strip hs ≡ x ∷ xs → x ≡ item_of g
item_ahead g [] x xs at seen = absurd (let bad = at in cc)
item_ahead g (h ∷ hs) x xs at seen = let e : h ≡ g = cc in let f : x ≡ item_of h = cc in f ∙ ap item_of e

nothing_moved_by : (at : ℕ) (xs : List Item) → take at xs ++ (take 1 (drop at xs) ++ take 0 (drop at xs)) ++ drop (at + 1) xs ≡ xs
nothing_moved_by at xs =
    ap (λ ys. take at xs ++ ys ++ drop (at + 1) xs) (append-nil (take 1 (drop at xs)))
    ∙ append_assoc (take at xs) (take 1 (drop at xs)) (drop (at + 1) xs)
    ∙ ap (λ ys. take at xs ++ (take 1 (drop at xs) ++ ys)) (sym (drop-drop 1 at xs))
    ∙ ap (λ ys. take at xs ++ ys) (take-append-drop 1 (drop at xs)) ∙ take-append-drop at xs

-- a move of none
pub nothing_moved : (at marks : ℕ) (xs : List Item) → marks ≡ 0 → with_range_moved (at - marks) marks 1 xs ≡ xs
nothing_moved at marks xs e =
    let a : at - 0 ≡ at = omega arith in
    let b : at + 0 ≡ at = omega arith in
    let c : at + (0 + 1) ≡ at + 1 = omega arith in
    rw (e, a, b, c) (nothing_moved_by at xs)

-- the first part before the marks above that end a text
vowel_moved : (out : List Item) (n : ℕ) (a b : Item) → n ≤ length out → with_range_moved (length out - n) n 1 (out ++ (a ∷ b ∷ [])) ≡ take (length out - n) out ++ (a ∷ drop (length out - n) out) ++ b ∷ []
vowel_moved out n a b le =
    let k = length out - n in
    let s : k + n ≡ length out = omega (arith, le) in
    let t : k + (n + 1) ≡ length out + 1 = omega (arith, le) in
    let ab : List Item = a ∷ b ∷ [] in
    let past : (m : ℕ) → drop (length out + m) (out ++ ab) ≡ drop m ab = λ m. sym (drop-drop m (length out) (out ++ ab)) ∙ ap (drop m) (drop-append-le (length out) out ab (omega arith) ∙ ap (λ ys. ys ++ ab) (none_left out)) in
    let there : drop (length out) (out ++ ab) ≡ ab = drop-append-le (length out) out ab (omega arith) ∙ ap (λ ys. ys ++ ab) (none_left out) in
    rw (s, t, take-append-le k out ab (omega arith), drop-append-le k out ab (omega arith), past 1, there)
    (ap (λ ys. take k out ++ (a ∷ ys) ++ b ∷ []) (take-append-le n (drop k out) ab (omega (arith, le, length-drop k out)) ∙ whole n (drop k out) (omega (arith, le, length-drop k out))))
  where
    none_left : (xs : List Item) → drop (length xs) xs ≡ []
    none_left [] = refl
    none_left (x ∷ xs) = none_left xs

    all : (xs : List Item) → take (length xs) xs ≡ xs
    all [] = refl
    all (x ∷ xs) = ap (λ ys. x ∷ ys) (all xs)

    whole : (m : ℕ) (xs : List Item) → length xs ≡ m → take m xs ≡ xs
    whole m xs e = ap (λ j. take j xs) (sym e) ∙ all xs

-- the two parts, and then the first of them before the marks
pub vowel_walked : (at n : ℕ) (g : hb_glyph_info_t) (gs : List hb_glyph_info_t) (s mid new : Sides) → slice_get s.ahead 0 ≡ Some g → at ≡ length s.behind → n ≡ count_above (strip s.behind) → n ≤ at
    → strip gs ≡ nikhahit (item_of g) ∷ sara_aa (item_of g) ∷ [] → length gs ≡ 2
    → HasWalked (strip s.behind ++ strip gs) (drop 1 (strip s.ahead)) (Replace (length s.behind) 1 (length gs) ∷ []) s mid
    → HasWalked (with_range_moved (at - n) n 1 (strip mid.behind)) (strip mid.ahead) (move_of_vowel at n) mid new
    → (x : Item) (xs : List Item) → strip s.ahead ≡ x ∷ xs → HasWalked (with_vowel (strip s.behind) x) xs (events_of_vowel (length s.behind) (count_above (strip s.behind))) s new
vowel_walked at n g gs s mid new there is_at is_n le parts two w v x xs seen =
    let first : x ≡ item_of g = item_ahead g s.ahead x xs there seen in
    let long : length (strip s.behind) ≡ at = length-map s.behind item_of ∙ sym is_at in
    let both = both_walked (strip s.behind ++ strip gs) (drop 1 (strip s.ahead)) (with_range_moved (at - n) n 1 (strip mid.behind)) (strip mid.ahead) (Replace (length s.behind) 1 (length gs) ∷ []) (move_of_vowel at n) s mid new w v in
    let out : with_range_moved (at - n) n 1 (strip mid.behind) ≡ with_vowel (strip s.behind) x =
    ap (with_range_moved (at - n) n 1) (w.behind ∙ ap (λ ys. strip s.behind ++ ys) parts)
    ∙ ap (λ m. with_range_moved (m - n) n 1 (strip s.behind ++ (nikhahit (item_of g) ∷ sara_aa (item_of g) ∷ []))) (sym long)
    ∙ vowel_moved (strip s.behind) n (nikhahit (item_of g)) (sara_aa (item_of g)) (omega (arith, long, le))
    ∙ ap (λ m. take (length (strip s.behind) - m) (strip s.behind) ++ (nikhahit (item_of g) ∷ drop (length (strip s.behind) - m) (strip s.behind)) ++ sara_aa (item_of g) ∷ []) is_n
    ∙ ap (with_vowel (strip s.behind)) (sym first) in
    let rest : strip mid.ahead ≡ xs = w.ahead ∙ ap (drop 1) seen in
    let es : Replace (length s.behind) 1 (length gs) ∷ move_of_vowel at n ≡ events_of_vowel (length s.behind) (count_above (strip s.behind)) =
    ap (λ m. Replace (length s.behind) 1 m ∷ move_of_vowel at n) two
    ∙ ap (λ m. Replace (length s.behind) 1 2 ∷ move_of_vowel m n) is_at ∙ ap (λ m. Replace (length s.behind) 1 2 ∷ move_of_vowel (length s.behind) m) is_n in
    subst (λ fs. HasWalked (with_vowel (strip s.behind) x) xs fs s new) es
    (record { behind = both.behind ∙ out; ahead = both.ahead ∙ rest; happened = both.happened; view = both.view; settings = both.settings; opened = both.opened; unrefused = both.unrefused })

pub vowel_long : (out : List Item) (x : Item) → length (with_vowel out x) ≡ length out + 2
vowel_long out x =
    let k = length out - count_above out in
    let a = length-take-le k out (omega arith) in
    let b = length-drop k out in
    let c = length-append (take k out ++ (nikhahit x ∷ drop k out)) (sara_aa x ∷ []) in
    let d = length-append (take k out) (nikhahit x ∷ drop k out) in
    omega (arith, a, b, c, d)

-- whatever the character is
pub character_is : (t : Bool) (x : Item) (xs : List Item) (s new : Sides) → is_sara_am x ≡ t
    → HasWalked (if t then with_vowel (strip s.behind) x else strip s.behind ++ x ∷ []) xs (if t then events_of_vowel (length (strip s.behind)) (count_above (strip s.behind)) else []) s new
    → HasWalked (with_character (strip s.behind) x) xs (events_of_character (strip s.behind) x) s new
character_is t x xs s new e w = rw e w

pub vowel_is : (g : hb_glyph_info_t) (x : Item) (xs : List Item) (s new : Sides) → slice_get s.ahead 0 ≡ Some g → strip s.ahead ≡ x ∷ xs → is_sara_am (item_of g) ≡ true
    → HasWalked (with_vowel (strip s.behind) x) xs (events_of_vowel (length s.behind) (count_above (strip s.behind))) s new
    → HasWalked (with_character (strip s.behind) x) xs (events_of_character (strip s.behind) x) s new
vowel_is g x xs s new there seen e w =
    let first = item_ahead g s.ahead x xs there seen in
    character_is true x xs s new (ap is_sara_am first ∙ e) (subst (λ m. HasWalked (with_vowel (strip s.behind) x) xs (events_of_vowel m (count_above (strip s.behind))) s new) (sym (length-map s.behind item_of)) w)

-- no marks are before the parts
pub joined_placed : (at marks : ℕ) (s new : Sides) → marks ≡ 0 → HasWalked (strip s.behind) (strip s.ahead) (move_of_vowel at 0) s new
    → HasWalked (with_range_moved (at - marks) marks 1 (strip s.behind)) (strip s.ahead) (move_of_vowel at marks) s new
joined_placed at marks s new e w =
    let same = nothing_moved at marks (strip s.behind) e in
    subst (λ m. HasWalked (with_range_moved (at - marks) marks 1 (strip s.behind)) (strip s.ahead) (move_of_vowel at m) s new) (sym e)
    (record { behind = w.behind ∙ sym same; ahead = w.ahead; happened = w.happened; view = w.view; settings = w.settings; opened = w.opened; unrefused = w.unrefused })

-- the first part went before marks
pub moved_placed : (at marks n k : ℕ) (s new : Sides) → n ≡ marks → k ≡ 1 → (marks == 0) ≡ false → HasWalked (with_range_moved (at - marks) n k (strip s.behind)) (strip s.ahead) (Move InOutput (at - marks) (order_of_move n k) ∷ []) s new
    → HasWalked (with_range_moved (at - marks) marks 1 (strip s.behind)) (strip s.ahead) (move_of_vowel at marks) s new
moved_placed at marks n k s new e f some w =
    let P : ℕ → ℕ → Type 0 = λ m j. HasWalked (with_range_moved (at - marks) m j (strip s.behind)) (strip s.ahead) (Move InOutput (at - marks) (order_of_move m j) ∷ []) s new in
    let w' = subst (λ j. P marks j) f (subst (λ m. P m k) e w) in
    rw some w'
