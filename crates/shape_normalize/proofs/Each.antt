-- A call at each of some items.
use Rattle.std.proofs.Common.{ℕ, ◌≡◌, ◌<◌, ◌≤◌, ◌+◌, true, List, [], ◌∷◌, ◌++◌, length, map, take, drop, refl, sym, ap, subst, ◌∙◌, arith}
use Rattle.std.proofs.lemmas.List.{take_all, drop_all, take-append-drop, map-append, length-map, length-drop}
use Rattle.buffer_glyphs.specs.declared.cause.ShapeCause.{ShapeCause}
use Rattle.buffer_glyphs.specs.declared.info.hb_glyph_info_t.{hb_glyph_info_t}
use Rattle.buffer_glyphs.specs.Items.{Item, item_of, strip}
use Rattle.buffer_glyphs.proofs.Lists.{take_next, drop_next}
use Rattle.buffer_core.specs.Sides.{Sides}
use Rattle.buffer_glyphs.specs.Rewriting.{Arrangement, in_turn}
use Rattle.buffer_stages.specs.Appending.{AppendsArrangement, RefusesRoomFor}
use Rattle.shape_normalize.proofs.Lemmas.Chain.{none_behind, brought_none, brought_more, overfills_after}

-- that many of n input items are output, each as f maps it
pub record IsUnderway (f : Item → Arrangement) (n at : ℕ) (start now : Sides) : Type 0 where
  pub is_open : now.is_open ≡ true
  pub left : length start.ahead ≡ length now.ahead + at
  pub brought : (xs ys : List Item) → strip start.ahead ≡ xs ++ ys → length xs ≡ n → AppendsArrangement (in_turn (map f (take at xs))) (drop at xs ++ ys) start now

-- what a call at the cursor leaves of the buffer
abbrev Goes : (Item → Arrangement) → Sides → Sides → Type 0
Goes f now next = (x : Item) (xs : List Item) → strip now.ahead ≡ x ∷ xs → AppendsArrangement (f x) xs now next

pub goes_open : (f : Item → Arrangement) (now next : Sides) → 0 < length now.ahead → Goes f now next → next.is_open ≡ now.is_open
goes_open f now next some goes = by_case now.ahead refl
  where
    by_case : (gs : List hb_glyph_info_t) → now.ahead ≡ gs → next.is_open ≡ now.is_open
    by_case [] e = absurd (let none = ap length e in omega (arith, none, some))
    by_case (g ∷ gs) e = ap (λ (s : Sides). s.is_open) (goes (item_of g) (strip gs) (ap strip e)).frame

pub goes_left : (f : Item → Arrangement) (now next : Sides) → 0 < length now.ahead → Goes f now next → length now.ahead ≡ length next.ahead + 1
goes_left f now next some goes = by_case now.ahead refl
  where
    by_case : (gs : List hb_glyph_info_t) → now.ahead ≡ gs → length now.ahead ≡ length next.ahead + 1
    by_case [] e = absurd (let none = ap length e in omega (arith, none, some))
    by_case (g ∷ gs) e =
        let rest = ap length (goes (item_of g) (strip gs) (ap strip e)).ahead in
        let all = ap length e in
        omega (arith, rest, all, length-map next.ahead item_of, length-map gs item_of)

pub each_more : (f : Item → Arrangement) (n at : ℕ) (start now next : Sides) → at < n → 0 < length now.ahead → IsUnderway f n at start now → Goes f now next → IsUnderway f n (at + 1) start next
each_more f n at start now next lt some u goes = record {
  is_open = goes_open f now next some goes ∙ u.is_open;
  left = let was = u.left in let less = goes_left f now next some goes in omega (arith, was, less);
  brought = λ xs ys e len. one_more xs ys (u.brought xs ys e len) len (drop at xs) refl;
}
  where
    one_more : (xs ys : List Item) → AppendsArrangement (in_turn (map f (take at xs))) (drop at xs ++ ys) start now → length xs ≡ n → (zs : List Item) → drop at xs ≡ zs
        → AppendsArrangement (in_turn (map f (take (at + 1) xs))) (drop (at + 1) xs ++ ys) start next
    one_more xs ys b len [] e = absurd (let none = ap length e in omega (arith, none, lt, len, length-drop at xs))
    one_more xs ys b len (z ∷ zs) e =
        let step = goes z (zs ++ ys) (b.ahead ∙ ap (λ q. q ++ ys) e) in
        let more = brought_more (map f (take at xs)) (f z) (drop at xs ++ ys) (zs ++ ys) start now next b step in
        let taken : map f (take (at + 1) xs) ≡ map f (take at xs) ++ f z ∷ [] = ap (map f) (take_next xs at ∙ ap (λ q. take at xs ++ take 1 q) e) ∙ map-append f (take at xs) (z ∷ []) in
        let rest : drop (at + 1) xs ≡ zs = sym (drop_next xs at) ∙ ap (drop 1) e in
        rw (taken, rest) more

pub each_too_many : (f : Item → Arrangement) (n at : ℕ) (e : ShapeCause) (start now : Sides) → at < n → IsUnderway f n at start now → ((x : Item) (xs : List Item) → strip now.ahead ≡ x ∷ xs → RefusesRoomFor (length (f x).items) e now)
    → (xs ys : List Item) → strip start.ahead ≡ xs ++ ys → length xs ≡ n → RefusesRoomFor (length (in_turn (map f xs)).items) e start
each_too_many f n at e start now lt u goes xs ys seen len = by_case (drop at xs) refl
  where
    by_case : (zs : List Item) → drop at xs ≡ zs → RefusesRoomFor (length (in_turn (map f xs)).items) e start
    by_case [] d = absurd (let none = ap length d in omega (arith, none, lt, len, length-drop at xs))
    by_case (z ∷ zs) d =
        let b = u.brought xs ys seen len in
        let over = goes z (zs ++ ys) (b.ahead ∙ ap (λ q. q ++ ys) d) in
        let one = subst (λ (a : Arrangement). RefusesRoomFor (length a.items) e now) (sym (none_behind (f z))) over in
        let whole : map f (take at xs) ++ (f z ∷ [] ++ map f zs) ≡ map f xs = sym (map-append f (take at xs) (z ∷ zs)) ∙ ap (λ ws. map f (take at xs ++ ws)) (sym d) ∙ ap (map f) (take-append-drop at xs) in
        subst (λ ps. RefusesRoomFor (length (in_turn ps).items) e start) whole (overfills_after (map f (take at xs)) (f z ∷ []) (map f zs) (drop at xs ++ ys) e start now b one)
