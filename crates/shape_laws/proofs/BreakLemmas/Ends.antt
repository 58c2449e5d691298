-- The first letter of some characters, and the last one.
use Rattle.std.proofs.Common.{◌≡◌, ◌||◌, Bool, true, false, if◌then◌else◌, List, [], ◌∷◌, ◌++◌, None, Some, is_some, find, unwrap_or, refl, sym, ap, ◌∙◌}
use Rattle.std.specs.List.{All, list_any}
use Rattle.std.specs.List.Sorted.{IsPermutation}
use Rattle.std.proofs.lemmas.List.{map-append}
use Rattle.std.proofs.lemmas.List.Elements.{All-head, All-tail}
use Rattle.std.proofs.lemmas.List.Sorted.{All-permutation, list_any-IsPermutation}
use Rattle.buffer_unicode_tables.specs.Tables.{Tables}
use Rattle.buffer_glyphs.specs.Items.{Item}
use Rattle.script_categories.specs.declared.joining_types.hb_arabic_joining_type_t.TheVariants.{U, L, R, D, GroupAlaph, GroupDalathRish, T, X}
use Rattle.script_joining.specs.Joining.{is_letter, nearest, nearest_past, types_of_items}
use Rattle.script_joining.specs.Types.{JoiningType, type_of_item}
use Rattle.shape_laws.specs.Breaks.Joining.{has_letter, nearest_after}
use Rattle.shape_laws.specs.Breaks.Types.{AreSeenAs, Ends, ends_joined, ends_of, ends_of_one, joins_nothing}

-- ---- one text after another

pub joined_none : (p : Ends) → ends_joined p None ≡ p
joined_none None = refl
joined_none (Some p) = refl

pub joined_assoc : (p q r : Ends) → ends_joined (ends_joined p q) r ≡ ends_joined p (ends_joined q r)
joined_assoc None q r = refl
joined_assoc (Some p) None r = refl
joined_assoc (Some p) (Some q) None = refl
joined_assoc (Some p) (Some q) (Some r) = refl

pub ends_both : (ts us : List JoiningType) → ends_of (ts ++ us) ≡ ends_joined (ends_of ts) (ends_of us)
ends_both [] us = refl
ends_both (t ∷ ts) us = ap (ends_joined (ends_of_one t)) (ends_both ts us) ∙ sym (joined_assoc (ends_of_one t) (ends_of ts) (ends_of us))

-- the ends of items
abbrev pub item_ends : Tables → List Item → Ends
item_ends t xs = ends_of (types_of_items t xs)

pub items_both : (t : Tables) (xs ys : List Item) → item_ends t (xs ++ ys) ≡ ends_joined (item_ends t xs) (item_ends t ys)
items_both t xs ys = ap ends_of (map-append (type_of_item t) xs ys) ∙ ends_both (types_of_items t xs) (types_of_items t ys)

-- ---- what letters beside a text see

-- the last letter of a text, or the one before it
abbrev pub last_or : JoiningType → Ends → JoiningType
last_or before None = before
last_or before (Some p) = p.1

-- the first letter of a text, or the one after it
abbrev pub first_or : JoiningType → Ends → JoiningType
first_or after None = after
first_or after (Some p) = p.0

pub last_seen : (before : JoiningType) (ts : List JoiningType) → nearest_after before ts ≡ last_or before (ends_of ts)
last_seen before [] = refl
last_seen before (t ∷ ts) = last_seen (nearest_past before t) ts ∙ by_test (is_letter t) (ends_of ts)
  where
    by_test : (b : Bool) (q : Ends) → last_or (if b then t else before) q ≡ last_or before (ends_joined (if b then Some (t, t) else None) q)
    by_test true None = refl
    by_test true (Some q) = refl
    by_test false q = refl

pub first_seen : (ts after : List JoiningType) → nearest (ts ++ after) ≡ first_or (nearest after) (ends_of ts)
first_seen [] after = refl
first_seen (t ∷ ts) after = by_test (is_letter t) (ends_of ts) (first_seen ts after)
  where
    by_test : (b : Bool) (q : Ends) → unwrap_or (find is_letter (ts ++ after)) U ≡ first_or (nearest after) q
        → unwrap_or (if b then Some t else find is_letter (ts ++ after)) U ≡ first_or (nearest after) (ends_joined (if b then Some (t, t) else None) q)
    by_test true None e = refl
    by_test true (Some q) e = refl
    by_test false q e = e

pub letter_seen : (ts : List JoiningType) → has_letter ts ≡ is_some (ends_of ts)
letter_seen [] = refl
letter_seen (t ∷ ts) = ap (λ b. is_letter t || b) (letter_seen ts) ∙ by_test (is_letter t) (ends_of ts)
  where
    by_test : (b : Bool) (q : Ends) → (b || is_some q) ≡ is_some (ends_joined (if b then Some (t, t) else None) q)
    by_test true None = refl
    by_test true (Some q) = refl
    by_test false q = refl

-- ---- two characters for one

one_letter : (t : JoiningType) → is_letter t ≡ true → ends_of_one t ≡ Some (t, t)
one_letter t e = ap (λ b. if b then Some (t, t) else None) e

pub no_letter : (t : JoiningType) → is_letter t ≡ false → ends_of_one t ≡ None
no_letter t e = ap (λ b. if b then Some (t, t) else None) e

-- two that are seen as one have its ends
pub two_seen : (w s t : JoiningType) → AreSeenAs w s t → ends_joined (ends_of_one s) (ends_of_one t) ≡ ends_of_one w
two_seen w s t h = by_two (is_letter s) (is_letter t) refl refl h.0 h.1
  where
    by_two : (a b : Bool) → is_letter s ≡ a → is_letter t ≡ b → (if a then s else t) ≡ w → (if b then t else s) ≡ w → ends_joined (ends_of_one s) (ends_of_one t) ≡ ends_of_one w
    by_two true true e f g k =
        ap (λ p. ends_joined p (ends_of_one t)) (one_letter s e) ∙ ap (ends_joined (Some (s, s))) (one_letter t f) ∙ ap (λ (q : JoiningType). Some (s, q)) (k ∙ sym g) ∙ sym (one_letter s e) ∙ ap ends_of_one g
    by_two true false e f g k = ap (ends_joined (ends_of_one s)) (no_letter t f) ∙ joined_none (ends_of_one s) ∙ ap ends_of_one g
    by_two false true e f g k = ap (λ p. ends_joined p (ends_of_one t)) (no_letter s e) ∙ ap ends_of_one k
    by_two false false e f g k = ap (λ p. ends_joined p (ends_of_one t)) (no_letter s e) ∙ ap ends_of_one g

-- ---- characters that join nothing

-- the ends of characters that join nothing: a non-joining one is a letter
abbrev pub quiet_ends : Bool → Ends
quiet_ends true = Some (U, U)
quiet_ends false = None

pub quiet_one : (t : JoiningType) → joins_nothing t ≡ true → ends_of_one t ≡ quiet_ends (is_letter t)
quiet_one U e = refl
quiet_one L e = cc
quiet_one R e = cc
quiet_one D e = cc
quiet_one GroupAlaph e = cc
quiet_one GroupDalathRish e = cc
quiet_one T e = refl
quiet_one X e = cc

pub quiet_two : (a b : Bool) → ends_joined (quiet_ends a) (quiet_ends b) ≡ quiet_ends (a || b)
quiet_two true true = refl
quiet_two true false = refl
quiet_two false b = refl

-- whether an item is a letter
abbrev pub is_letter_item : Tables → Item → Bool
is_letter_item t z = is_letter (type_of_item t z)

-- each of some items joins nothing
abbrev pub AreQuiet : Tables → List Item → Type 0
AreQuiet t zs = All (λ z. joins_nothing (type_of_item t z) ≡ true) zs

pub quiet_items : (t : Tables) (zs : List Item) → AreQuiet t zs → item_ends t zs ≡ quiet_ends (list_any (is_letter_item t) zs)
quiet_items t [] h = refl
quiet_items t (z ∷ zs) h =
    let q = λ (y : Item). joins_nothing (type_of_item t y) ≡ true in
    ap (λ p. ends_joined p (item_ends t zs)) (quiet_one (type_of_item t z) (All-head q z zs h)) ∙ ap (ends_joined (quiet_ends (is_letter_item t z))) (quiet_items t zs (All-tail q z zs h))
    ∙ quiet_two (is_letter_item t z) (list_any (is_letter_item t) zs)

-- such characters have the same ends in any order
pub quiet_moved : (t : Tables) (xs zs : List Item) → AreQuiet t xs → IsPermutation xs zs → item_ends t zs ≡ item_ends t xs
quiet_moved t xs zs h moved =
    quiet_items t zs (All-permutation (λ (y : Item). joins_nothing (type_of_item t y) ≡ true) xs zs moved h) ∙ ap quiet_ends (sym (list_any-IsPermutation (is_letter_item t) xs zs moved)) ∙ sym (quiet_items t xs h)

-- ---- a mark that is composed with a letter before some that join nothing

-- the ends of a letter, some characters that join nothing, and one more, which is seen with the letter as another
pub composed_seen : (w s m : JoiningType) (between : Bool) (rest : Ends) → AreSeenAs w s m → joins_nothing m ≡ true
    → ends_joined (ends_of_one s) (ends_joined (quiet_ends between) (ends_joined (ends_of_one m) rest)) ≡ ends_joined (ends_of_one w) (ends_joined (quiet_ends between) rest)
composed_seen w s m false rest h quiet = sym (joined_assoc (ends_of_one s) (ends_of_one m) rest) ∙ ap (λ p. ends_joined p rest) (two_seen w s m h)
composed_seen w s m true rest h quiet = by_mark m h quiet
  where
    -- a letter between others that join nothing is none of the ends
    hidden : (v : JoiningType) → (v ≡ U) → (q : Ends) → ends_joined (Some (U, U)) (ends_joined (Some (v, v)) q) ≡ ends_joined (Some (U, U)) q
    hidden v e None = ap (λ (y : JoiningType). Some (U, y)) e
    hidden v e (Some q) = refl

    -- the letter is non-joining, or none
    first_quiet : (v x : JoiningType) (q : Ends) → AreSeenAs x v U → ends_joined (ends_of_one v) (ends_joined (Some (U, U)) q) ≡ ends_joined (ends_of_one x) (ends_joined (Some (U, U)) q)
    first_quiet v x q k = by_letter (is_letter v) refl
      where
        -- x is U, since U is the first letter from the right
        is : U ≡ x
        is = k.1

        by_letter : (b : Bool) → is_letter v ≡ b → ends_joined (ends_of_one v) (ends_joined (Some (U, U)) q) ≡ ends_joined (ends_of_one x) (ends_joined (Some (U, U)) q)
        by_letter true e = let same : v ≡ x = ap (λ b. if b then v else U) (sym e) ∙ k.0 in ap (λ y. ends_joined (ends_of_one y) (ends_joined (Some (U, U)) q)) same
        by_letter false e = ap (λ p. ends_joined p (ends_joined (Some (U, U)) q)) (no_letter v e) ∙ sym (hidden U refl q) ∙ ap (λ y. ends_joined (ends_of_one y) (ends_joined (Some (U, U)) q)) is

    by_mark : (n : JoiningType) → AreSeenAs w s n → joins_nothing n ≡ true → ends_joined (ends_of_one s) (ends_joined (Some (U, U)) (ends_joined (ends_of_one n) rest)) ≡ ends_joined (ends_of_one w) (ends_joined (Some (U, U)) rest)
    by_mark T k e = ap (λ y. ends_joined (ends_of_one y) (ends_joined (Some (U, U)) rest)) k.1
    by_mark U k e = ap (ends_joined (ends_of_one s)) (hidden U refl rest) ∙ first_quiet s w rest k
    by_mark L k e = cc
    by_mark R k e = cc
    by_mark D k e = cc
    by_mark GroupAlaph k e = cc
    by_mark GroupDalathRish k e = cc
    by_mark X k e = cc
