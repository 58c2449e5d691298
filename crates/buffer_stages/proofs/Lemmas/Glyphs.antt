-- The numbers of glyphs, and the glyph at the cursor.
use Rattle.std.proofs.Common.{ℕ, ◌≡◌, ◌≤◌, ◌&&◌, Bool, true, false, nat_le, List, [], ◌∷◌, ◌++◌, take, drop, refl, sym, ap, ◌∙◌, arith, slice_get, Some}
use Rattle.std.specs.List.{list_all}
use Rattle.std.proofs.lemmas.Grind.{common_steps}
use Rattle.std.proofs.lemmas.List.{map-append, take-append-drop}
use Rattle.std.proofs.lemmas.List.Folds.{list_all-append}
use Rattle.std.proofs.lemmas.Bool.Decides.{nat_tests}
use Rattle.buffer_glyphs.specs.declared.info.hb_glyph_info_t.{hb_glyph_info_t}
use Rattle.buffer_glyphs.specs.Items.{Item, item_of, strip}
use Rattle.buffer_glyphs.specs.Parts.{first_of}
use Rattle.buffer_core.specs.Sides.{Sides, items_of}
use Rattle.buffer_stages.specs.Buffers.{are_glyphs}
use Rattle.buffer_facts.proofs.Truth.{first_true as and_first, second_true as and_second, and_true as and_both}

pub all_of_both : {X : Type 0} (p : X → Bool) (xs ys : List X) → list_all p xs ≡ true → list_all p ys ≡ true → list_all p (xs ++ ys) ≡ true
all_of_both p xs ys e f = list_all-append p xs ys ∙ and_both (list_all p xs) (list_all p ys) e f

pub all_of_front : {X : Type 0} (p : X → Bool) (xs ys : List X) → list_all p (xs ++ ys) ≡ true → list_all p xs ≡ true
all_of_front p xs ys e = and_first (list_all p xs) (list_all p ys) (sym (list_all-append p xs ys) ∙ e)

pub all_of_back : {X : Type 0} (p : X → Bool) (xs ys : List X) → list_all p (xs ++ ys) ≡ true → list_all p ys ≡ true
all_of_back p xs ys e = and_second (list_all p xs) (list_all p ys) (sym (list_all-append p xs ys) ∙ e)

all_cut : {X : Type 0} (p : X → Bool) (n : ℕ) (xs : List X) → list_all p xs ≡ true → list_all p (take n xs ++ drop n xs) ≡ true
all_cut p n xs e = ap (list_all p) (take-append-drop n xs) ∙ e

pub all_taken : {X : Type 0} (p : X → Bool) (n : ℕ) (xs : List X) → list_all p xs ≡ true → list_all p (take n xs) ≡ true
all_taken p n xs e = all_of_front p (take n xs) (drop n xs) (all_cut p n xs e)

pub all_dropped : {X : Type 0} (p : X → Bool) (n : ℕ) (xs : List X) → list_all p xs ≡ true → list_all p (drop n xs) ≡ true
all_dropped p n xs e = all_of_back p (take n xs) (drop n xs) (all_cut p n xs e)

-- the glyph at the cursor is the first item of the cut
pub first_item : (gs : List hb_glyph_info_t) (g : hb_glyph_info_t) → slice_get gs 0 ≡ Some g → first_of (strip gs) ≡ Some (item_of g)
first_item [] g at = cc
first_item (h ∷ gs) g at = let same : h ≡ g = cc in ap (λ x. Some (item_of x)) same

first_number : (gs : List hb_glyph_info_t) (g : hb_glyph_info_t) → slice_get gs 0 ≡ Some g → are_glyphs (strip gs) ≡ true → g.glyph_id ≤ 65535
first_number [] g at e = cc
first_number (h ∷ gs) g at e =
    let same : h ≡ g = cc in
    let here : nat_le h.glyph_id 65535 ≡ true = grind (arith, common_steps, e) in
    rw (← same) (grind (arith, nat_tests, here))

pub number_ahead : (s : Sides) (g : hb_glyph_info_t) → slice_get s.ahead 0 ≡ Some g → are_glyphs (items_of s) ≡ true → g.glyph_id ≤ 65535
number_ahead s g at e = first_number s.ahead g at (all_of_back (λ (x : Item). nat_le x.number 65535) (strip s.behind) (strip s.ahead) (ap are_glyphs (sym (map-append item_of s.behind s.ahead)) ∙ e))
