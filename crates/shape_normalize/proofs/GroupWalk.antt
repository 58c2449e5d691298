-- A group of a character and its marks.
use Rattle.std.proofs.Common.{ℕ, ◌≡◌, ◌≢◌, ◌+◌, true, false, List, [], ◌∷◌, ◌++◌, length, map, sym, ap, subst, ◌∙◌, arith, Some, take, drop}
use Rattle.std.proofs.lemmas.List.{take_at}
use Rattle.std.proofs.lemmas.Bool.{cond-true, cond-false}
use Rattle.std.proofs.Math.Seq.{drop-append_seam}
use Rattle.std.specs.List.{list_any}
use Rattle.buffer_glyphs.specs.declared.cause.ShapeCause.{ShapeCause}
use Rattle.buffer_glyphs.specs.Items.{Item, strip}
use Rattle.buffer_core.specs.Sides.{Sides}
use Rattle.buffer_glyphs.specs.Rewriting.{Arrangement, in_turn}
use Rattle.buffer_properties.specs.Characters.{is_selector}
use Rattle.buffer_properties.specs.Expanding.{item_expansion, expanded_item, selections_after}
use Rattle.buffer_properties.specs.Normalizer.{Normalizer, reach_alone, reach_with_marks}
use Rattle.buffer_stages.specs.Appending.{AppendsArrangement, RefusesRoomFor}
use Rattle.shape_normalize.specs.Walking.{SelectsAll, SelectsAllTooMany, Groups, GroupsTooMany}
use Rattle.shape_normalize.proofs.Lemmas.Chain.{none_behind}

pub one_group : (c : Normalizer) (k : ℕ) (old new : Sides) → k ≡ 0 → ((x : Item) (xs : List Item) → strip old.ahead ≡ x ∷ xs → AppendsArrangement (item_expansion c (reach_alone c.mode) x) xs old new) → Groups c k old new
one_group c k old new none goes x [] ys e len = subst (λ a. AppendsArrangement a ys old new) (sym (none_behind (item_expansion c (reach_alone c.mode) x))) (goes x ys e)
one_group c k old new none goes x (m ∷ marks) ys e len = absurd (omega (arith, len, none))

pub one_too_many : (c : Normalizer) (k : ℕ) (e : ShapeCause) (old : Sides) → k ≡ 0 → ((x : Item) (xs : List Item) → strip old.ahead ≡ x ∷ xs → RefusesRoomFor (length (expanded_item c (reach_alone c.mode) x)) e old) → GroupsTooMany c k e old
one_too_many c k e old none goes x [] ys seen len = subst (λ (a : Arrangement). RefusesRoomFor (length a.items) e old) (sym (none_behind (item_expansion c (reach_alone c.mode) x))) (goes x ys seen)
one_too_many c k e old none goes x (m ∷ marks) ys seen len = absurd (omega (arith, len, none))

group_items : (k n : ℕ) (gs : List Item) (x : Item) (marks ys : List Item) → n ≡ k + 1 → gs ≡ x ∷ (marks ++ ys) → length marks ≡ k → take n gs ≡ x ∷ marks
group_items k n gs x marks ys count e len = ap (take n) e ∙ take_at (x ∷ marks) ys n (omega (arith, len, count))

pub marked_group : (c : Normalizer) (k n : ℕ) (old new : Sides) → k ≢ 0 → n ≡ k + 1 → list_any is_selector (take n (strip old.ahead)) ≡ false
    → ((xs ys : List Item) → strip old.ahead ≡ xs ++ ys → length xs ≡ n → AppendsArrangement (in_turn (map (item_expansion c (reach_with_marks c.mode)) xs)) ys old new) → Groups c k old new
marked_group c k n old new some count free goes x [] ys e len = absurd (some (sym len))
marked_group c k n old new some count free goes x (m ∷ marks) ys e len =
    let none = ap (list_any is_selector) (sym (group_items k n (strip old.ahead) x (m ∷ marks) ys count e len)) ∙ free in
    subst (λ ps. AppendsArrangement (in_turn ps) ys old new) (sym (cond-false _ _ _ none)) (goes (x ∷ m ∷ marks) ys e (omega (arith, len, count)))

pub marked_too_many : (c : Normalizer) (k n : ℕ) (e : ShapeCause) (old : Sides) → k ≢ 0 → n ≡ k + 1 → list_any is_selector (take n (strip old.ahead)) ≡ false
    → ((xs ys : List Item) → strip old.ahead ≡ xs ++ ys → length xs ≡ n → RefusesRoomFor (length (in_turn (map (item_expansion c (reach_with_marks c.mode)) xs)).items) e old) → GroupsTooMany c k e old
marked_too_many c k n e old some count free goes x [] ys seen len = absurd (some (sym len))
marked_too_many c k n e old some count free goes x (m ∷ marks) ys seen len =
    let none = ap (list_any is_selector) (sym (group_items k n (strip old.ahead) x (m ∷ marks) ys count seen len)) ∙ free in
    subst (λ ps. RefusesRoomFor (length (in_turn ps).items) e old) (sym (cond-false _ _ _ none)) (goes (x ∷ m ∷ marks) ys seen (omega (arith, len, count)))

pub selected_group : (c : Normalizer) (k n : ℕ) (old new : Sides) → k ≢ 0 → n ≡ k + 1 → list_any is_selector (take n (strip old.ahead)) ≡ true → SelectsAll c k old new → Groups c k old new
selected_group c k n old new some count there goes x [] ys e len = absurd (some (sym len))
selected_group c k n old new some count there goes x (m ∷ marks) ys e len =
    let one = ap (list_any is_selector) (sym (group_items k n (strip old.ahead) x (m ∷ marks) ys count e len)) ∙ there in
    let front : take k (m ∷ marks ++ ys) ≡ m ∷ marks = take_at (m ∷ marks) ys k len in
    let back : drop k (m ∷ marks ++ ys) ≡ ys = ap (λ j. drop j (m ∷ marks ++ ys)) (sym len) ∙ drop-append_seam (m ∷ marks) ys in
    let brought = subst (λ (zs : List Item). AppendsArrangement (in_turn (selections_after c (Some x) (take k (m ∷ marks ++ ys)))) zs old new) back (goes x (m ∷ marks ++ ys) e) in
    subst (λ ps. AppendsArrangement (in_turn ps) ys old new) (sym (cond-true _ _ _ one)) (subst (λ (zs : List Item). AppendsArrangement (in_turn (selections_after c (Some x) zs)) ys old new) front brought)

pub selected_too_many : (c : Normalizer) (k n : ℕ) (e : ShapeCause) (old : Sides) → k ≢ 0 → n ≡ k + 1 → list_any is_selector (take n (strip old.ahead)) ≡ true → SelectsAllTooMany c k e old → GroupsTooMany c k e old
selected_too_many c k n e old some count there goes x [] ys seen len = absurd (some (sym len))
selected_too_many c k n e old some count there goes x (m ∷ marks) ys seen len =
    let one = ap (list_any is_selector) (sym (group_items k n (strip old.ahead) x (m ∷ marks) ys count seen len)) ∙ there in
    let front : take k (m ∷ marks ++ ys) ≡ m ∷ marks = take_at (m ∷ marks) ys k len in
    subst (λ ps. RefusesRoomFor (length (in_turn ps).items) e old) (sym (cond-true _ _ _ one)) (subst (λ (zs : List Item). RefusesRoomFor (length (in_turn (selections_after c (Some x) zs)).items) e old) front (goes x (m ∷ marks ++ ys) seen))
