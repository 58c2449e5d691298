-- Without the circles there are the items that were there.
use Rattle.std.proofs.Common.{ℕ, suc, ◌≡◌, Bool, true, false, if◌then◌else◌, List, [], ◌∷◌, Option, None, Some, refl, ap}
use Rattle.buffer_glyphs.specs.Items.{Item}
use Rattle.script_syllabic.specs.declared.circles.CircleRule.{CircleRule}
use Rattle.std.specs.List.{list_any}
use Rattle.buffer_core.specs.Readings.{View, as_it_is}
use Rattle.script_syllabic.specs.Circles.{CircledItem, There, Inserted, Due, circle_item, begins, is_broken, is_repha, circled_at_start, circled_rest, circles_by, circles_put, items_without_circles, with_circles, ErasingCircles, NoCircleChangesNothing}

erased_begun : (r : CircleRule) (last : ℕ) (x : Item) (xs : List Item) (rest : ℕ → Option Due → List CircledItem) → ((n : ℕ) (d : Option Due) → items_without_circles (rest n d) ≡ xs) → items_without_circles (circled_at_start r last x rest) ≡ x ∷ xs
erased_begun r last x xs rest h = by_tests (begins r last x) (is_repha r x.syllable x)
  where
    by_tests : (s t : Bool) → items_without_circles (if s then (if t then There x ∷ rest x.syllable (Some (record { rephas = 1; circle = circle_item r x })) else Inserted 0 (circle_item r x) ∷ There x ∷ rest x.syllable None) else There x ∷ rest last None) ≡ x ∷ xs
    by_tests true true = ap (λ ys. x ∷ ys) (h x.syllable (Some (record { rephas = 1; circle = circle_item r x })))
    by_tests true false = ap (λ ys. x ∷ ys) (h x.syllable None)
    by_tests false t = ap (λ ys. x ∷ ys) (h last None)

erased_circled : (r : CircleRule) (xs : List Item) (last : ℕ) (d : Option Due) → items_without_circles (circled_rest r xs last d) ≡ xs
erased_circled r [] last None = refl
erased_circled r [] last (Some d) = refl
erased_circled r (x ∷ xs) last None = erased_begun r last x xs (circled_rest r xs) (erased_circled r xs)
erased_circled r (x ∷ xs) last (Some d) = by_test (is_repha r last x) (erased_circled r xs)
  where
    by_test : (t : Bool) → ((n : ℕ) (e : Option Due) → items_without_circles (circled_rest r xs n e) ≡ xs)
        → items_without_circles (if t then There x ∷ circled_rest r xs last (Some (record { rephas = suc d.rephas; circle = d.circle })) else Inserted d.rephas d.circle ∷ circled_at_start r last x (circled_rest r xs)) ≡ x ∷ xs
    by_test true h = ap (λ ys. x ∷ ys) (h last (Some (record { rephas = suc d.rephas; circle = d.circle })))
    by_test false h = erased_begun r last x xs (circled_rest r xs) h

pub erasing_circles : ErasingCircles
erasing_circles r xs = erased_circled r xs 0 None

by_rule : (r : CircleRule) (v : View) → list_any (is_broken r) v.items ≡ false → circles_by (Some r) v ≡ as_it_is v
by_rule r v e = ap (λ t. if t then circles_put (with_circles r v.items) v else as_it_is v) e

pub is_told : NoCircleChangesNothing
is_told None v e = refl
is_told (Some r) v e = by_rule r v e
