-- Circles are glyphs.
use Rattle.std.proofs.Common.{ℕ, suc, ◌≡◌, ◌≤◌, ◌&&◌, Bool, true, false, if◌then◌else◌, List, [], ◌∷◌, length, Option, None, Some, Ok, Err, refl, ap, ◌∙◌, arith}
use Rattle.std.specs.Prelude.{nat_le}
use Rattle.std.proofs.lemmas.Bool.Decides.{nat_tests}
use Rattle.std.proofs.lemmas.Grind.{common_steps}
use Rattle.buffer_glyphs.specs.declared.cause.ShapeCause.TheVariants.{TooLong}
use Rattle.buffer_glyphs.specs.Items.{Item}
use Rattle.buffer_core.specs.Readings.{Follows, BufferState, with_events}
use Rattle.buffer_core.specs.Sides.{Sides, items_of, state_of, view_of, zero_positions}
use Rattle.buffer_stages.specs.Buffers.{are_glyphs}
use Rattle.buffer_stages.specs.Stages.{IsFollowed}
use Rattle.script_syllabic.specs.declared.circles.CircleRule.{CircleRule}
use Rattle.script_syllabic.specs.Circles.{CircledItem, There, Inserted, Due, begins, circled_at_start, circle_events, circle_item, circled_rest, circled_items, circles_put, is_repha, with_circles}
use Rattle.std.proofs.lemmas.Bool.{and_from, and_parts}

-- a circle that is due is a glyph
abbrev IsDue : CircleRule → Option Due → Type 0
IsDue r None = Unit {0}
IsDue r (Some d) = d.circle.number ≡ r.glyph

abbrev AreGlyphs : List CircledItem → Type 0
AreGlyphs ys = are_glyphs (circled_items ys) ≡ true

circle_fits : (r : CircleRule) (c : Item) → r.glyph ≤ 65535 → c.number ≡ r.glyph → nat_le c.number 65535 ≡ true
circle_fits r c le e = grind (arith, nat_tests, common_steps, le, e)

begun_glyphs : (r : CircleRule) (last : ℕ) (x : Item) (rest : ℕ → Option Due → List CircledItem) → r.glyph ≤ 65535 → nat_le x.number 65535 ≡ true → ((n : ℕ) (d : Option Due) → IsDue r d → AreGlyphs (rest n d)) → AreGlyphs (circled_at_start r last x rest)
begun_glyphs r last x rest le e h = by_tests (begins r last x) (is_repha r x.syllable x)
  where
    by_tests : (s t : Bool) → AreGlyphs (if s then (if t then There x ∷ rest x.syllable (Some (record { rephas = 1; circle = circle_item r x })) else Inserted 0 (circle_item r x) ∷ There x ∷ rest x.syllable None) else There x ∷ rest last None)
    by_tests true true =
        let due : Option Due = Some (record { rephas = 1; circle = circle_item r x }) in
        and_from (nat_le x.number 65535) (are_glyphs (circled_items (rest x.syllable due))) e (h x.syllable due refl)
    by_tests true false = and_from (nat_le r.glyph 65535) (nat_le x.number 65535 && are_glyphs (circled_items (rest x.syllable None))) (circle_fits r (circle_item r x) le refl) (and_from (nat_le x.number 65535) (are_glyphs (circled_items (rest x.syllable None))) e (h x.syllable None tt))
    by_tests false t = and_from (nat_le x.number 65535) (are_glyphs (circled_items (rest last None))) e (h last None tt)

circled_glyphs : (r : CircleRule) (xs : List Item) (last : ℕ) (d : Option Due) → r.glyph ≤ 65535 → are_glyphs xs ≡ true → IsDue r d → AreGlyphs (circled_rest r xs last d)
circled_glyphs r [] last None le e due = refl
circled_glyphs r [] last (Some d) le e due = and_from (nat_le d.circle.number 65535) true (circle_fits r d.circle le due) refl
circled_glyphs r (x ∷ xs) last None le e due =
    begun_glyphs r last x (circled_rest r xs) le ((and_parts (nat_le x.number 65535) (are_glyphs xs) e).0) (λ n d h. circled_glyphs r xs n d le ((and_parts (nat_le x.number 65535) (are_glyphs xs) e).1) h)
circled_glyphs r (x ∷ xs) last (Some d) le e due = by_test (is_repha r last x) (λ n f h. circled_glyphs r xs n f le ((and_parts (nat_le x.number 65535) (are_glyphs xs) e).1) h)
  where
    by_test : (t : Bool) → ((n : ℕ) (f : Option Due) → IsDue r f → AreGlyphs (circled_rest r xs n f))
        → AreGlyphs (if t then There x ∷ circled_rest r xs last (Some (record { rephas = suc d.rephas; circle = d.circle })) else Inserted d.rephas d.circle ∷ circled_at_start r last x (circled_rest r xs))
    by_test true h =
        let later : Option Due = Some (record { rephas = suc d.rephas; circle = d.circle }) in
        and_from (nat_le x.number 65535) (are_glyphs (circled_items (circled_rest r xs last later))) ((and_parts (nat_le x.number 65535) (are_glyphs xs) e).0) (h last later due)
    by_test false h =
        and_from (nat_le d.circle.number 65535) (are_glyphs (circled_items (circled_at_start r last x (circled_rest r xs)))) (circle_fits r d.circle le due)
        (begun_glyphs r last x (circled_rest r xs) le ((and_parts (nat_le x.number 65535) (are_glyphs xs) e).0) h)

-- where circles came in, all are glyphs that were before
pub put_keeps_glyphs : (r : CircleRule) (a b : Sides) → IsFollowed (λ v. circles_put (with_circles r v.items) v) a b → r.glyph ≤ 65535 → are_glyphs (items_of a) ≡ true → are_glyphs (items_of b) ≡ true
put_keeps_glyphs r a b f le e = by_test (nat_le (length (circled_items (with_circles r (items_of a)))) (view_of a).max_len) f.follows
  where
    by_test : (t : Bool) → Follows (if t then Ok (with_events (circle_events 0 (with_circles r (items_of a))) (record (view_of a) { items = circled_items (with_circles r (items_of a)); positions = zero_positions (length (circled_items (with_circles r (items_of a)))) })) else Err TooLong) (state_of a) (state_of b) → are_glyphs (items_of b) ≡ true
    by_test true g = ap are_glyphs (ap (λ (run : BufferState). run.view.items) g) ∙ circled_glyphs r (items_of a) 0 None le e tt
    by_test false g = absurd g
