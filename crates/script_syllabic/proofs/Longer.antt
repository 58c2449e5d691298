-- A list with circles is longer than without.
use Rattle.std.proofs.Common.{ℕ, suc, ◌≡◌, ◌≤◌, ◌<◌, ◌+◌, ◌==◌, ◌&&◌, ◌||◌, not, Bool, true, false, if◌then◌else◌, List, [], ◌∷◌, length, Option, None, Some, Ok, Err, refl, sym, ap, subst, ◌∙◌, arith}
use Rattle.std.specs.Prelude.{bit_and, nat_le, nat_lt}
use Rattle.std.specs.Int.Bits.{and_zero_l}
use Rattle.std.specs.List.{list_any}
use Rattle.std.proofs.lemmas.Bool.{le-ltb, lt-ltb}
use Rattle.std.proofs.lemmas.Bool.Decides.{nat_tests}
use Rattle.buffer_glyphs.specs.declared.cause.ShapeCause.TheVariants.{TooLong}
use Rattle.buffer_glyphs.specs.Items.{Item}
use Rattle.buffer_core.specs.Readings.{Follows, BufferState, with_events}
use Rattle.buffer_core.specs.Sides.{Sides, items_of, state_of, view_of, zero_positions}
use Rattle.buffer_stages.specs.Stages.{IsFollowed}
use Rattle.script_syllabic.specs.declared.circles.CircleRule.{CircleRule}
use Rattle.script_syllabic.specs.Circles.{CircledItem, There, Inserted, Due, begins, is_broken, circled_at_start, circle_events, circle_item, circled_rest, circled_items, circles_put, is_repha, with_circles}
use Rattle.buffer_facts.proofs.Truth.{or_second as either}

-- the number of circles that are due
abbrev due_count : Option Due → ℕ
due_count None = 0
due_count (Some d) = 1

abbrev HasAtLeast : ℕ → List CircledItem → Type 0
HasAtLeast n ys = n ≤ length (circled_items ys)

start_size : (r : CircleRule) (last : ℕ) (x : Item) (n : ℕ) (rest : ℕ → Option Due → List CircledItem) → ((m : ℕ) (d : Option Due) → HasAtLeast (n + due_count d) (rest m d)) → HasAtLeast (if begins r last x then suc (suc n) else suc n) (circled_at_start r last x rest)
start_size r last x n rest h = by_tests (begins r last x) (is_repha r x.syllable x)
  where
    by_tests : (s t : Bool) → HasAtLeast (if s then suc (suc n) else suc n) (if s then (if t then There x ∷ rest x.syllable (Some (record { rephas = 1; circle = circle_item r x })) else Inserted 0 (circle_item r x) ∷ There x ∷ rest x.syllable None) else There x ∷ rest last None)
    by_tests true true =
        let later = h x.syllable (Some (record { rephas = 1; circle = circle_item r x })) in
        omega (arith, later)
    by_tests true false =
        let later = h x.syllable None in
        omega (arith, later)
    by_tests false t =
        let later = h last None in
        omega (arith, later)

some_start : (r : CircleRule) (last : ℕ) (x : Item) (n : ℕ) (rest : ℕ → Option Due → List CircledItem) → ((m : ℕ) (d : Option Due) → HasAtLeast (n + due_count d) (rest m d)) → HasAtLeast (suc n) (circled_at_start r last x rest)
some_start r last x n rest h = by_test (begins r last x) (start_size r last x n rest h)
  where
    by_test : (t : Bool) → HasAtLeast (if t then suc (suc n) else suc n) (circled_at_start r last x rest) → HasAtLeast (suc n) (circled_at_start r last x rest)
    by_test true le = omega (arith, le)
    by_test false le = le

circled_size : (r : CircleRule) (xs : List Item) (last : ℕ) (d : Option Due) → HasAtLeast (length xs + due_count d) (circled_rest r xs last d)
circled_size r [] last None = omega arith
circled_size r [] last (Some d) = omega arith
circled_size r (x ∷ xs) last None =
    let le = some_start r last x (length xs) (circled_rest r xs) (circled_size r xs) in
    omega (arith, le)
circled_size r (x ∷ xs) last (Some d) = by_test (is_repha r last x) (circled_size r xs)
  where
    by_test : (t : Bool) → ((m : ℕ) (e : Option Due) → HasAtLeast (length xs + due_count e) (circled_rest r xs m e))
        → HasAtLeast (suc (length xs) + 1) (if t then There x ∷ circled_rest r xs last (Some (record { rephas = suc d.rephas; circle = d.circle })) else Inserted d.rephas d.circle ∷ circled_at_start r last x (circled_rest r xs))
    by_test true h =
        let later = h last (Some (record { rephas = suc d.rephas; circle = d.circle })) in
        omega (arith, later)
    by_test false h =
        let later = some_start r last x (length xs) (circled_rest r xs) h in
        omega (arith, later)

suc_le : (m n : ℕ) → m ≤ n → suc m ≤ suc n
suc_le m n le = omega (arith, le)

begun_longer : (r : CircleRule) (xs : List Item) (last : ℕ) → list_any (begins r last) xs ≡ true → HasAtLeast (suc (length xs)) (circled_rest r xs last None)
begun_longer r [] last e = cc
begun_longer r (x ∷ xs) last e = by_test (begins r last x) refl e (begun_longer r xs last)
  where
    by_test : (t : Bool) → begins r last x ≡ t → (t || list_any (begins r last) xs) ≡ true → (list_any (begins r last) xs ≡ true → HasAtLeast (suc (length xs)) (circled_rest r xs last None)) → HasAtLeast (suc (suc (length xs))) (circled_at_start r last x (circled_rest r xs))
    by_test true is h later = subst (λ t. HasAtLeast (if t then suc (suc (length xs)) else suc (length xs)) (circled_at_start r last x (circled_rest r xs))) is (start_size r last x (length xs) (circled_rest r xs) (circled_size r xs))
    by_test false is h later =
        subst (λ ys. HasAtLeast (suc (suc (length xs))) ys) (sym (ap (λ t. if t then (if is_repha r x.syllable x then There x ∷ circled_rest r xs x.syllable (Some (record { rephas = 1; circle = circle_item r x })) else Inserted 0 (circle_item r x) ∷ There x ∷ circled_rest r xs x.syllable None) else There x ∷ circled_rest r xs last None) is)) (suc_le (suc (length xs)) (length (circled_items (circled_rest r xs last None))) (later h))

-- the first broken syllable has another byte than 0
broken_byte : (kind byte : ℕ) → 0 < kind → (bit_and byte 15 == kind) ≡ true → (not (byte == 0) && (bit_and byte 15 == kind)) ≡ true
broken_byte kind byte some e = by_test (byte == 0) refl
  where
    by_test : (t : Bool) → (byte == 0) ≡ t → (not t && (bit_and byte 15 == kind)) ≡ true
    by_test true is =
        let none : byte ≡ 0 = grind (arith, nat_tests, is) in
        let same : bit_and byte 15 ≡ kind = grind (arith, nat_tests, e) in
        let zeros : bit_and byte 15 ≡ 0 = ap (λ n. bit_and n 15) none ∙ and_zero_l 15 in
        absurd (omega (arith, same, zeros, some))
    by_test false is = e

broken_begins : (r : CircleRule) (xs : List Item) → 0 < r.kind → list_any (is_broken r) xs ≡ true → list_any (begins r 0) xs ≡ true
broken_begins r [] some e = cc
broken_begins r (x ∷ xs) some e = by_test (is_broken r x) refl e (broken_begins r xs some)
  where
    by_test : (t : Bool) → is_broken r x ≡ t → (t || list_any (is_broken r) xs) ≡ true → (list_any (is_broken r) xs ≡ true → list_any (begins r 0) xs ≡ true) → (begins r 0 x || list_any (begins r 0) xs) ≡ true
    by_test true is h later = ap (λ t. t || list_any (begins r 0) xs) (broken_byte r.kind x.syllable some is)
    by_test false is h later = either (begins r 0 x) (list_any (begins r 0) xs) (later h)

-- where circles were inserted, the list is longer
pub put_longer : (r : CircleRule) (a b : Sides) → IsFollowed (λ v. circles_put (with_circles r v.items) v) a b → list_any (is_broken r) (items_of a) ≡ true → 0 < r.kind → true ≡ nat_lt (length (items_of a)) (length (items_of b))
put_longer r a b f e some = by_test (nat_le (length (circled_items (with_circles r (items_of a)))) (view_of a).max_len) f.follows
  where
    by_test : (t : Bool) → Follows (if t then Ok (with_events (circle_events 0 (with_circles r (items_of a))) (record (view_of a) { items = circled_items (with_circles r (items_of a)); positions = zero_positions (length (circled_items (with_circles r (items_of a)))) })) else Err TooLong) (state_of a) (state_of b) → true ≡ nat_lt (length (items_of a)) (length (items_of b))
    by_test true g =
        let is : items_of b ≡ circled_items (with_circles r (items_of a)) = ap (λ (run : BufferState). run.view.items) g in
        sym (subst (λ ys. nat_lt (length (items_of a)) (length ys) ≡ true) (sym is)
        (lt-ltb (length (items_of a)) (length (circled_items (with_circles r (items_of a)))) (begun_longer r (items_of a) 0 (broken_begins r (items_of a) some e))))
    by_test false g = absurd g

-- a list is not longer than itself
pub not_longer : (n : ℕ) → false ≡ nat_lt n n
not_longer n = sym (le-ltb n n (omega arith))
