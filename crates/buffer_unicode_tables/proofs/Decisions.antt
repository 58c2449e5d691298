-- What the tests decide.
use Rattle.std.proofs.Common.{ℕ, ◌≡◌, ◌≢◌, ◌+◌, ◌-◌, ◌*◌, ◌==◌, ◌&&◌, ◌||◌, ◌⊎◌, ◌↔◌, Bool, true, false, MatchBool, IsTrue, List, [], ◌∷◌, ◌++◌, ne_eqb, eq-eqb, eqb-true, Option, Some, None, is_none, option_map, refl, sym, ap, ap₂, ◌∙◌, arith, inl, inr}
use Rattle.std.proofs.lemmas.Bool.{and_parts, and_from, or_cases, or_parts, or_left, or_right, cases_eq, cases_Bool, both_ways, true_from_ne_false, false≢true}
use Rattle.std.specs.List.{list_all, find}
use Rattle.std.specs.Option.{option_or, option_map_or}
use Rattle.unicode.specs.GeneralCategory.{general_category}
use Rattle.buffer_unicode.specs.Category.{is_mark_category}
use Rattle.buffer_unicode.specs.Keys.{is_rising}
use Rattle.buffer_unicode.proofs.Searches.{find_passes, all_pass, failing_row}
use Rattle.buffer_unicode.specs.declared.rows.CharacterClass.{CharacterClass}
use Rattle.buffer_unicode.specs.declared.rows.Pair.{Pair}
use Rattle.buffer_unicode.specs.declared.rows.Split.{Split}
use Rattle.buffer_unicode_tables.specs.ClassOrder.{beside_starters}
use Rattle.buffer_unicode_tables.specs.Expansion.{Splits, EndWithin}
use Rattle.buffer_unicode_tables.specs.Hangul.{hangul_split, hangul_pair}
use Rattle.buffer_unicode_tables.specs.Ranges.{AllAmong, SomeAmong}
use Rattle.buffer_unicode_tables.specs.Lawful.{SecondHalvesStay, PairsAreEquivalent, ClassesAreOfMarks, SplitsKeepClass}
use Rattle.buffer_unicode_tables.proofs.Orders.{order_from_classes, classes_from_order}
use Rattle.buffer_unicode_tables.specs.Tables.{Tables, split_of, class_of, pair_of}
use Rattle.buffer_unicode_tables.specs.Tests.{second_half_stays, same_text, same_beside_starters, has_same_classes, whole_is_equivalent, class_is_of_mark, pieces_have_class, keeps_class}
use Rattle.buffer_unicode_tables.specs.Texts.{full_expansion, text_order}
use Rattle.buffer_unicode_tables.proofs.Expansions.{expansion_of_split, second_is_jamo}
use Rattle.buffer_unicode_tables.proofs.Syllables.{hangul_pairs_are_splits, pair_of_vowel, pair_of_trailing}

-- a test that is true exactly where a fact holds
decided : (b : Bool) (P : Type 0) → (b ≡ true → P) → (P → b ≡ false → ⊥) → IsTrue b ↔ P
decided b P yields refutes = (yields, λ p. true_from_ne_false b (refutes p))

-- the class of a row that is found
class_found : (t : Tables) (u : ℕ) (r : CharacterClass) → find (λ (q : CharacterClass). q.character == u) t.classes ≡ Some r → class_of t u ≡ r.class
class_found t u r h = rw h refl

-- a character of nonzero class has a row
nonzero_has_row : (t : Tables) (u : ℕ) (o : Option CharacterClass) → o ≡ find (λ (q : CharacterClass). q.character == u) t.classes → class_of t u ≢ 0 → (r : CharacterClass) × (find (λ (q : CharacterClass). q.character == u) t.classes ≡ Some r)
nonzero_has_row t u None e n = absurd (n (ap (λ o. option_map_or (λ (q : CharacterClass). q.class) o 0) (sym e)))
nonzero_has_row t u (Some r) e n = (r, sym e)

mark_at : (t : Tables) (u : ℕ) → list_all class_is_of_mark t.classes ≡ true → class_of t u ≢ 0 → is_mark_category (general_category u) ≡ true
mark_at t u h n =
    let row = nonzero_has_row t u (find (λ (q : CharacterClass). q.character == u) t.classes) refl n in
    let found = find_passes (λ (q : CharacterClass). q.character == u) class_is_of_mark t.classes row.0 row.1 h in
    let at : row.0.character ≡ u = eqb-true row.0.character u found.0 in
    let own = class_found t u row.0 row.1 in
    elim (or_cases (row.0.class == 0) (is_mark_category (general_category row.0.character)) found.1) [
      | inl z ↦ absurd (n (own ∙ eqb-true row.0.class 0 z))
      | inr mark ↦ rw at at mark
    ]

mark_missing : (t : Tables) → is_rising (λ _. 0) (λ (r : CharacterClass). r.character) t.classes ≡ true → ClassesAreOfMarks t → list_all class_is_of_mark t.classes ≡ false → ⊥
mark_missing t rising marks h =
    let bad = failing_row (λ (_ : CharacterClass). 0) (λ (r : CharacterClass). r.character) class_is_of_mark t.classes rising h in
    let own = class_found t bad.row.character bad.row bad.found in
    let pieces = or_parts (bad.row.class == 0) (is_mark_category (general_category bad.row.character)) bad.fails in
    both_ways _ pieces.1 (marks bad.row.character (λ z. both_ways _ pieces.0 (eq-eqb bad.row.class 0 (sym own ∙ z))))

pub marks_decided : (t : Tables) → is_rising (λ _. 0) (λ (r : CharacterClass). r.character) t.classes ≡ true → IsTrue (list_all class_is_of_mark t.classes) ↔ ClassesAreOfMarks t
marks_decided t rising = decided (list_all class_is_of_mark t.classes) (ClassesAreOfMarks t) (λ h u n. mark_at t u h n) (mark_missing t rising)

pieces_from : (class : ℕ → ℕ) (c : ℕ) (o : Option (ℕ × ℕ)) (a b : ℕ) → pieces_have_class class c o ≡ true → o ≡ Some (a, b) → (class a ≡ c) × (b ≢ 0 → class b ≡ c)
pieces_from class c o a b h e =
    let here : (class a == c && (b == 0 || class b == c)) ≡ true = rw e at h in
    let pieces = and_parts (class a == c) (b == 0 || class b == c) here in
    (eqb-true (class a) c pieces.0, λ n. elim (or_cases (b == 0) (class b == c) pieces.1) [ inl z ↦ absurd (n (eqb-true b 0 z)) | inr at ↦ eqb-true (class b) c at ])

keeps_from : (t : Tables) (u a b : ℕ) → keeps_class t u ≡ true → split_of t u ≡ Some (a, b) → class_of t u ≢ 0 → (class_of t a ≡ class_of t u) × (b ≢ 0 → class_of t b ≡ class_of t u)
keeps_from t u a b h s n =
    elim (or_cases (class_of t u == 0) (pieces_have_class (class_of t) (class_of t u) (split_of t u)) h) [
      | inl z ↦ absurd (n (eqb-true (class_of t u) 0 z))
      | inr pieces ↦ pieces_from (class_of t) (class_of t u) (split_of t u) a b pieces s
    ]

keeps_at : (t : Tables) → list_all (λ (r : CharacterClass). keeps_class t r.character) t.classes ≡ true → SplitsKeepClass t
keeps_at t h u a b s n =
    let row = nonzero_has_row t u (find (λ (q : CharacterClass). q.character == u) t.classes) refl n in
    let found = find_passes (λ (q : CharacterClass). q.character == u) (λ (r : CharacterClass). keeps_class t r.character) t.classes row.0 row.1 h in
    let at : row.0.character ≡ u = eqb-true row.0.character u found.0 in
    keeps_from t u a b (rw at at found.1) s n

has_pieces : (class : ℕ → ℕ) (c : ℕ) (o : Option (ℕ × ℕ)) → ((a b : ℕ) → o ≡ Some (a, b) → (class a ≡ c) × (b ≢ 0 → class b ≡ c)) → pieces_have_class class c o ≡ true
has_pieces class c None h = refl
has_pieces class c (Some (a, b)) h =
    let pieces = h a b refl in
    and_from _ _ (eq-eqb (class a) c pieces.0)
    (elim (cases_eq b 0) [ inl z ↦ or_left _ _ (eq-eqb b 0 z) | inr n ↦ or_right _ _ (eq-eqb (class b) c (pieces.1 n)) ])

always_keeps : (t : Tables) → SplitsKeepClass t → (u : ℕ) → keeps_class t u ≡ true
always_keeps t keeps u =
    elim (cases_eq (class_of t u) 0) [
      | inl z ↦ or_left _ _ (eq-eqb (class_of t u) 0 z)
      | inr n ↦ or_right _ _ (has_pieces (class_of t) (class_of t u) (split_of t u) (λ a b s. keeps u a b s n))
    ]

pub keeps_decided : (t : Tables) → IsTrue (list_all (λ (r : CharacterClass). keeps_class t r.character) t.classes) ↔ SplitsKeepClass t
keeps_decided t = (keeps_at t, λ keeps. all_pass (λ (r : CharacterClass). keeps_class t r.character) t.classes (λ r. always_keeps t keeps r.character))

same_text-true : (xs ys : List ℕ) → same_text xs ys ≡ true → xs ≡ ys
same_text-true [] [] h = refl
same_text-true [] (y ∷ ys) h = cc
same_text-true (x ∷ xs) [] h = cc
same_text-true (x ∷ xs) (y ∷ ys) h =
    let pieces = and_parts (x == y) (same_text xs ys) h in
    ap₂ (λ a b. a ∷ b) (eqb-true x y pieces.0) (same_text-true xs ys pieces.1)

same_text-same : (xs : List ℕ) → same_text xs xs ≡ true
same_text-same [] = refl
same_text-same (x ∷ xs) = and_from _ _ (eq-eqb x x refl) (same_text-same xs)

-- a class occurs and passes the test, or only the starters are beside it
class_or_none : (class : ℕ → ℕ) (p : ℕ → Bool) (c : ℕ) (zs : List ℕ) → list_all (λ z. p (class z)) zs ≡ true → (p c ≡ true) ⊎ (beside_starters class c zs ≡ beside_starters class 0 zs)
class_or_none class p c [] h = inr refl
class_or_none class p c (z ∷ zs) h =
    let pieces = and_parts (p (class z)) (list_all (λ z. p (class z)) zs) h in
    elim (cases_eq (class z) c) [
      | inl at ↦ inl (rw at at pieces.0)
      | inr apart ↦
          let off : (class z == c) ≡ false = ne_eqb (class z) c apart in
          elim (class_or_none class p c zs pieces.1) [
            | inl passes ↦ inl passes
            | inr same ↦
                elim (cases_Bool (class z == 0)) [
                  | inl starter ↦ inr (rw (starter, same) refl)
                  | inr other ↦ inr (rw (other, off, same) refl)
                ]
          ]
    ]

pub classes_agree : (class : ℕ → ℕ) (xs ys : List ℕ) → has_same_classes class xs ys ≡ true → (c : ℕ) → beside_starters class c xs ≡ beside_starters class c ys
classes_agree class xs ys h c =
    let pieces = and_parts (same_beside_starters class xs ys 0) (list_all (λ x. same_beside_starters class xs ys (class x)) xs && list_all (λ y. same_beside_starters class xs ys (class y)) ys) h in
    let both = and_parts (list_all (λ x. same_beside_starters class xs ys (class x)) xs) (list_all (λ y. same_beside_starters class xs ys (class y)) ys) pieces.1 in
    let starters = same_text-true (beside_starters class 0 xs) (beside_starters class 0 ys) pieces.0 in
    elim (class_or_none class (same_beside_starters class xs ys) c xs both.0) [
      | inl passes ↦ same_text-true (beside_starters class c xs) (beside_starters class c ys) passes
      | inr none ↦
          elim (class_or_none class (same_beside_starters class xs ys) c ys both.1) [
            | inl passes ↦ same_text-true (beside_starters class c xs) (beside_starters class c ys) passes
            | inr none' ↦ none ∙ (starters ∙ sym none')
          ]
    ]

agree_test : (class : ℕ → ℕ) (xs ys : List ℕ) (c : ℕ) → beside_starters class c xs ≡ beside_starters class c ys → same_beside_starters class xs ys c ≡ true
agree_test class xs ys c e = rw e (same_text-same (beside_starters class c ys))

pub agree_tests : (class : ℕ → ℕ) (xs ys : List ℕ) → ((c : ℕ) → beside_starters class c xs ≡ beside_starters class c ys) → has_same_classes class xs ys ≡ true
agree_tests class xs ys h =
    and_from _ _ (agree_test class xs ys 0 (h 0))
    (and_from _ _
    (all_pass (λ x. same_beside_starters class xs ys (class x)) xs (λ x. agree_test class xs ys (class x) (h (class x))))
    (all_pass (λ y. same_beside_starters class xs ys (class y)) ys (λ y. agree_test class xs ys (class y) (h (class y)))))

-- one text agrees with itself
pub same_texts_agree : (class : ℕ → ℕ) (xs ys : List ℕ) → same_text xs ys ≡ true → true ≡ has_same_classes class xs ys
same_texts_agree class xs ys h = let e = same_text-true xs ys h in sym (agree_tests class xs ys (λ c. ap (beside_starters class c) e))

whole_from : (t : Tables) (a b u : ℕ) (o : Option ℕ) → whole_is_equivalent t a b o ≡ true → o ≡ Some u → text_order t (full_expansion t u) ≡ text_order t (full_expansion t a ++ full_expansion t b)
whole_from t a b u o h e =
    let here : has_same_classes (class_of t) (full_expansion t u) (full_expansion t a ++ full_expansion t b) ≡ true = rw e at h in
    order_from_classes (class_of t) (full_expansion t u) (full_expansion t a ++ full_expansion t b) (classes_agree (class_of t) (full_expansion t u) (full_expansion t a ++ full_expansion t b) here)

whole_at : (t : Tables) (a b : ℕ) → PairsAreEquivalent t → (o : Option ℕ) → o ≡ pair_of t a b → whole_is_equivalent t a b o ≡ true
whole_at t a b pairs None e = refl
whole_at t a b pairs (Some u) e =
    agree_tests (class_of t) (full_expansion t u) (full_expansion t a ++ full_expansion t b)
    (classes_from_order (class_of t) (full_expansion t u) (full_expansion t a ++ full_expansion t b) (pairs a b u (sym e)))

-- a pair that composes by the table has a row
pair_row : (t : Tables) (a b u : ℕ) (o : Option Pair) → o ≡ find (λ (p : Pair). p.first == a && p.second == b) t.pairs → option_map (λ (p : Pair). p.whole) o ≡ Some u
    → (p : Pair) × (find (λ (p : Pair). p.first == a && p.second == b) t.pairs ≡ Some p)
pair_row t a b u None e h = cc
pair_row t a b u (Some p) e h = (p, sym e)

-- a syllable has the expansions of its two halves
syllable_order : (t : Tables) (a b u : ℕ) → EndWithin (split_of t) 8 → SecondHalvesStay t → hangul_pair a b ≡ Some u → text_order t (full_expansion t u) ≡ text_order t (full_expansion t a ++ full_expansion t b)
syllable_order t a b u ends stay h =
    let pieces = (hangul_pairs_are_splits a b u).0 h in
    let s : split_of t u ≡ Some (a, b) = rw pieces refl in
    let present : b ≢ 0 = elim (second_is_jamo u a b pieces) [ inl vowel ↦ λ z. absurd (omega (arith, vowel, z)) | inr trailing ↦ λ z. absurd (omega (arith, trailing, z)) ] in
    ap (text_order t) (expansion_of_split t u a b ends stay s present)

pair_case : (t : Tables) → EndWithin (split_of t) 8 → SecondHalvesStay t
    → list_all (λ (p : Pair). whole_is_equivalent t p.first p.second (pair_of t p.first p.second)) t.pairs ≡ true
    → (a b u : ℕ) (o : Option ℕ) → o ≡ hangul_pair a b → option_or o (option_map (λ (p : Pair). p.whole) (find (λ (p : Pair). p.first == a && p.second == b) t.pairs)) ≡ Some u
    → pair_of t a b ≡ Some u → text_order t (full_expansion t u) ≡ text_order t (full_expansion t a ++ full_expansion t b)
pair_case t ends stay h a b u (Some s) e at whole = let same : hangul_pair a b ≡ Some u = sym e ∙ at in syllable_order t a b u ends stay same
pair_case t ends stay h a b u None e at whole =
    let row = pair_row t a b u (find (λ (p : Pair). p.first == a && p.second == b) t.pairs) refl at in
    let found = find_passes (λ (p : Pair). p.first == a && p.second == b) (λ (p : Pair). whole_is_equivalent t p.first p.second (pair_of t p.first p.second)) t.pairs row.0 row.1 h in
    let keys = and_parts (row.0.first == a) (row.0.second == b) found.0 in
    let first : row.0.first ≡ a = eqb-true row.0.first a keys.0 in
    let second : row.0.second ≡ b = eqb-true row.0.second b keys.1 in
    whole_from t a b u (pair_of t a b) (rw (first, second) at found.1) whole

pair_passes : (t : Tables) → EndWithin (split_of t) 8 → SecondHalvesStay t
    → list_all (λ (p : Pair). whole_is_equivalent t p.first p.second (pair_of t p.first p.second)) t.pairs ≡ true → PairsAreEquivalent t
pair_passes t ends stay h a b u e = pair_case t ends stay h a b u (hangul_pair a b) refl e e

pub pairs_decided : (t : Tables) → EndWithin (split_of t) 8 → SecondHalvesStay t
    → IsTrue (list_all (λ (p : Pair). whole_is_equivalent t p.first p.second (pair_of t p.first p.second)) t.pairs) ↔ PairsAreEquivalent t
pairs_decided t ends stay =
    (pair_passes t ends stay, λ pairs. all_pass (λ (p : Pair). whole_is_equivalent t p.first p.second (pair_of t p.first p.second)) t.pairs (λ p. whole_at t p.first p.second pairs (pair_of t p.first p.second) refl))

none_is : (o : Option (ℕ × ℕ)) → is_none o ≡ true → o ≡ None
none_is None h = refl
none_is (Some p) h = cc

absent_or_whole : (splits : Splits) (o : Option (ℕ × ℕ)) (a b : ℕ) → second_half_stays splits o ≡ true → o ≡ Some (a, b) → b ≢ 0 → splits b ≡ None
absent_or_whole splits o a b h e n =
    let here : (b == 0 || is_none (splits b)) ≡ true = rw e at h in
    elim (or_cases (b == 0) (is_none (splits b)) here) [
      | inl z ↦ absurd (n (eqb-true b 0 z))
      | inr none ↦ none_is (splits b) none
    ]

is_none-none : (o : Option (ℕ × ℕ)) → o ≡ None → is_none o ≡ true
is_none-none o e = rw e refl

-- a character that splits by the table has a row
split_row : (t : Tables) (u a b : ℕ) (o : Option Split) → o ≡ find (λ (s : Split). s.whole == u) t.splits → option_map {U = ℕ × ℕ} (λ (s : Split). (s.first, s.second)) o ≡ Some (a, b)
    → (s : Split) × (find (λ (s : Split). s.whole == u) t.splits ≡ Some s)
split_row t u a b None e h = cc
split_row t u a b (Some s) e h = (s, sym e)

seconds_case : (t : Tables) → list_all (λ (r : Split). second_half_stays (split_of t) (split_of t r.whole)) t.splits ≡ true
    → AllAmong 0x1161 21 (λ c. is_none (split_of t c)) → AllAmong 0x11A8 27 (λ c. is_none (split_of t c))
    → (u a b : ℕ) (o : Option (ℕ × ℕ)) → o ≡ hangul_split u → option_or o (option_map {U = ℕ × ℕ} (λ (s : Split). (s.first, s.second)) (find (λ (s : Split). s.whole == u) t.splits)) ≡ Some (a, b)
    → split_of t u ≡ Some (a, b) → b ≢ 0 → split_of t b ≡ None
seconds_case t rows vowels trailing u a b (Some p) e at whole n =
    let pieces : hangul_split u ≡ Some (a, b) = sym e ∙ at in
    elim (second_is_jamo u a b pieces) [
      | inl vowel ↦ none_is (split_of t b) (vowels b vowel.0 vowel.1)
      | inr last ↦ none_is (split_of t b) (trailing b last.0 last.1)
    ]
seconds_case t rows vowels trailing u a b None e at whole n =
    let row = split_row t u a b (find (λ (s : Split). s.whole == u) t.splits) refl at in
    let found = find_passes (λ (s : Split). s.whole == u) (λ (r : Split). second_half_stays (split_of t) (split_of t r.whole)) t.splits row.0 row.1 rows in
    let key : row.0.whole ≡ u = eqb-true row.0.whole u found.0 in
    absent_or_whole (split_of t) (split_of t u) a b (rw key at found.1) whole n

pub seconds_stay : (t : Tables) → list_all (λ (r : Split). second_half_stays (split_of t) (split_of t r.whole)) t.splits ≡ true
    → AllAmong 0x1161 21 (λ c. is_none (split_of t c)) → AllAmong 0x11A8 27 (λ c. is_none (split_of t c)) → SecondHalvesStay t
seconds_stay t rows vowels trailing u a b h n = seconds_case t rows vowels trailing u a b (hangul_split u) refl h h n

second_test : (splits : Splits) (o : Option (ℕ × ℕ)) → ((a b : ℕ) → o ≡ Some (a, b) → b ≢ 0 → splits b ≡ None) → second_half_stays splits o ≡ true
second_test splits None h = refl
second_test splits (Some (a, b)) h =
    elim (cases_eq b 0) [ inl z ↦ or_left _ _ (eq-eqb b 0 z) | inr n ↦ or_right _ _ (is_none-none (splits b) (h a b refl n)) ]

pub row_splits_twice : (t : Tables) → list_all (λ (r : Split). second_half_stays (split_of t) (split_of t r.whole)) t.splits ≡ false → SecondHalvesStay t → ⊥
row_splits_twice t h stay =
    both_ways _ h (all_pass (λ (r : Split). second_half_stays (split_of t) (split_of t r.whole)) t.splits (λ r. second_test (split_of t) (split_of t r.whole) (λ a b e n. stay r.whole a b e n)))

pub vowel_splits : (t : Tables) → SomeAmong 0x1161 21 (λ c. is_none (split_of t c) ≡ false) → SecondHalvesStay t → ⊥
vowel_splits t (c, (low, high, fails)) stay =
    let pair = pair_of_vowel 0x1100 c (omega arith) (omega arith) low (omega arith) in
    let pieces = (hangul_pairs_are_splits 0x1100 c _).0 pair in
    let whole : split_of t (0xAC00 + ((0x1100 - 0x1100) * 588 + (c - 0x1161) * 28)) ≡ Some (0x1100, c) = rw pieces refl in
    both_ways _ fails (is_none-none (split_of t c) (stay _ 0x1100 c whole (omega arith)))

pub trailing_splits : (t : Tables) → SomeAmong 0x11A8 27 (λ c. is_none (split_of t c) ≡ false) → SecondHalvesStay t → ⊥
trailing_splits t (c, (low, high, fails)) stay =
    let pair = pair_of_trailing 0xAC00 c (omega arith) (omega arith) (omega arith) low (omega arith) in
    let pieces = (hangul_pairs_are_splits 0xAC00 c _).0 pair in
    let whole : split_of t (0xAC00 + (c - 0x11A7)) ≡ Some (0xAC00, c) = rw pieces refl in
    both_ways _ fails (is_none-none (split_of t c) (stay _ 0xAC00 c whole (omega arith)))

pub not_so : (P : Type 0) → (P → ⊥) → IsTrue false ↔ P
not_so P refutes = (λ h. absurd (false≢true h), λ p. absurd (refutes p))

pub it_is : (P : Type 0) → P → IsTrue true ↔ P
it_is P p = (λ _. p, λ _. refl)

-- the last test decides
pub trailing_decided : (t : Tables) (trailing : Bool) → list_all (λ (r : Split). second_half_stays (split_of t) (split_of t r.whole)) t.splits ≡ true
    → AllAmong 0x1161 21 (λ c. is_none (split_of t c))
    → MatchBool trailing (AllAmong 0x11A8 27 (λ c. is_none (split_of t c))) (SomeAmong 0x11A8 27 (λ c. is_none (split_of t c) ≡ false))
    → IsTrue trailing ↔ SecondHalvesStay t
trailing_decided t true rows vowels trailing = it_is (SecondHalvesStay t) (seconds_stay t rows vowels trailing)
trailing_decided t false rows vowels trailing = not_so (SecondHalvesStay t) (trailing_splits t trailing)
