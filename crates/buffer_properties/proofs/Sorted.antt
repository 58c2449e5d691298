-- A list in class order: equivalent, of the tables' classes, and rising.
use Rattle.std.proofs.Common.{ℕ, zero, suc, ◌≡◌, ◌≢◌, ◌≤◌, ◌+◌, ◌-◌, ◌*◌, ◌/◌, ◌%◌, ◌==◌, ◌&&◌, true, false, if◌then◌else◌, List, [], ◌∷◌, ◌++◌, refl, sym, ap, ap₂, subst, ◌∙◌, arith, inl, inr, max, eqb-true, ne_eqb, eq-eqb}
use Rattle.std.proofs.lemmas.Bool.{cases_Bool, cases_eq, cond-true, cond-false}
use Rattle.std.proofs.lemmas.List.{map-append}
use Rattle.std.proofs.lemmas.Nat.{and_mask}
use Rattle.std.proofs.lemmas.Nat.Bits.{and_high}
use Rattle.std.specs.Int.RustNames.{bit_and}
use Rattle.buffer_rows.specs.KeyOrder.{of_key, by_key, key_bound}
use Rattle.buffer_unicode_tables.specs.ClassOrder.{run_order, order_after, class_order}
use Rattle.buffer_unicode_tables.specs.Tables.{Tables, class_of}
use Rattle.buffer_unicode_tables.specs.Texts.{AreEquivalent, same}
use Rattle.buffer_glyphs.specs.Items.{Item}
use Rattle.buffer_properties.specs.Properties.{without_bits}
use Rattle.buffer_properties.specs.Characters.{is_mark_number, mark_class, characters_of, visible_item}
use Rattle.buffer_properties.specs.Composing.{last_class}
use Rattle.buffer_properties.specs.Ordering.{separates_nothing, joiner_between, with_joiners_shown, joiners_shown}
use Rattle.buffer_properties.proofs.Equivalence.{order_is_equivalent}
use Rattle.buffer_properties.proofs.Kept.{AreOfTables, of_tables_append, Keeps}

characters_append : (xs ys : List Item) → characters_of (xs ++ ys) ≡ characters_of xs ++ characters_of ys
characters_append xs ys = map-append (λ (x : Item). x.number) xs ys

characters_of_class : (t : Tables) (k : ℕ) (zs : List Item) → AreOfTables t zs → characters_of (of_key mark_class k zs) ≡ of_key (class_of t) k (characters_of zs)
characters_of_class t k [] h = refl
characters_of_class t k (z ∷ zs) h =
    let same_test : (mark_class z == k) ≡ (class_of t z.number == k) = ap (λ n. n == k) h.0 in
    elim (cases_Bool (class_of t z.number == k)) [
      | inl at ↦ ap characters_of (cond-true _ _ _ (same_test ∙ at)) ∙ (ap (λ us. z.number ∷ us) (characters_of_class t k zs h.1) ∙ sym (cond-true _ _ _ at))
      | inr off ↦ ap characters_of (cond-false _ _ _ (same_test ∙ off)) ∙ (characters_of_class t k zs h.1 ∙ sym (cond-false _ _ _ off))
    ]

characters_by_class : (t : Tables) (n : ℕ) (zs : List Item) → AreOfTables t zs → characters_of (by_key mark_class n zs) ≡ by_key (class_of t) n (characters_of zs)
characters_by_class t zero zs h = refl
characters_by_class t (suc n) zs h = characters_append (by_key mark_class n zs) (of_key mark_class n zs) ∙ ap₂ (λ a b. a ++ b) (characters_by_class t n zs h) (characters_of_class t n zs h)

bound_of_characters : (t : Tables) (zs : List Item) → AreOfTables t zs → key_bound mark_class zs ≡ key_bound (class_of t) (characters_of zs)
bound_of_characters t [] h = refl
bound_of_characters t (z ∷ zs) h = ap₂ (λ a b. max (a + 1) b) h.0 (bound_of_characters t zs h.1)

characters_of_run : (t : Tables) (run : List Item) → AreOfTables t run → characters_of (run_order mark_class run) ≡ run_order (class_of t) (characters_of run)
unfolding run_order
characters_of_run t run h = characters_by_class t (key_bound mark_class run) run h ∙ ap (λ n. by_key (class_of t) n (characters_of run)) (bound_of_characters t run h)

characters_in_order : (t : Tables) (run xs : List Item) → AreOfTables t run → AreOfTables t xs → characters_of (order_after mark_class run xs) ≡ order_after (class_of t) (characters_of run) (characters_of xs)
characters_in_order t run [] r h = characters_of_run t run r
characters_in_order t run (x ∷ xs) r h =
    let same_test : (mark_class x == 0) ≡ (class_of t x.number == 0) = ap (λ n. n == 0) h.0 in
    elim (cases_Bool (class_of t x.number == 0)) [
      | inl at ↦
          ap characters_of (cond-true _ _ _ (same_test ∙ at))
          ∙ (characters_append (run_order mark_class run) (x ∷ order_after mark_class [] xs)
          ∙ (ap₂ (λ a b. a ++ x.number ∷ b) (characters_of_run t run r) (characters_in_order t [] xs tt h.1)
          ∙ sym (cond-true _ _ _ at)))
      | inr off ↦
          ap characters_of (cond-false _ _ _ (same_test ∙ off))
          ∙ (characters_in_order t (run ++ x ∷ []) xs (of_tables_append t run (x ∷ []) r (h.0, tt)) h.1
          ∙ (ap (λ us. order_after (class_of t) us (characters_of xs)) (characters_append run (x ∷ [])) ∙ sym (cond-false _ _ _ off)))
    ]

of_tables_of_class : (t : Tables) (k : ℕ) (zs : List Item) → AreOfTables t zs → AreOfTables t (of_key mark_class k zs)
of_tables_of_class t k [] h = tt
of_tables_of_class t k (z ∷ zs) h =
    elim (mark_class z == k) as (λ b. AreOfTables t (if b then z ∷ of_key mark_class k zs else of_key mark_class k zs)) [
      | true ↦ (h.0, of_tables_of_class t k zs h.1)
      | false ↦ of_tables_of_class t k zs h.1
    ]

of_tables_by_class : (t : Tables) (n : ℕ) (zs : List Item) → AreOfTables t zs → AreOfTables t (by_key mark_class n zs)
of_tables_by_class t zero zs h = tt
of_tables_by_class t (suc n) zs h = of_tables_append t (by_key mark_class n zs) (of_key mark_class n zs) (of_tables_by_class t n zs h) (of_tables_of_class t n zs h)

of_tables_in_run : (t : Tables) (run : List Item) → AreOfTables t run → AreOfTables t (run_order mark_class run)
unfolding run_order
of_tables_in_run t run h = of_tables_by_class t (key_bound mark_class run) run h

of_tables_in_order : (t : Tables) (run xs : List Item) → AreOfTables t run → AreOfTables t xs → AreOfTables t (order_after mark_class run xs)
of_tables_in_order t run [] r h = of_tables_in_run t run r
of_tables_in_order t run (x ∷ xs) r h =
    elim (mark_class x == 0) as (λ b. AreOfTables t (if b then run_order mark_class run ++ x ∷ order_after mark_class [] xs else order_after mark_class (run ++ x ∷ []) xs)) [
      | true ↦ of_tables_append t (run_order mark_class run) (x ∷ order_after mark_class [] xs) (of_tables_in_run t run r) (h.0, of_tables_in_order t [] xs tt h.1)
      | false ↦ of_tables_in_order t (run ++ x ∷ []) xs (of_tables_append t run (x ∷ []) r (h.0, tt)) h.1
    ]

-- the class order keeps a list of the tables' classes
pub order_keeps : (t : Tables) (xs : List Item) → AreOfTables t xs → Keeps t xs (class_order mark_class xs)
order_keeps t xs h = record {
  equivalent = subst (λ (us : List ℕ). AreEquivalent t (characters_of xs) us) (sym (characters_in_order t [] xs tt h)) (order_is_equivalent t (characters_of xs));
  of_tables = λ o. of_tables_in_order t [] xs tt h;
}

-- no nonzero class is less than the class before it
abbrev pub IsRisingAfter : ℕ → List Item → Type 0
IsRisingAfter k [] = Unit {0}
IsRisingAfter k (x ∷ xs) = (mark_class x ≢ 0 → k ≤ mark_class x) × IsRisingAfter (mark_class x) xs

rising_append : (k : ℕ) (xs ys : List Item) → IsRisingAfter k xs → IsRisingAfter (last_class k xs) ys → IsRisingAfter k (xs ++ ys)
rising_append k [] ys h g = g
rising_append k (x ∷ xs) ys h g = (h.0, rising_append (mark_class x) xs ys h.1 g)

pub last_append : (k : ℕ) (xs ys : List Item) → last_class k (xs ++ ys) ≡ last_class (last_class k xs) ys
last_append k [] ys = refl
last_append k (x ∷ xs) ys = last_append (mark_class x) xs ys

record RisesTo (k n : ℕ) (xs : List Item) : Type 0 where
  rises : IsRisingAfter k xs
  last : last_class k xs ≤ n

rises_of_class : (k n : ℕ) (zs : List Item) → k ≤ n → RisesTo k n (of_key mark_class n zs)
rises_of_class k n [] le = record { rises = tt; last = le }
rises_of_class k n (z ∷ zs) le =
    elim (cases_Bool (mark_class z == n)) [
      | inl at ↦
          let e : mark_class z ≡ n = eqb-true (mark_class z) n at in
          let rest = rises_of_class (mark_class z) n zs (omega (arith, e)) in
          let whole : RisesTo k n (z ∷ of_key mark_class n zs) = record { rises = ((λ m. omega (arith, e, le)), rest.rises); last = rest.last } in
          subst (RisesTo k n) (sym (cond-true _ _ _ at)) whole
      | inr off ↦ subst (RisesTo k n) (sym (cond-false _ _ _ off)) (rises_of_class k n zs le)
    ]

rises_by_class : (n : ℕ) (zs : List Item) → RisesTo 0 n (by_key mark_class n zs)
rises_by_class zero zs = record { rises = tt; last = omega arith }
rises_by_class (suc n) zs =
    let front = rises_by_class n zs in
    let back = rises_of_class (last_class 0 (by_key mark_class n zs)) n zs front.last in
    let e = last_append 0 (by_key mark_class n zs) (of_key mark_class n zs) in
    record { rises = rising_append 0 (by_key mark_class n zs) (of_key mark_class n zs) front.rises back.rises; last = let l = back.last in omega (arith, e, l) }

rising_run : (run : List Item) → IsRisingAfter 0 (run_order mark_class run)
unfolding run_order
rising_run run = let all = rises_by_class (key_bound mark_class run) run in all.rises

-- the class order rises
pub rising_order : (run xs : List Item) → IsRisingAfter 0 (order_after mark_class run xs)
rising_order run [] = rising_run run
rising_order run (x ∷ xs) =
    elim (cases_eq (mark_class x) 0) [
      | inl z ↦
          let later : IsRisingAfter (mark_class x) (order_after mark_class [] xs) = subst (λ (k : ℕ). IsRisingAfter k (order_after mark_class [] xs)) (sym z) (rising_order [] xs) in
          let tail : IsRisingAfter (last_class 0 (run_order mark_class run)) (x ∷ order_after mark_class [] xs) = ((λ n. absurd (n z)), later) in
          subst (IsRisingAfter 0) (sym (cond-true _ _ _ (eq-eqb (mark_class x) 0 z))) (rising_append 0 (run_order mark_class run) (x ∷ order_after mark_class [] xs) (rising_run run) tail)
      | inr n ↦ subst (IsRisingAfter 0) (sym (cond-false _ _ _ (ne_eqb (mark_class x) 0 n))) (rising_order (run ++ x ∷ []) xs)
    ]

pub low_bits_stay : (p q r : ℕ) → r ≡ q * 64 → r ≤ p → (p - r) % 32 ≡ p % 32
low_bits_stay p q r e le = omega (arith, e, le)

pub bit_within : (p : ℕ) → bit_and p 64 ≤ p
bit_within p = let e = and_high p 1 6 in omega (arith, e)

-- to show a joiner changes no category
pub category_of_shown : (p : ℕ) → bit_and (without_bits 0x40 p) 0x1F ≡ bit_and p 0x1F
category_of_shown p =
    let e : bit_and p 64 ≡ (p / 64 % 2) * 64 = and_high p 1 6 in
    and_mask (without_bits 0x40 p) 5 ∙ (low_bits_stay p (p / 64 % 2) (bit_and p 64) e (bit_within p) ∙ sym (and_mask p 5))

class_of_shown : (x : Item) → mark_class (visible_item x) ≡ mark_class x
class_of_shown x = ap (λ n. if is_mark_number n then x.class else 0) (category_of_shown x.unicode_props)

class_of_joiner : (before x next : Item) → mark_class (joiner_between before x next) ≡ mark_class x
class_of_joiner before x next =
    elim (x.number == 0x034F && separates_nothing before next) as (λ b. mark_class (if b then visible_item x else x) ≡ mark_class x) [
      | true ↦ class_of_shown x
      | false ↦ refl
    ]

number_of_joiner : (before x next : Item) → (joiner_between before x next).number ≡ x.number
number_of_joiner before x next =
    elim (x.number == 0x034F && separates_nothing before next) as (λ b. (if b then visible_item x else x).number ≡ x.number) [
      | true ↦ refl
      | false ↦ refl
    ]

pub characters_with_joiners : (before : Item) (xs : List Item) → characters_of (with_joiners_shown before xs) ≡ characters_of xs
characters_with_joiners before [] = refl
characters_with_joiners before (x ∷ []) = refl
characters_with_joiners before (x ∷ y ∷ ys) = ap₂ (λ a b. a ∷ b) (number_of_joiner before x y) (characters_with_joiners x (y ∷ ys))

of_tables_with_joiners : (t : Tables) (before : Item) (xs : List Item) → AreOfTables t xs → AreOfTables t (with_joiners_shown before xs)
of_tables_with_joiners t before [] h = tt
of_tables_with_joiners t before (x ∷ []) h = h
of_tables_with_joiners t before (x ∷ y ∷ ys) h =
    (class_of_joiner before x y ∙ (h.0 ∙ ap (class_of t) (sym (number_of_joiner before x y))), of_tables_with_joiners t x (y ∷ ys) h.1)

rising_with_joiners : (k : ℕ) (before : Item) (xs : List Item) → IsRisingAfter k xs → IsRisingAfter k (with_joiners_shown before xs)
rising_with_joiners k before [] h = tt
rising_with_joiners k before (x ∷ []) h = h
rising_with_joiners k before (x ∷ y ∷ ys) h =
    let e = class_of_joiner before x y in
    ((λ n. rw e (h.0 (λ z. n (e ∙ z)))), subst (λ (j : ℕ). IsRisingAfter j (with_joiners_shown x (y ∷ ys))) (sym e) (rising_with_joiners (mark_class x) x (y ∷ ys) h.1))

pub joiners_keep : (t : Tables) (xs : List Item) → Keeps t xs (joiners_shown xs)
joiners_keep t [] = record { equivalent = same; of_tables = λ o. o }
joiners_keep t (x ∷ xs) = record {
  equivalent = subst (λ (us : List ℕ). AreEquivalent t (x.number ∷ characters_of xs) (x.number ∷ us)) (sym (characters_with_joiners x xs)) same;
  of_tables = λ o. (o.0, of_tables_with_joiners t x xs o.1);
}

pub joiners_rise : (xs : List Item) → IsRisingAfter 0 xs → IsRisingAfter 0 (joiners_shown xs)
joiners_rise [] h = tt
joiners_rise (x ∷ xs) h = (h.0, rising_with_joiners (mark_class x) x xs h.1)
