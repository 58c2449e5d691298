-- The third round keeps a text equivalent.
use Rattle.std.proofs.Common.{ℕ, ◌≡◌, ◌≢◌, ◌≤◌, ◌<◌, ◌+◌, ◌==◌, ◌&&◌, true, false, if◌then◌else◌, List, [], ◌∷◌, ◌++◌, length, append_assoc, Option, Some, None, option_map, refl, sym, ap, subst, ◌∙◌, arith, inl, inr}
use Rattle.std.proofs.lemmas.Bool.{cases_Bool, cases_eq, cond-true, cond-false, and_parts, ltb-true}
use Rattle.std.proofs.lemmas.List.{append-nil, map-append}
use Rattle.std.specs.Option.{option_and_then, option_map_or}
use Rattle.buffer_unicode_tables.specs.Lawful.{IsLawful}
use Rattle.buffer_unicode_tables.specs.Tables.{Tables, pair_of, class_of}
use Rattle.buffer_unicode_tables.specs.Texts.{AreEquivalent, same}
use Rattle.buffer_glyphs.specs.Items.{Item}
use Rattle.buffer_glyphs.specs.Rewriting.{Arrangement}
use Rattle.buffer_properties.specs.Characters.{is_mark, mark_class, characters_of, standing_for, with_glyph}
use Rattle.buffer_properties.specs.Composing.{last_class, is_not_blocked, becoming, composite, with_composition, composition_from, composed_list}
use Rattle.buffer_properties.specs.Normalizer.{Normalizer}
use Rattle.buffer_properties.specs.Premises.{ComposesWithinUnicode}
use Rattle.buffer_properties.proofs.Equivalence.{then_all, turned_round, around, behind, AreApart, passes, pair_is_equivalent}
use Rattle.buffer_properties.proofs.Kept.{AreOfTables, of_tables_append}
use Rattle.buffer_properties.proofs.Sorted.{IsRisingAfter, last_append}

-- what a composite is
record IsComposite (c : Normalizer) (starter : Item) (between : List Item) (x composed : Item) : Type 0 where
  reaches : is_not_blocked between x ≡ true
  pair : c.composes starter.number x.number ≡ Some composed.number

becoming_number : (c : Normalizer) (starter composed : Item) (u : ℕ) (o : Option ℕ) → option_map (λ g. with_glyph g (standing_for c.tables u starter)) o ≡ Some composed → composed.number ≡ u
becoming_number c starter composed u None e = absurd (let none : None ≡ Some composed = e in cc)
becoming_number c starter composed u (Some g) e =
    let whole : with_glyph g (standing_for c.tables u starter) ≡ composed = cc in
    ap (λ (y : Item). y.number) (sym whole)

composed_pair : (c : Normalizer) (starter composed : Item) (o : Option ℕ) → option_and_then (becoming c starter) o ≡ Some composed → o ≡ Some composed.number
composed_pair c starter composed None e = absurd (let none : None ≡ Some composed = e in cc)
composed_pair c starter composed (Some u) e = ap Some (sym (becoming_number c starter composed u (c.glyph_of u) e))

composite_is : (c : Normalizer) (starter : Item) (between : List Item) (x composed : Item) → composite c starter between x ≡ Some composed → IsComposite c starter between x composed
unfolding composite
composite_is c starter between x composed e =
    elim (cases_Bool (is_mark x && is_not_blocked between x)) [
      | inl reached ↦
          let pieces = and_parts (is_mark x) (is_not_blocked between x) reached in
          record { reaches = pieces.1; pair = composed_pair c starter composed (c.composes starter.number x.number) (sym (cond-true _ _ _ reached) ∙ e) }
      | inr blocked ↦ absurd (let none : None ≡ Some composed = sym (cond-false _ _ _ blocked) ∙ e in cc)
    ]

-- the items between a starter and what is ahead: marks of classes up to that of the last of them
abbrev AreBelow : ℕ → List Item → Type 0
AreBelow k [] = Unit {0}
AreBelow k (y ∷ ys) = (mark_class y ≢ 0) × (mark_class y ≤ k) × AreBelow k ys

abbrev EndsAt : ℕ → List Item → Type 0
EndsAt k [] = Unit {0}
EndsAt k (y ∷ ys) = last_class (mark_class y) ys ≡ k

record IsBetween (t : Tables) (k : ℕ) (between xs : List Item) : Type 0 where
  of_tables : AreOfTables t between
  below : AreBelow k between
  ends : EndsAt k between
  rises : IsRisingAfter k xs

below_push : (j k : ℕ) (ys : List Item) (x : Item) → AreBelow j ys → j ≤ k → mark_class x ≢ 0 → mark_class x ≤ k → AreBelow k (ys ++ x ∷ [])
below_push j k [] x h le n own = (n, own, tt)
below_push j k (y ∷ ys) x h le n own = (h.0, omega (arith, h.1, le), below_push j k ys x h.2 le n own)

ends_push : (ys : List Item) (x : Item) → EndsAt (mark_class x) (ys ++ x ∷ [])
ends_push [] x = refl
ends_push (y ∷ ys) x = last_append (mark_class y) ys (x ∷ [])

apart_below : (t : Tables) (k j : ℕ) (ys : List Item) → AreOfTables t ys → AreBelow k ys → k < j → AreApart (class_of t) j (characters_of ys)
apart_below t k j [] o h lt = tt
apart_below t k j (y ∷ ys) o h lt =
    ((λ z. h.0 (o.0 ∙ z)), (λ e. let le = h.1 in let own = o.0 in omega (arith, le, own, e, lt)), apart_below t k j ys o.1 h.2 lt)

-- a mark after marks of lesser classes reaches the starter
reaches_over : (t : Tables) (a b u : ℕ) (ws xs : List ℕ) → IsLawful t → pair_of t a b ≡ Some u → class_of t b ≢ 0 → AreApart (class_of t) (class_of t b) ws
    → AreEquivalent t (a ∷ (ws ++ b ∷ xs)) (u ∷ (ws ++ xs))
reaches_over t a b u ws xs lawful e n apart =
    then_all t _ _ _
    (behind t (a ∷ []) (ws ++ b ∷ xs) (b ∷ (ws ++ xs)) (turned_round t _ _ (passes t b ws xs n apart)))
    (around t [] (a ∷ b ∷ []) (u ∷ []) (ws ++ xs) (pair_is_equivalent t a b u lawful e))

composition_equivalent : (c : Normalizer) (k : ℕ) (starter : Item) (between : List Item) (x composed : Item) (xs : List Item) → IsLawful c.tables → ComposesWithinUnicode c → mark_class x ≡ class_of c.tables x.number
    → IsBetween c.tables k between (x ∷ xs) → IsComposite c starter between x composed
    → AreEquivalent c.tables (starter.number ∷ (characters_of between ++ x.number ∷ characters_of xs)) (composed.number ∷ (characters_of between ++ characters_of xs))
composition_equivalent c k starter [] x composed xs lawful within own h e =
    around c.tables [] (starter.number ∷ x.number ∷ []) (composed.number ∷ []) (characters_of xs) (pair_is_equivalent c.tables starter.number x.number composed.number lawful (within _ _ _ e.pair))
composition_equivalent c k starter (y ∷ ys) x composed xs lawful within own h e =
    let less : last_class (mark_class y) ys < mark_class x = ltb-true _ _ e.reaches in
    let ends : last_class (mark_class y) ys ≡ k = h.ends in
    let lt : k < class_of c.tables x.number = omega (arith, less, ends, own) in
    reaches_over c.tables starter.number x.number composed.number (characters_of (y ∷ ys)) (characters_of xs) lawful (within _ _ _ e.pair) (omega (arith, lt)) (apart_below c.tables k (class_of c.tables x.number) (y ∷ ys) h.of_tables h.below lt)

-- after a mark that was composed, the items still rise
rises_without : (k : ℕ) (x : Item) (xs : List Item) → mark_class x ≢ 0 → IsRisingAfter k (x ∷ xs) → IsRisingAfter k xs
rises_without k x [] n h = tt
rises_without k x (y ∷ ys) n h = ((λ m. let first = h.0 n in let second = h.1.0 m in omega (arith, first, second)), h.1.1)

-- what stands between, once the mark after it was composed
record StillBetween (t : Tables) (between xs : List Item) : Type 0 where
  class : ℕ
  is_between : IsBetween t class between xs

still_between : (t : Tables) (k : ℕ) (between : List Item) (x : Item) (xs : List Item) → is_not_blocked between x ≡ true → IsBetween t k between (x ∷ xs) → StillBetween t between xs
still_between t k [] x xs e h = record { class = mark_class x; is_between = record { of_tables = tt; below = tt; ends = tt; rises = h.rises.1 } }
still_between t k (y ∷ ys) x xs e h =
    let less : last_class (mark_class y) ys < mark_class x = ltb-true _ _ e in
    record { class = k; is_between = record { of_tables = h.of_tables; below = h.below; ends = h.ends; rises = rises_without k x xs (omega (arith, less)) h.rises } }

characters_append : (xs ys : List Item) → characters_of (xs ++ ys) ≡ characters_of xs ++ characters_of ys
characters_append xs ys = map-append (λ (x : Item). x.number) xs ys

abbrev AreComposedAlike : Normalizer → List Item → Type 0
AreComposedAlike c xs = (k : ℕ) (done : List Item) (starter : Item) (between : List Item) → AreOfTables c.tables xs → IsBetween c.tables k between xs
    → AreEquivalent c.tables (characters_of (done ++ starter ∷ (between ++ xs))) (characters_of (composition_from c done starter between xs).items)

at_composite : (c : Normalizer) (k : ℕ) (done : List Item) (starter : Item) (between : List Item) (x : Item) (xs : List Item) (o : Option Item) → IsLawful c.tables → ComposesWithinUnicode c → AreComposedAlike c xs
    → AreOfTables c.tables (x ∷ xs) → IsBetween c.tables k between (x ∷ xs) → composite c starter between x ≡ o
    → AreEquivalent c.tables (characters_of (done ++ starter ∷ (between ++ x ∷ xs)))
    (characters_of
    (option_map_or (λ composed. with_composition (length done) (length done + 1 + length between) (composition_from c done composed between xs)) o
    (if mark_class x == 0 then composition_from c (done ++ starter ∷ between) x [] xs else composition_from c done starter (between ++ x ∷ []) xs)).items)
at_composite c k done starter between x xs (Some composed) lawful within later o h e =
    let found = composite_is c starter between x composed e in
    let still = still_between c.tables k between x xs found.reaches h in
    let step = composition_equivalent c k starter between x composed xs lawful within o.0 h found in
    let before : characters_of (done ++ starter ∷ (between ++ x ∷ xs)) ≡ characters_of done ++ (starter.number ∷ (characters_of between ++ x.number ∷ characters_of xs)) =
    characters_append done (starter ∷ (between ++ x ∷ xs)) ∙ ap (λ us. characters_of done ++ starter.number ∷ us) (characters_append between (x ∷ xs)) in
    let after : characters_of (done ++ composed ∷ (between ++ xs)) ≡ characters_of done ++ (composed.number ∷ (characters_of between ++ characters_of xs)) =
    characters_append done (composed ∷ (between ++ xs)) ∙ ap (λ us. characters_of done ++ composed.number ∷ us) (characters_append between xs) in
    let P : List ℕ → List ℕ → Type 0 = AreEquivalent c.tables in
    let moved : P (characters_of (done ++ starter ∷ (between ++ x ∷ xs))) (characters_of (done ++ composed ∷ (between ++ xs))) =
    subst (λ (us : List ℕ). P us (characters_of (done ++ composed ∷ (between ++ xs)))) (sym before) (subst (λ (us : List ℕ). P (characters_of done ++ (starter.number ∷ (characters_of between ++ x.number ∷ characters_of xs))) us) (sym after) (behind c.tables (characters_of done) _ _ step)) in
    then_all c.tables _ _ _ moved (later still.class done composed between o.1 still.is_between)
at_composite c k done starter between x xs None lawful within later o h e =
    let P : List Item → Arrangement → Type 0 = λ ys a. AreEquivalent c.tables (characters_of ys) (characters_of a.items) in
    let whole : List Item = done ++ starter ∷ (between ++ x ∷ xs) in
    elim (cases_eq (mark_class x) 0) [
      | inl z ↦
          let at : (mark_class x == 0) ≡ true = grind arith in
          let joined : (done ++ starter ∷ between) ++ x ∷ xs ≡ done ++ starter ∷ (between ++ x ∷ xs) = append_assoc done (starter ∷ between) (x ∷ xs) in
          let next : IsBetween c.tables (mark_class x) [] xs = record { of_tables = tt; below = tt; ends = tt; rises = h.rises.1 } in
          subst (P (done ++ starter ∷ (between ++ x ∷ xs))) (sym (cond-true _ _ _ at)) (subst (λ (ys : List Item). P ys (composition_from c (done ++ starter ∷ between) x [] xs)) joined (later (mark_class x) (done ++ starter ∷ between) x [] o.1 next))
      | inr n ↦
          let off : (mark_class x == 0) ≡ false = grind arith in
          let joined : done ++ starter ∷ ((between ++ x ∷ []) ++ xs) ≡ done ++ starter ∷ (between ++ x ∷ xs) = ap (λ ys. done ++ starter ∷ ys) (append_assoc between (x ∷ []) xs) in
          let le : k ≤ mark_class x = h.rises.0 n in
          let next : IsBetween c.tables (mark_class x) (between ++ x ∷ []) xs =
          record { of_tables = of_tables_append c.tables between (x ∷ []) h.of_tables (o.0, tt); below = below_push k (mark_class x) between x h.below le n (omega arith); ends = ends_push between x; rises = h.rises.1 } in
          subst (P (done ++ starter ∷ (between ++ x ∷ xs))) (sym (cond-false _ _ _ off)) (subst (λ (ys : List Item). P ys (composition_from c done starter (between ++ x ∷ []) xs)) joined (later (mark_class x) done starter (between ++ x ∷ []) o.1 next))
    ]

composed_alike : (c : Normalizer) (xs : List Item) → IsLawful c.tables → ComposesWithinUnicode c → AreComposedAlike c xs
composed_alike c [] lawful within k done starter between o h =
    let end : between ++ [] ≡ between = append-nil between in
    subst (λ (ys : List Item). AreEquivalent c.tables (characters_of (done ++ starter ∷ ys)) (characters_of (done ++ starter ∷ between))) (sym end) same
composed_alike c (x ∷ xs) lawful within k done starter between o h =
    at_composite c k done starter between x xs (composite c starter between x) lawful within (composed_alike c xs lawful within) o h refl

-- a rising list of the tables' classes is equivalent to what it is composed to
pub composed_equivalent : (c : Normalizer) (xs : List Item) → IsLawful c.tables → ComposesWithinUnicode c → AreOfTables c.tables xs → IsRisingAfter 0 xs → AreEquivalent c.tables (characters_of xs) (characters_of (composed_list c xs).items)
composed_equivalent c [] lawful within o h = same
composed_equivalent c (x ∷ xs) lawful within o h = composed_alike c xs lawful within (mark_class x) [] x [] o.1 (record { of_tables = tt; below = tt; ends = tt; rises = h.1 })
