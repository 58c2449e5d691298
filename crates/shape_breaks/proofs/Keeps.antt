-- What stands for a character by a shaper keeps marks and joining types, where tables and font do.
use Rattle.std.proofs.Common.{ℕ, ◌≡◌, ◌≤◌, ◌<◌, ◌==◌, ◌&&◌, ◌||◌, nat_le, nat_lt, inl, inr, if◌then◌else◌, Bool, true, false, Option, None, Some, arith, refl, sym, ap, subst, ◌∙◌}
use Rattle.std.proofs.lemmas.Bool.Decides.{nat_tests}
use lib.Utf8.{scalar}
use Rattle.buffer_facts.proofs.Truth.{both_true, either_true}
use Rattle.buffer_unicode.specs.Character.{is_in_range, is_variation_selector_character}
use Rattle.buffer_unicode_tables.specs.Lawful.{IsLawful}
use Rattle.buffer_unicode_tables.specs.Tables.{Tables, class_of, counterpart_in, pair_of, split_of, thai_of}
use Rattle.layout_face.specs.Glyphs.{variation_glyph}
use Rattle.script_categories.specs.declared.joining_types.hb_arabic_joining_type_t.TheVariants.{T}
use Rattle.script_joining.specs.Types.{type_of_character}
use Rattle.shape_laws.specs.Breaks.Characters.{CounterpartKeepsMarks, HalvesKeepMarks}
use Rattle.shape_laws.specs.Breaks.ThaiCharacters.{KeepsPrivateMarks, PrivateKeepsMarks}
use Rattle.shape_laws.specs.Breaks.Types.{AreSeenAs, CounterpartKeepsType, HalvesKeepType, joins_nothing}
use Rattle.shape_pipeline.specs.Shaping.{Shaping}
use Rattle.shape_breaks.specs.Laws.{FollowsTables, TablesKeepMarks, TablesKeepTypes}
use Rattle.shape_breaks.specs.Tables.{HaveNoFault, KeepMarks, KeepPrivateMarks, KeepTypes}
use Rattle.shape_breaks.proofs.Rows.{joiner_stays, no_action, no_class, no_mirrored, no_split, no_thai, no_vertical}
use Rattle.shape_breaks.proofs.Types.{KeepHalves, KeepOrdered, composites_seen}

-- ---- what holds of each character, and of no number beside them, holds of each number

by_scalar : (u : ℕ) (P : Type 0) → (scalar u ≡ true → P) → (scalar u ≡ false → P) → P
by_scalar u P some none = by_test (scalar u) some none
  where
    by_test : (b : Bool) → (b ≡ true → P) → (b ≡ false → P) → P
    by_test true f g = f refl
    by_test false f g = g refl

-- what a number that is no character has not
only_for : {X : Type 0} (u : ℕ) (P : Option X → Type 0) (o : Option X) → P None → (scalar u ≡ true → P o) → (scalar u ≡ false → o ≡ None) → P o
only_for u P o none some lacks = by_scalar u (P o) some (λ e. subst P (sym (lacks e)) none)

-- what is asked of characters alone
asked_for : {X : Type 0} (u : ℕ) (P : Option X → Type 0) (o : Option X) → P None → (scalar u ≡ true → P o) → P (if scalar u then o else None)
asked_for u P o none some = by_test (scalar u) some
  where
    by_test : (b : Bool) → (b ≡ true → P o) → P (if b then o else None)
    by_test true f = f refl
    by_test false f = none

-- ---- marks

joiner_kept : (b : Bool) (o : Option ℕ) → o ≡ None → (if b then o else None) ≡ None
joiner_kept true o e = e
joiner_kept false o e = refl

pub tables_keep_marks : TablesKeepMarks
tables_keep_marks p sound splits is =
    let t = p.tables in
    record {
      halves = λ u. asked_for u (HalvesKeepMarks u) (p.rules.splits t u) tt (λ e. subst (HalvesKeepMarks u) (sym (splits u)) (is.each u e).halves);
      mirrored = λ u. only_for u (CounterpartKeepsMarks u) (counterpart_in t.mirrored u) tt (λ e. (is.each u e).mirrored) (λ e. no_mirrored t u sound e);
      vertical = λ u. only_for u (CounterpartKeepsMarks u) (counterpart_in t.vertical u) tt (λ e. (is.each u e).vertical) (λ e. no_vertical t u sound e);
      joiner_is_mark = is.joiner.mark;
      joiner_class = is.joiner.class;
      joiner_stays = λ s. joiner_kept (scalar 0x34F && scalar s) (variation_glyph 0x34F s p.font) (joiner_stays p.font s is.joiner.stays);
    }

-- ---- joining types

high_scalar : (u : ℕ) → 0xE000 ≤ u → u < 0x110000 → scalar u ≡ true
high_scalar u low high = by_tests (nat_lt u 0xD800) (nat_le 0xE000 u) (nat_lt u 0x110000) (grind (arith, nat_tests, low)) (grind (arith, nat_tests, high))
  where
    by_tests : (a b c : Bool) → b ≡ true → c ≡ true → (if a then true else (b && c)) ≡ true
    by_tests true b c e f = refl
    by_tests false true c e f = f
    by_tests false false c e f = cc

in_high_range : (u first last : ℕ) → 0xE000 ≤ first → last < 0x110000 → is_in_range u (first, last) ≡ true → scalar u ≡ true
in_high_range u first last low high e =
    let two = both_true (nat_le first u) (nat_le u last) e in
    let after : first ≤ u = grind (arith, nat_tests, two.0) in
    let before : u ≤ last = grind (arith, nat_tests, two.1) in
    high_scalar u (omega (arith, low, after)) (omega (arith, high, before))

selector_scalar : (u : ℕ) → is_variation_selector_character u ≡ true → scalar u ≡ true
selector_scalar u e = elim (either_true (is_in_range u (0xFE00, 0xFE0F)) (is_in_range u (0xE0100, 0xE01EF) || false) e) [
  | inl one ↦ in_high_range u 0xFE00 0xFE0F (omega arith) (omega arith) one
  | inr rest ↦ elim (either_true (is_in_range u (0xE0100, 0xE01EF)) false rest) [
    | inl one ↦ in_high_range u 0xE0100 0xE01EF (omega arith) (omega arith) one
    | inr none ↦ cc
  ]
]

zero_first : (n : ℕ) (b : Bool) → n ≡ 0 → (n == 0 || b) ≡ true
zero_first n b e = ap (λ m. m == 0 || b) e

all_halves : (t : Tables) → HaveNoFault t → KeepTypes t → KeepHalves t
all_halves t sound is u = only_for u (HalvesKeepType t (type_of_character t u)) (split_of t u) tt (λ e. (is.each u e).halves) (λ e. no_split t u sound e)

all_ordered : (t : Tables) → HaveNoFault t → KeepTypes t → KeepOrdered t
all_ordered t sound is u =
    by_scalar u ((class_of t u == 0 || joins_nothing (type_of_character t u)) ≡ true) (λ e. (is.each u e).ordered) (λ e. zero_first (class_of t u) (joins_nothing (type_of_character t u)) (no_class t u sound e))

composed : (b : Bool) (o : Option ℕ) (u : ℕ) → (if b then o else None) ≡ Some u → o ≡ Some u
composed true o u e = e
composed false o u e = cc

pub tables_keep_types : TablesKeepTypes
tables_keep_types p sound lawful follows is =
    let t = p.tables in
    let halves = all_halves t sound is in
    let ordered = all_ordered t sound is in
    record {
      halves = λ u. asked_for u (HalvesKeepType t (type_of_character t u)) (p.rules.splits t u) tt (λ e. subst (HalvesKeepType t (type_of_character t u)) (sym (follows.splits u)) (halves u));
      composites = λ a b u e. composites_seen t a b u halves ordered lawful.pairs_are_equivalent (follows.composes a b u (composed (scalar a && scalar b) (p.rules.composes t a b) u e));
      mirrored = λ u. only_for u (CounterpartKeepsType t u) (counterpart_in t.mirrored u) tt (λ e. (is.each u e).mirrored) (λ e. no_mirrored t u sound e);
      vertical = λ u. only_for u (CounterpartKeepsType t u) (counterpart_in t.vertical u) tt (λ e. (is.each u e).vertical) (λ e. no_vertical t u sound e);
      selectors = λ u e. (is.each u (selector_scalar u e)).selectors e;
      ordered = ordered;
      circle = is.circle;
    }

-- ---- private forms

pub keep_private_marks : (t : Tables) → HaveNoFault t → KeepPrivateMarks t → KeepsPrivateMarks t
keep_private_marks t sound is u action = only_for u (PrivateKeepsMarks u) (thai_of t u action) tt (λ e. by_action (nat_lt action 4) refl e) (λ e. no_thai t u action sound e)
  where
    by_action : (b : Bool) → nat_lt action 4 ≡ b → scalar u ≡ true → PrivateKeepsMarks u (thai_of t u action)
    by_action true f e = is u e action (grind (arith, nat_tests, f))
    by_action false f e = subst (PrivateKeepsMarks u) (sym (no_action t u action sound (grind (arith, nat_tests, f)))) tt
