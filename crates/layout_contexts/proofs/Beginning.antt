-- Rules that begin with an item stand together.
use Rattle.std.proofs.Common.{ℕ, ◌≡◌, ◌≢◌, ◌==◌, false, List, [], ◌∷◌, length, map, Option, Some, None, option_map, slice_get, refl, sym, subst, ◌∙◌, arith}
use Rattle.std.proofs.lemmas.Option.{slice_get-map, slice_get_within}
use Rattle.std.proofs.lemmas.List.{length-map}
use Rattle.std.proofs.lemmas.Bool.{and_right, eqb-false, ne_eqb}
use Rattle.buffer_glyphs.specs.Items.{Item}
use Rattle.layout_common.specs.Classes.{class_of}
use Rattle.layout_tables.specs.Rules.{StandWithin, begins_by}
use Rattle.layout_tables.specs.declared.context.ClassRules.{ClassRules}
use Rattle.layout_tables.specs.declared.context.SequenceRule.{SequenceRule}
use Rattle.layout_match.specs.Sequences.{is_glyph, is_number, is_of_class}
use Rattle.layout_contexts.specs.Chains.{Chain, begins, class_chain, glyph_chain}
use Rattle.layout_contexts.specs.Rules.{BeginWithin}

pub all_begin : (x : Item) (rules : List Chain) → BeginWithin x rules 0 (length rules)
all_begin x rules = record {
  ordered = omega arith;
  within = omega arith;
  before = λ k r at lt. absurd (omega (arith, lt));
  after = λ k r at le. let lt = slice_get_within rules k r at in absurd (omega (arith, le, lt));
}

made_of : (f : SequenceRule ℕ → Chain) (o : Option (SequenceRule ℕ)) (c : Chain) → option_map f o ≡ Some c → (q : SequenceRule ℕ) × (o ≡ Some q) × (f q ≡ c)
made_of f None c e = cc
made_of f (Some q) c e = (q, refl, cc)

at_rule : (x : Item) (f : SequenceRule ℕ → Chain) (rules : List (SequenceRule ℕ)) (k : ℕ) (c : Chain) → ((q : SequenceRule ℕ) → slice_get rules k ≡ Some q → begins (f q).input x ≡ false) → slice_get (map f rules) k ≡ Some c → begins c.input x ≡ false
at_rule x f rules k c other at =
    let made = made_of f (slice_get rules k) c (sym (slice_get-map f rules k) ∙ at) in
    let P : Chain → Type 0 = λ d. begins d.input x ≡ false in
    subst P made.2 (other made.0 made.1)

begin_within : (x : Item) (item : ℕ) (f : SequenceRule ℕ → Chain) (rules : List (SequenceRule ℕ)) (start end : ℕ) → ((q : SequenceRule ℕ) → begins_by item q.input ≡ false → begins (f q).input x ≡ false) → StandWithin item rules start end → BeginWithin x (map f rules) start end
begin_within x item f rules start end other s = record {
  ordered = s.ordered;
  within = let le = s.within in let same : length (map f rules) ≡ length rules = length-map rules f in omega (arith, le, same);
  before = λ k c at lt. at_rule x f rules k c (λ q there. other q (s.before k q there lt)) at;
  after = λ k c at le. at_rule x f rules k c (λ q there. other q (s.after k q there le)) at;
}

other_glyph : (x : Item) (glyph : ℕ) (input : List ℕ) → x.number ≡ glyph → begins_by glyph input ≡ false → begins (map is_glyph input) x ≡ false
other_glyph x glyph [] same none = refl
other_glyph x glyph (i ∷ input) same none =
    let differ : i ≢ glyph = eqb-false i glyph none in
    ne_eqb x.number i (λ (e : x.number ≡ i). differ (sym e ∙ same))

other_class : (x : Item) (s : ClassRules) (class : ℕ) (input : List ℕ) → class_of x.number s.input ≡ class → begins_by class input ≡ false → begins (map (is_of_class s.input) input) x ≡ false
other_class x s class [] same none = refl
other_class x s class (i ∷ input) same none =
    let differ : i ≢ class = eqb-false i class none in
    let other : (class_of x.number s.input == i) ≡ false = ne_eqb (class_of x.number s.input) i (λ (e : class_of x.number s.input ≡ i). differ (sym e ∙ same)) in
    and_right (is_number x.number) (class_of x.number s.input == i) other

pub glyphs_begin : (x : Item) (glyph : ℕ) (rules : List (SequenceRule ℕ)) (start end : ℕ) → x.number ≡ glyph → StandWithin glyph rules start end → BeginWithin x (map glyph_chain rules) start end
glyphs_begin x glyph rules start end same s = begin_within x glyph glyph_chain rules start end (λ q none. other_glyph x glyph q.input same none) s

pub classes_begin : (x : Item) (c : ClassRules) (class start end : ℕ) → class_of x.number c.input ≡ class → StandWithin class c.rules start end → BeginWithin x (map (class_chain c) c.rules) start end
classes_begin x c class start end same s = begin_within x class (class_chain c) c.rules start end (λ q none. other_class x c class q.input same none) s
