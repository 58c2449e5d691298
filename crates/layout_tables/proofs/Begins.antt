-- Rules that begin with an item stand together.
use Rattle.std.proofs.Common.{ℕ, ◌≡◌, ◌≤◌, ◌<◌, ◌+◌, ◌-◌, ◌==◌, Bool, true, false, List, [], ◌∷◌, length, get_or, refl, sym, ap, subst, ◌∙◌, arith, ltb}
use Rattle.std.specs.List.{AllWithin}
use Rattle.std.proofs.lemmas.Bool.{ltb-true, ltb-false}
use Rattle.std.proofs.lemmas.Option.{get_or_from_slice_get, slice_get_within, slice_get-get_or}
use Rattle.layout_tables.specs.declared.context.SequenceRule.{SequenceRule}
use Rattle.layout_tables.specs.Rules.{StandWithin, begins_by, first_number}

-- an input of another first number begins with another item
other_below : (item : ℕ) (input : List ℕ) → first_number input < item + 1 → begins_by item input ≡ false
other_below item [] lt = refl
other_below item (i ∷ input) lt = grind (arith, lt)

other_above : (item : ℕ) (input : List ℕ) → item + 1 + 1 ≤ first_number input → begins_by item input ≡ false
other_above item [] le = refl
other_above item (i ∷ input) le = grind (arith, le)

pub all_stand : (item : ℕ) (rules : List (SequenceRule ℕ)) → StandWithin item rules 0 (length rules)
all_stand item rules = record {
  ordered = grind (arith);
  within = grind (arith);
  before = λ k r at lt. absurd (omega (arith, lt));
  after = λ k r at le. let lt = slice_get_within rules k r at in absurd (omega (arith, le, lt));
}

no_rule : SequenceRule ℕ
no_rule = record { backtrack = []; input = []; lookahead = []; records = [] }

in_order : (start end : ℕ) → (end < start → ⊥) → (b : Bool) → ltb end start ≡ b → start ≤ end
in_order start end never true e = absurd (never (ltb-true end start e))
in_order start end never false e = ltb-false end start e

pub stand_between : (item : ℕ) (rules : List (SequenceRule ℕ)) (start end : ℕ)
    → start ≤ length rules → AllWithin (λ (r : SequenceRule ℕ). first_number r.input < item + 1) rules 0 start
    → end ≤ length rules → AllWithin (λ (r : SequenceRule ℕ). first_number r.input < item + 1 + 1) rules 0 end → AllWithin (λ (r : SequenceRule ℕ). item + 1 + 1 ≤ first_number r.input) rules end (length rules)
    → StandWithin item rules start end
stand_between item rules start end le1 below1 le2 below2 rest2 = record {
  ordered = in_order start end (λ lt.
      let small = below1 end no_rule (omega arith) lt in
      let great = rest2 end no_rule (omega arith) (omega (arith, lt, le1)) in
      omega (arith, small, great)) (ltb end start) refl;
  within = le2;
  before = λ k r at lt.
      let P : SequenceRule ℕ → Type 0 = λ q. first_number q.input < item + 1 in
      other_below item r.input (subst P (get_or_from_slice_get rules k r r at) (below1 k r (omega arith) lt));
  after = λ k r at le.
      let P : SequenceRule ℕ → Type 0 = λ q. item + 1 + 1 ≤ first_number q.input in
      other_above item r.input (subst P (get_or_from_slice_get rules k r r at) (rest2 k r le (slice_get_within rules k r at)));
}

-- whatever stands for an element past the last, that at an index within is the same
any_default : {X : Type 0} (xs : List X) (i : ℕ) (x d : X) → i < length xs → x ≡ get_or xs i x → get_or xs i d ≡ x
any_default xs i x d lt at = get_or_from_slice_get xs i (get_or xs i x) d (slice_get-get_or xs i x lt) ∙ sym at

last_fall : (f : ℕ → ℕ) (i a b : ℕ) → ((a b : ℕ) → a ≤ b → b < i → f a ≤ f b) → 0 < i → f (i - 1) ≤ f i → a ≤ b → i ≤ b → b < i + 1 → (before : Bool) → ltb a i ≡ before → f a ≤ f b
last_fall f i a b rest pos last le from lt true e =
    let P : ℕ → Type 0 = λ n. f a ≤ f n in
    let here = rest a (i - 1) (omega (arith, ltb-true a i e, pos)) (omega (arith, pos)) in
    let same : i ≡ b = omega (arith, from, lt) in
    let less : f a ≤ f i = omega (arith, here, last) in
    subst P same less
last_fall f i a b rest pos last le from lt false e =
    let P : ℕ → Type 0 = λ n. f a ≤ f n in
    let same : a ≡ b = omega (arith, from, lt, le, ltb-false a i e) in
    let none : f a ≤ f a = omega arith in
    subst P same none

-- numbers don't fall up to one more
pub next_falls_not : (f : ℕ → ℕ) (i a b : ℕ) → ((a b : ℕ) → a ≤ b → b < i → f a ≤ f b) → 0 < i → f (i - 1) ≤ f i → a ≤ b → b < i + 1 → (before : Bool) → ltb b i ≡ before → f a ≤ f b
next_falls_not f i a b rest pos last le lt true e = rest a b le (ltb-true b i e)
next_falls_not f i a b rest pos last le lt false e = last_fall f i a b rest pos last le (ltb-false b i e) lt (ltb a i) refl

pub not_below : (rules : List (SequenceRule ℕ)) (i : ℕ) (x y d : SequenceRule ℕ) (m n : ℕ) → 0 < i → i < length rules → x ≡ get_or rules i x → y ≡ get_or rules (i - 1) y → m ≡ first_number x.input → n ≡ first_number y.input → n ≤ m
    → first_number (get_or rules (i - 1) d).input ≤ first_number (get_or rules i d).input
not_below rules i x y d m n pos lt at before e f le =
    let here = any_default rules i x d lt at in
    let there = any_default rules (i - 1) y d (omega (arith, lt)) before in
    let N : SequenceRule ℕ → ℕ = λ r. first_number r.input in
    omega (arith, ap N here, ap N there, e, f, le)
