-- Rules that pass need not be tried.
use Rattle.std.proofs.Common.{ℕ, zero, suc, ◌≡◌, ◌≤◌, ◌<◌, ◌+◌, ◌-◌, ◌⊎◌, false, inl, inr, List, [], ◌∷◌, drop, length, get_or, Some, None, slice_get, refl, sym, ap, subst, ◌∙◌, arith}
use Rattle.std.proofs.lemmas.List.{append-nil, drop_all}
use Rattle.std.proofs.lemmas.Option.{get_or_from_slice_get, slice_get_cases, slice_get_within}
use Rattle.buffer_glyphs.specs.declared.info.hb_glyph_info_t.{hb_glyph_info_t}
use Rattle.buffer_glyphs.specs.Items.{Item, item_of, strip}
use Rattle.buffer_core.specs.Sides.{Sides}
use Rattle.layout_match.specs.Skipping.{PassesAt}
use Rattle.buffer_stages.specs.Actions.{Action, Acts, Cut, Outcome, Passes, Refuses, first_rule, or_else}
use Rattle.buffer_stages.specs.Performing.{IsPerformed, cut_with}
use Rattle.buffer_stages.proofs.Lemmas.Performed.{ArePassed, passed_all, passed_next, passes_nothing}
use Rattle.layout_gsub.specs.Passing.{ArePassing}
use Rattle.layout_match.proofs.Lemmas.Met.{starts}

-- a rule that is there
pub is_there : {R : Type 0} (all : List R) (k : ℕ) (x : R) → slice_get all k ≡ Some x → (k < length all) × (x ≡ get_or all k x)
is_there all k x at = (slice_get_within all k x at, sym (get_or_from_slice_get all k x x at))

-- none is there
pub none_there : {R : Type 0} (all : List R) (k : ℕ) → slice_get all k ≡ None → length all ≤ k
none_there all k none = elim (slice_get_cases all k).1 [
  | inl there ↦ let some = there.2 in cc
  | inr past ↦ past.0
]

-- one more
one_more : {R : Type 0} (act : R → Action) (all : List R) (r k from next : ℕ) (start now : Sides) → ArePassing act all from next (cut_with r now) → from ≤ k → k < next → ArePassed act all (drop k all) r start now
    → ((x : R) × (k < length all) × (slice_get all k ≡ Some x) × (get_or all k x ≡ x)) ⊎ ((length all ≤ k) × (slice_get all k ≡ None)) → ArePassed act all (drop (k + 1) all) r start now
one_more act all r k from next start now passing low high t (inl there) =
    let x = there.0 in
    (passed_next act all k x r r start now now there.1 (sym there.3) t (passes_nothing r now (act x (cut_with r now)) (passing k x low high there.2))).0
one_more {R} act all r k from next start now passing low high t (inr past) =
    let le = past.0 in
    let P : List R → Type 0 = λ xs. ArePassed act all xs r start now in
    subst P (drop_all k all le ∙ sym (drop_all (k + 1) all (omega (arith, le)))) t

-- so many more
jumped_by : {R : Type 0} (act : R → Action) (all : List R) (r k next n : ℕ) (start now : Sides) → ArePassing act all k next (cut_with r now) → k + n ≤ next → ArePassed act all (drop k all) r start now → ArePassed act all (drop (k + n) all) r start now
jumped_by act all r k next zero start now passing le t =
    let P : ℕ → Type 0 = λ m. ArePassed act all (drop m all) r start now in
    let same : k ≡ k + 0 = omega arith in
    subst P same t
jumped_by act all r k next (suc n) start now passing le t =
    let so_far = jumped_by act all r k next n start now passing (omega (arith, le)) t in
    let P : ℕ → Type 0 = λ m. ArePassed act all (drop m all) r start now in
    let same : k + n + 1 ≡ k + suc n = omega arith in
    subst P same (one_more act all r (k + n) k next start now passing (omega arith) (omega (arith, le)) so_far (slice_get_cases all (k + n)).1)

pub jumped : {R : Type 0} (act : R → Action) (all : List R) (r k next : ℕ) (start now : Sides) → ArePassing act all k next (cut_with r now) → k ≤ next → ArePassed act all (drop k all) r start now → ArePassed act all (drop next all) r start now
jumped act all r k next start now passing le t =
    let P : ℕ → Type 0 = λ m. ArePassed act all (drop m all) r start now in
    let same : k + (next - k) ≡ next = omega (arith, le) in
    subst P same (jumped_by act all r k next (next - k) start now passing (omega (arith, le)) t)

-- none is left
pub jumped_all : {R : Type 0} (act : R → Action) (all : List R) (r q k next : ℕ) (start now : Sides) → ArePassing act all k next (cut_with q now) → k ≤ next → ArePassed act all (drop k all) q start now → None ≡ slice_get all next → r ≡ q
    → IsPerformed (first_rule act all (cut_with q start)) false q r start now
jumped_all act all r q k next start now passing le t none same =
    let P : ℕ → Type 0 = λ n. IsPerformed (first_rule act all (cut_with q start)) false q n start now in
    subst P (sym same) (passed_all act all next q start now (none_there all next (sym none)) (jumped act all q k next start now passing le t))

-- ---- a list of one rule

before_none : (o : Outcome) → or_else o (Passes []) ≡ o
before_none (Passes events) = ap Passes (append-nil events)
before_none (Acts cut events) = refl
before_none (Refuses cause) = refl

-- the first of one rule is that rule
pub only_first : {R : Type 0} (act : R → Action) (x : R) (c : Cut) → first_rule act (x ∷ []) c ≡ act x c
only_first act x c = before_none (act x c)

-- the one of a list that has no other
pub only_one : {R : Type 0} (xs : List R) (x : R) → 1 ≤ length xs → length xs < 2 → x ≡ get_or xs 0 x → xs ≡ x ∷ []
only_one [] x some few at = absurd (omega (arith, some))
only_one (y ∷ []) x some few at = ap (λ z. z ∷ []) (sym at)
only_one (y ∷ z ∷ ys) x some few at = absurd (omega (arith, few))
