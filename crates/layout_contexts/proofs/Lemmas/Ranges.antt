-- Rules that don't begin with the glyph at the cursor need not be tried.
use Rattle.std.proofs.Common.{ℕ, zero, suc, ◌≡◌, ◌≤◌, ◌<◌, ◌+◌, ◌-◌, ◌⊎◌, false, inl, inr, List, drop, length, get_or, Option, Some, None, slice_get, refl, sym, ap, subst, ◌∙◌, arith}
use Rattle.std.proofs.lemmas.Option.{slice_get_cases}
use Rattle.buffer_glyphs.specs.declared.info.hb_glyph_info_t.{hb_glyph_info_t}
use Rattle.buffer_glyphs.specs.Items.{Item, item_of}
use Rattle.buffer_glyphs.specs.Parts.{first_of}
use Rattle.buffer_core.specs.Sides.{Sides}
use Rattle.layout_match.specs.Applied.{ApplyContext}
use Rattle.buffer_stages.specs.Actions.{Action, Cut, first_rule}
use Rattle.buffer_stages.specs.Buffers.{cut_of}
use Rattle.buffer_stages.specs.Performing.{IsPerformed, cut_with}
use Rattle.buffer_stages.proofs.Lemmas.Glyphs.{first_item}
use Rattle.buffer_stages.proofs.Lemmas.Performed.{ArePassed, passed_all, passed_first, passed_next, passes_nothing}
use Rattle.layout_contexts.specs.Chains.{Chain, begins, chain_rule}
use Rattle.layout_contexts.specs.Rules.{BeginWithin}
use Rattle.layout_contexts.proofs.Fitted.{unbegun}

-- one more rule that begins with another item
one_more : (nest : Option (ℕ → Action)) (a : ApplyContext) (x : Item) (all : List Chain) (r k : ℕ) (start now : Sides) → first_of (cut_with r now).rest ≡ Some x → ((c : Chain) → slice_get all k ≡ Some c → begins c.input x ≡ false) → k < length all
    → ArePassed (chain_rule nest a) all (drop k all) r start now → ((c : Chain) × (k < length all) × (slice_get all k ≡ Some c) × (get_or all k c ≡ c)) ⊎ ((length all ≤ k) × (slice_get all k ≡ None)) → ArePassed (chain_rule nest a) all (drop (k + 1) all) r start now
one_more nest a x all r k start now first other lt t (inl there) =
    let c = there.0 in
    let passes = passes_nothing r now (chain_rule nest a c (cut_with r now)) (unbegun nest a c x (cut_with r now) first (other c there.2)) in
    (passed_next (chain_rule nest a) all k c r r start now now lt (sym there.3) t passes).0
one_more nest a x all r k start now first other lt t (inr past) = let le = past.0 in absurd (omega (arith, le, lt))

-- so many more
passed_on : (nest : Option (ℕ → Action)) (a : ApplyContext) (x : Item) (all : List Chain) (r k n : ℕ) (start now : Sides) → first_of (cut_with r now).rest ≡ Some x → ((i : ℕ) (c : Chain) → slice_get all i ≡ Some c → k ≤ i → i < k + n → begins c.input x ≡ false) → k + n ≤ length all
    → ArePassed (chain_rule nest a) all (drop k all) r start now → ArePassed (chain_rule nest a) all (drop (k + n) all) r start now
passed_on nest a x all r k zero start now first other le t =
    let P : ℕ → Type 0 = λ m. ArePassed (chain_rule nest a) all (drop m all) r start now in
    let same : k ≡ k + 0 = omega arith in
    subst P same t
passed_on nest a x all r k (suc n) start now first other le t =
    let so_far = passed_on nest a x all r k n start now first (λ i c at from lt. other i c at from (omega (arith, lt))) (omega (arith, le)) t in
    let P : ℕ → Type 0 = λ m. ArePassed (chain_rule nest a) all (drop m all) r start now in
    let same : k + n + 1 ≡ k + suc n = omega arith in
    subst P same (one_more nest a x all r (k + n) start now first (λ c at. other (k + n) c at (omega arith) (omega arith)) (omega (arith, le)) so_far (slice_get_cases all (k + n)).1)

same_first : (r : ℕ) (s now : Sides) (g : hb_glyph_info_t) → slice_get s.ahead 0 ≡ Some g → cut_of now ≡ cut_of s → first_of (cut_with r now).rest ≡ Some (item_of g)
same_first r s now g at same = ap (λ (c : Cut). first_of c.rest) same ∙ first_item s.ahead g at

-- the rules before those that may begin with the glyph at the cursor
pub passed_before : (nest : Option (ℕ → Action)) (a : ApplyContext) (all : List Chain) (r start end : ℕ) (s : Sides) (g : hb_glyph_info_t) → slice_get s.ahead 0 ≡ Some g → BeginWithin (item_of g) all start end → ArePassed (chain_rule nest a) all (drop start all) r s s
passed_before nest a all r start end s g at b =
    let ordered = b.ordered in let within = b.within in
    let P : ℕ → Type 0 = λ m. ArePassed (chain_rule nest a) all (drop m all) r s s in
    let same : 0 + start ≡ start = omega arith in
    subst P same (passed_on nest a (item_of g) all r 0 start s s (same_first r s s g at refl) (λ i c there from lt. b.before i c there (omega (arith, lt))) (omega (arith, ordered, within)) (passed_first (chain_rule nest a) all r s))

-- and those after them
pub passed_after : (nest : Option (ℕ → Action)) (a : ApplyContext) (all : List Chain) (r start end k : ℕ) (s now : Sides) (g : hb_glyph_info_t) → slice_get s.ahead 0 ≡ Some g → BeginWithin (item_of g) all start end → end ≤ k → k ≤ length all → ArePassed (chain_rule nest a) all (drop k all) r s now
    → IsPerformed (first_rule (chain_rule nest a) all (cut_with r s)) false r r s now
passed_after nest a all r start end k s now g at b from le t =
    let n = length all - k in
    let all_passed = passed_on nest a (item_of g) all r k n s now (same_first r s now g at t.cut_is) (λ i c there here lt. b.after i c there (omega (arith, from, here))) (omega (arith, le)) t in
    passed_all (chain_rule nest a) all (k + n) r s now (omega (arith, le)) all_passed
