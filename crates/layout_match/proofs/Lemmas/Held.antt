-- A set that has the glyphs of a text.
use Rattle.std.proofs.Common.{ℕ, suc, zero, ◌≡◌, ◌≤◌, ◌<◌, ◌+◌, ◌==◌, ◌||◌, ◌&&◌, not, Bool, true, false, nat_le, bit_and, bit_or, max, min, List, [], ◌∷◌, length, take, get_or, refl, sym, ap, ◌∙◌, arith}
use mathlib.Core.Bool.{false≢true}
use Rattle.std.specs.Int.{bit_at}
use Rattle.std.specs.List.{list_any}
use Rattle.std.proofs.lemmas.Bool.{and_right, or_left, or_parts, or_right}
use Rattle.std.proofs.lemmas.Bool.Decides.{nat_tests}
use Rattle.std.proofs.lemmas.Grind.{common_steps}
use Rattle.std.proofs.lemmas.List.{take_all}
use Rattle.std.proofs.lemmas.Nat.Bits.{bit_at_and, bit_at_or, bit_at-zero, same_from_bits}
use Rattle.std.proofs.lemmas.List.Folds.{list_any_more}
use Rattle.buffer_glyphs.specs.declared.info.hb_glyph_info_t.{hb_glyph_info_t}
use Rattle.buffer_glyphs.specs.Items.{Item, item_of, strip}
use Rattle.buffer_stages.specs.Actions.{Action}
use Rattle.buffer_stages.specs.Buffers.{are_glyphs}
use Rattle.buffer_stages.specs.Masks.{shares_mask}
use Rattle.layout_match.specs.Skipping.{HoldsNumbers, HoldsMasks, PassesAll, PassesAt}
use Rattle.buffer_facts.proofs.Numbers.{test_of_itself as same_number}

pub number_there : (gs : List hb_glyph_info_t) (k : ℕ) (d : hb_glyph_info_t) → k < length gs → are_glyphs (strip gs) ≡ true → (get_or gs k d).glyph_id ≤ 65535
number_there [] k d lt e = absurd (omega (arith, lt))
number_there (h ∷ gs) zero d lt e =
    let here : nat_le h.glyph_id 65535 ≡ true = grind (arith, common_steps, e) in
    grind (arith, nat_tests, here)
number_there (h ∷ gs) (suc k) d lt e = number_there gs k d (omega (arith, lt)) (grind (arith, common_steps, e))

any_mapped : (p : Item → Bool) (gs : List hb_glyph_info_t) → list_any p (strip gs) ≡ list_any (λ g. p (item_of g)) gs
any_mapped p [] = refl
any_mapped p (g ∷ gs) = ap (λ b. p (item_of g) || b) (any_mapped p gs)

-- a set has the first so many glyphs
abbrev pub HoldsFirst : (ℕ → Bool) → ℕ → List hb_glyph_info_t → Type 0
HoldsFirst has k gs = (n : ℕ) → list_any (λ (g : hb_glyph_info_t). g.glyph_id == n) (take k gs) ≡ true → has n ≡ true

pub held_none : (has : ℕ → Bool) (gs : List hb_glyph_info_t) → HoldsFirst has 0 gs
held_none has [] n e = cc
held_none has (g ∷ gs) n e = cc

pub held_next : (has more : ℕ → Bool) (gs : List hb_glyph_info_t) (k : ℕ) (d : hb_glyph_info_t) → k < length gs → HoldsFirst has k gs → more (get_or gs k d).glyph_id ≡ true → ((n : ℕ) → has n ≡ true → more n ≡ true) → HoldsFirst more (k + 1) gs
held_next has more gs k d lt held added stays n e = by_first (list_any (λ (h : hb_glyph_info_t). h.glyph_id == n) (take k gs)) refl (sym (list_any_more (λ (h : hb_glyph_info_t). h.glyph_id == n) gs k d lt) ∙ e)
  where
    by_first : (b : Bool) → list_any (λ (h : hb_glyph_info_t). h.glyph_id == n) (take k gs) ≡ b → (b || (get_or gs k d).glyph_id == n) ≡ true → more n ≡ true
    by_first true is both = stays n (held n is)
    by_first false is both =
        let own : (get_or gs k d).glyph_id == n ≡ true = both in
        let same : (get_or gs k d).glyph_id ≡ n = grind (arith, nat_tests, own) in
        ap more (sym same) ∙ added

pub held_all : (has : ℕ → Bool) (gs : List hb_glyph_info_t) (k : ℕ) → length gs ≤ k → HoldsFirst has k gs → HoldsNumbers has (strip gs)
held_all has gs k le held n e =
    let here = sym (any_mapped (λ (x : Item). x.number == n) gs) ∙ e in
    held n (ap (list_any (λ (g : hb_glyph_info_t). g.glyph_id == n)) (take_all k gs le) ∙ here)

-- where what is covered is none of a text's glyphs, no item passes a test and is covered
pub glyphs_missed : (has covers : ℕ → Bool) (test : Item → Bool) (xs : List Item) → HoldsNumbers has xs → ((n : ℕ) → has n ≡ true → covers n ≡ false) → list_any (λ (x : Item). test x && covers x.number) xs ≡ false
glyphs_missed has covers test [] held apart = refl
glyphs_missed has covers test (x ∷ xs) held apart =
    let there : has x.number ≡ true = held x.number (or_left (x.number == x.number) (list_any (λ (y : Item). y.number == x.number) xs) (same_number x.number)) in
    let none : (test x && covers x.number) ≡ false = and_right (test x) (covers x.number) (apart x.number there) in
    rw none (glyphs_missed has covers test xs (λ n e. held n (or_right (x.number == n) (list_any (λ (y : Item). y.number == n) xs) e)) apart)

none_both : (test both : Item → Bool) (xs : List Item) → list_any test xs ≡ false → list_any (λ x. test x && both x) xs ≡ false
none_both test both [] none = refl
none_both test both (x ∷ xs) none =
    let parts = or_parts (test x) (list_any test xs) none in
    let here : (test x && both x) ≡ false = rw parts.0 refl in
    rw here (none_both test both xs parts.1)

-- where no item has a bit of a mask, none has one and is covered
pub masks_missed : (shares : ℕ → Bool) (mask : ℕ) (covers : ℕ → Bool) (xs : List Item) → HoldsMasks shares xs → shares mask ≡ false → list_any (λ (x : Item). shares_mask mask x.mask && covers x.number) xs ≡ false
masks_missed shares mask covers xs held off = none_both (λ x. shares_mask mask x.mask) (λ x. covers x.number) xs (by_any (list_any (λ (x : Item). shares_mask mask x.mask) xs) refl)
  where
    by_any : (b : Bool) → list_any (λ (x : Item). shares_mask mask x.mask) xs ≡ b → list_any (λ (x : Item). shares_mask mask x.mask) xs ≡ false
    by_any false e = e
    by_any true e = let no = held mask e in cc

-- ---- feature bits

both_zero : (u f m : ℕ) → bit_and (bit_or u f) m ≡ 0 → (bit_and u m ≡ 0) × (bit_and f m ≡ 0)
both_zero u f m e = (same_from_bits (bit_and u m) 0 (λ i. (at i).0), same_from_bits (bit_and f m) 0 (λ i. (at i).1))
  where
    at : (i : ℕ) → (bit_at (bit_and u m) i ≡ bit_at 0 i) × (bit_at (bit_and f m) i ≡ bit_at 0 i)
    at i =
        let zero_there = bit_at-zero i in
        let all : min (max (bit_at u i) (bit_at f i)) (bit_at m i) ≡ 0 = ap (λ n. min n (bit_at m i)) (sym (bit_at_or u f i)) ∙ sym (bit_at_and (bit_or u f) m i) ∙ ap (λ n. bit_at n i) e ∙ zero_there in
        let first = bit_at_and u m i in
        let second = bit_at_and f m i in
        (omega (arith, all, first, zero_there), omega (arith, all, second, zero_there))

pub zero_is : (n : ℕ) → (n == 0) ≡ true → n ≡ 0
zero_is n e = grind (arith, nat_tests, e)

-- a mask shares a bit with more bits where it does with some of them
shares_more : (mask u f : ℕ) → (shares_mask mask u || shares_mask mask f) ≡ true → shares_mask mask (bit_or u f) ≡ true
shares_more mask u f e = by_test (bit_and (bit_or u f) mask == 0) refl
  where
    by_test : (b : Bool) → (bit_and (bit_or u f) mask == 0) ≡ b → not (bit_and (bit_or u f) mask == 0) ≡ true
    by_test false is = ap not is
    by_test true is =
        let none = both_zero u f mask (zero_is (bit_and (bit_or u f) mask) is) in
        let off : (shares_mask mask u || shares_mask mask f) ≡ false = ap (λ n. not (n == 0) || shares_mask mask f) none.0 ∙ ap (λ n. not (n == 0)) none.1 in
        absurd (false≢true (sym off ∙ e))

-- the masks have those of the first so many glyphs
abbrev pub MasksFirst : ℕ → ℕ → List hb_glyph_info_t → Type 0
MasksFirst features k gs = (mask : ℕ) → list_any (λ (g : hb_glyph_info_t). shares_mask mask (item_of g).mask) (take k gs) ≡ true → shares_mask mask features ≡ true

pub masks_none : (features : ℕ) (gs : List hb_glyph_info_t) → MasksFirst features 0 gs
masks_none features [] n e = cc
masks_none features (g ∷ gs) n e = cc

pub masks_next : (features own : ℕ) (gs : List hb_glyph_info_t) (k : ℕ) (d : hb_glyph_info_t) → k < length gs → MasksFirst features k gs → own ≡ (item_of (get_or gs k d)).mask → MasksFirst (bit_or features own) (k + 1) gs
masks_next features own gs k d lt held is mask e =
    shares_more mask features own (by_first (list_any (λ (h : hb_glyph_info_t). shares_mask mask (item_of h).mask) (take k gs)) refl (sym (list_any_more (λ (h : hb_glyph_info_t). shares_mask mask (item_of h).mask) gs k d lt) ∙ e))
  where
    by_first : (b : Bool) → list_any (λ (h : hb_glyph_info_t). shares_mask mask (item_of h).mask) (take k gs) ≡ b → (b || shares_mask mask (item_of (get_or gs k d)).mask) ≡ true → (shares_mask mask features || shares_mask mask own) ≡ true
    by_first true has both = or_left (shares_mask mask features) (shares_mask mask own) (held mask has)
    by_first false has both = or_right (shares_mask mask features) (shares_mask mask own) (ap (shares_mask mask) is ∙ both)

pub masks_all : (features : ℕ) (gs : List hb_glyph_info_t) (k : ℕ) → length gs ≤ k → MasksFirst features k gs → HoldsMasks (λ mask. shares_mask mask features) (strip gs)
masks_all features gs k le held mask e =
    let here = sym (any_mapped (λ (x : Item). shares_mask mask x.mask) gs) ∙ e in
    held mask (ap (list_any (λ (g : hb_glyph_info_t). shares_mask mask (item_of g).mask)) (take_all k gs le) ∙ here)

-- ---- rules pass

-- where no item is covered the rule passes at each
pub passes_uncovered : (act : Action) (covers : Item → Bool) (xs : List Item) → list_any covers xs ≡ false → ((x : Item) → covers x ≡ false → PassesAt act x) → PassesAll act xs
passes_uncovered act covers [] none passes = tt
passes_uncovered act covers (x ∷ xs) none passes =
    let parts = or_parts (covers x) (list_any covers xs) none in (
      passes x parts.0,
      passes_uncovered act covers xs parts.1 passes,
    )
