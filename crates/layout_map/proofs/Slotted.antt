-- Features are found only where the slot of their tag is taken.
use Rattle.std.proofs.Common.{ℕ, suc, zero, ◌≡◌, ◌≢◌, ◌<◌, ◌≤◌, ◌+◌, ◌%◌, ◌==◌, ◌&&◌, Bool, true, false, not, List, [], ◌∷◌, length, take, set, get_or, find, None, refl, sym, ap, subst, ◌∙◌, arith}
use Rattle.std.specs.List.{list_all}
use Rattle.std.proofs.lemmas.Bool.Decides.{nat_tests}
use Rattle.std.proofs.lemmas.List.{get_or_default, get_or-set_same, get_or-set_other}
use Rattle.layout_map.specs.declared.chosen_feature.feature_map_t.{feature_map_t}
use Rattle.layout_map.specs.TagSlots.{HaveSlots, has_slot}
use Rattle.buffer_facts.proofs.Truth.{first_true as first_held, second_true as rest_held, and_true}

-- ---- a search

other : (slots : List ℕ) (n m : ℕ) → has_slot slots n ≡ true → has_slot slots m ≡ false → (n == m) ≡ false
other slots n m taken free = by_test (n == m) refl
  where
    by_test : (t : Bool) → (n == m) ≡ t → t ≡ false
    by_test false e = refl
    by_test true e =
        let same : n ≡ m = grind (arith, nat_tests, e) in
        let both : has_slot slots m ≡ true = ap (has_slot slots) (sym same) ∙ taken in
        cc

-- no feature has a tag whose slot is free
pub none_found : (slots : List ℕ) (n : ℕ) (fs : List feature_map_t) → HaveSlots slots fs → has_slot slots n ≡ false → None ≡ find (λ (f : feature_map_t). f.tag.0 == n) fs
none_found slots n [] have free = refl
none_found slots n (f ∷ fs) have free =
    let first = first_held (has_slot slots f.tag.0) (list_all (λ (g : feature_map_t). has_slot slots g.tag.0) fs) have in
    let rest = rest_held (has_slot slots f.tag.0) (list_all (λ (g : feature_map_t). has_slot slots g.tag.0) fs) have in
    rw (other slots f.tag.0 n first free) (none_found slots n fs rest free)

pub free_slot : (slots : List ℕ) (n at x : ℕ) → at ≡ n % 61 → at < length slots → x ≡ get_or slots at x → x ≡ 0 → has_slot slots n ≡ false
free_slot slots n at x is lt read none =
    let there : get_or slots (n % 61) 0 ≡ 0 = ap (λ k. get_or slots k 0) (sym is) ∙ sym (get_or_default slots at x 0 lt) ∙ sym read ∙ none in
    ap (λ k. not (k == 0)) there

-- ---- filling

taken_by : (v : ℕ) → v ≢ 0 → not (v == 0) ≡ true
taken_by v some = grind (arith, nat_tests, some)

pub none_slotted : (slots : List ℕ) (fs : List feature_map_t) → HaveSlots slots (take 0 fs)
none_slotted slots [] = refl
none_slotted slots (f ∷ fs) = refl

slot_stays : (slots : List ℕ) (i v n : ℕ) → i < length slots → v ≢ 0 → has_slot slots n ≡ true → has_slot (set slots i v) n ≡ true
slot_stays slots i v n lt some e = by_test (n % 61 == i) refl
  where
    by_test : (t : Bool) → (n % 61 == i) ≡ t → has_slot (set slots i v) n ≡ true
    by_test true is =
        let same : n % 61 ≡ i = grind (arith, nat_tests, is) in
        let there : get_or (set slots i v) (n % 61) 0 ≡ v = ap (λ k. get_or (set slots i v) k 0) same ∙ get_or-set_same slots i v 0 lt in
        ap (λ k. not (k == 0)) there ∙ taken_by v some
    by_test false is =
        let apart : n % 61 ≢ i = grind (arith, nat_tests, is) in
        ap (λ k. not (k == 0)) (get_or-set_other slots i (n % 61) v 0 apart) ∙ e

slots_stay : (slots : List ℕ) (i v : ℕ) (fs : List feature_map_t) → i < length slots → v ≢ 0 → HaveSlots slots fs → HaveSlots (set slots i v) fs
slots_stay slots i v [] lt some have = refl
slots_stay slots i v (f ∷ fs) lt some have =
    let first = first_held (has_slot slots f.tag.0) (list_all (λ (g : feature_map_t). has_slot slots g.tag.0) fs) have in
    let rest = rest_held (has_slot slots f.tag.0) (list_all (λ (g : feature_map_t). has_slot slots g.tag.0) fs) have in
    and_true (has_slot (set slots i v) f.tag.0) (list_all (λ (g : feature_map_t). has_slot (set slots i v) g.tag.0) fs) (slot_stays slots i v f.tag.0 lt some first) (slots_stay slots i v fs lt some rest)

one_more : (slots : List ℕ) (k : ℕ) (d : feature_map_t) (fs : List feature_map_t) → k < length fs → has_slot slots (get_or fs k d).tag.0 ≡ true → HaveSlots slots (take k fs) → HaveSlots slots (take (suc k) fs)
one_more slots k d [] lt own have = absurd (omega (arith, lt))
one_more slots zero d (g ∷ fs) lt own have =
    and_true (has_slot slots g.tag.0) (list_all (λ (h : feature_map_t). has_slot slots h.tag.0) (take 0 fs)) own (none_slotted slots fs)
one_more slots (suc k) d (g ∷ fs) lt own have =
    let first = first_held (has_slot slots g.tag.0) (list_all (λ (h : feature_map_t). has_slot slots h.tag.0) (take k fs)) have in
    let rest = rest_held (has_slot slots g.tag.0) (list_all (λ (h : feature_map_t). has_slot slots h.tag.0) (take k fs)) have in
    and_true (has_slot slots g.tag.0) (list_all (λ (h : feature_map_t). has_slot slots h.tag.0) (take (suc k) fs)) first (one_more slots k d fs (omega (arith, lt)) own rest)

-- the slot of one more feature is taken
pub one_slotted : (slots : List ℕ) (k i v : ℕ) (d : feature_map_t) (fs : List feature_map_t) → k < length fs → i ≡ (get_or fs k d).tag.0 % 61 → i < length slots → v ≢ 0 → HaveSlots slots (take k fs) → HaveSlots (set slots i v) (take (k + 1) fs)
one_slotted slots k i v d fs lt is within some have =
    let n = (get_or fs k d).tag.0 in
    let there : get_or (set slots i v) (n % 61) 0 ≡ v = ap (λ m. get_or (set slots i v) m 0) (sym is) ∙ get_or-set_same slots i v 0 within in
    let own : has_slot (set slots i v) n ≡ true = ap (λ m. not (m == 0)) there ∙ taken_by v some in
    let more : suc k ≡ k + 1 = omega arith in
    let P : ℕ → Type 0 = λ m. HaveSlots (set slots i v) (take m fs) in
    subst P more (one_more (set slots i v) k d fs lt own (slots_stay slots i v (take k fs) within some have))

-- all are taken
pub all_slotted : (slots : List ℕ) (k : ℕ) (fs : List feature_map_t) → length fs ≤ k → HaveSlots slots (take k fs) → HaveSlots slots fs
all_slotted slots zero [] past have = refl
all_slotted slots (suc k) [] past have = refl
all_slotted slots zero (f ∷ fs) past have = absurd (omega (arith, past))
all_slotted slots (suc k) (f ∷ fs) past have =
    let first = first_held (has_slot slots f.tag.0) (list_all (λ (h : feature_map_t). has_slot slots h.tag.0) (take k fs)) have in
    let rest = rest_held (has_slot slots f.tag.0) (list_all (λ (h : feature_map_t). has_slot slots h.tag.0) (take k fs)) have in
    and_true (has_slot slots f.tag.0) (list_all (λ (h : feature_map_t). has_slot slots h.tag.0) fs) first (all_slotted slots k fs (omega (arith, past)) rest)
