-- Pairs are found only where the slot of their second half is marked.
use Rattle.std.proofs.Common.{ℕ, suc, zero, ◌≡◌, ◌≢◌, ◌<◌, ◌≤◌, ◌+◌, ◌%◌, ◌==◌, ◌&&◌, Bool, true, false, List, [], ◌∷◌, length, take, set, get_or, find, None, refl, sym, ap, subst, ◌∙◌, arith}
use Rattle.std.specs.Prelude.{option_map}
use Rattle.std.specs.List.{list_all}
use Rattle.std.specs.Option.{option_or}
use Rattle.std.proofs.lemmas.Bool.Decides.{nat_tests}
use Rattle.std.proofs.lemmas.Grind.{common_steps}
use Rattle.std.proofs.lemmas.List.{get_or_default, get_or_past, get_or-set_same, get_or-set_other}
use Rattle.buffer_unicode.specs.declared.rows.Pair.{Pair}
use Rattle.buffer_unicode_tables.specs.Hangul.{hangul_pair}
use Rattle.buffer_unicode_tables.specs.SecondHalves.{HaveSeconds, has_slot}
use Rattle.buffer_unicode_tables.specs.Tables.{Tables, pair_of}
use Rattle.buffer_facts.proofs.Truth.{first_true as first_held, second_true as rest_held, lacks_second as both_false, and_true}

-- ---- a slot

pub slot_read : (slots : List Bool) (b at : ℕ) (x : Bool) → at ≡ b % 1024 → at < length slots → x ≡ get_or slots at x → x ≡ has_slot slots b
slot_read slots b at x is lt read = read ∙ get_or_default slots at x false lt ∙ ap (λ k. get_or slots k false) is

pub slot_past : (slots : List Bool) (b at : ℕ) → at ≡ b % 1024 → length slots ≤ at → false ≡ has_slot slots b
slot_past slots b at is past = sym (get_or_past slots at false past) ∙ ap (λ k. get_or slots k false) is

-- ---- a search

other : (slots : List Bool) (s b : ℕ) → has_slot slots s ≡ true → has_slot slots b ≡ false → (s == b) ≡ false
other slots s b marked none = by_test (s == b) refl
  where
    by_test : (t : Bool) → (s == b) ≡ t → t ≡ false
    by_test false e = refl
    by_test true e =
        let same : s ≡ b = grind (arith, nat_tests, e) in
        let both : has_slot slots b ≡ true = ap (has_slot slots) (sym same) ∙ marked in
        cc

pub none_found : (slots : List Bool) (a b : ℕ) (ps : List Pair) → HaveSeconds slots ps → has_slot slots b ≡ false → find (λ (p : Pair). p.first == a && p.second == b) ps ≡ None
none_found slots a b [] have none = refl
none_found slots a b (p ∷ ps) have none =
    let first = first_held (has_slot slots p.second) (list_all (λ (q : Pair). has_slot slots q.second) ps) have in
    let rest = rest_held (has_slot slots p.second) (list_all (λ (q : Pair). has_slot slots q.second) ps) have in
    rw (both_false (p.first == a) (p.second == b) (other slots p.second b first none)) (none_found slots a b ps rest none)

pub no_pair : (t : Tables) (slots : List Bool) (a b : ℕ) → HaveSeconds slots t.pairs → has_slot slots b ≡ false → None ≡ hangul_pair a b → None ≡ pair_of t a b
no_pair t slots a b have none hangul =
    let found : find (λ (p : Pair). p.first == a && p.second == b) t.pairs ≡ None = none_found slots a b t.pairs have none in
    let first : pair_of t a b ≡ option_or None (option_map (λ (p : Pair). p.whole) (find (λ (p : Pair). p.first == a && p.second == b) t.pairs)) = ap (λ o. option_or o (option_map (λ (p : Pair). p.whole) (find (λ (p : Pair). p.first == a && p.second == b) t.pairs))) (sym hangul) in
    sym (first ∙ ap (λ o. option_or None (option_map (λ (p : Pair). p.whole) o)) found)

-- ---- marking

pub none_marked : (slots : List Bool) (ps : List Pair) → HaveSeconds slots (take 0 ps)
none_marked slots [] = refl
none_marked slots (p ∷ ps) = refl

mark_stays : (slots : List Bool) (i b : ℕ) → i < length slots → has_slot slots b ≡ true → has_slot (set slots i true) b ≡ true
mark_stays slots i b lt e = by_test (b % 1024 == i) refl
  where
    by_test : (t : Bool) → (b % 1024 == i) ≡ t → has_slot (set slots i true) b ≡ true
    by_test true is =
        let same : b % 1024 ≡ i = grind (arith, nat_tests, is) in
        ap (λ k. get_or (set slots i true) k false) same ∙ get_or-set_same slots i true false lt
    by_test false is =
        let apart : b % 1024 ≢ i = grind (arith, nat_tests, is) in
        get_or-set_other slots i (b % 1024) true false apart ∙ e

pub marks_stay : (slots : List Bool) (i : ℕ) (ps : List Pair) → i < length slots → HaveSeconds slots ps → HaveSeconds (set slots i true) ps
marks_stay slots i [] lt have = refl
marks_stay slots i (p ∷ ps) lt have =
    let first = first_held (has_slot slots p.second) (list_all (λ (q : Pair). has_slot slots q.second) ps) have in
    let rest = rest_held (has_slot slots p.second) (list_all (λ (q : Pair). has_slot slots q.second) ps) have in
    and_true (has_slot (set slots i true) p.second) (list_all (λ (q : Pair). has_slot (set slots i true) q.second) ps) (mark_stays slots i p.second lt first) (marks_stay slots i ps lt rest)

one_more : (slots : List Bool) (k : ℕ) (p : Pair) (ps : List Pair) → k < length ps → p ≡ get_or ps k p → has_slot slots p.second ≡ true → HaveSeconds slots (take k ps) → HaveSeconds slots (take (suc k) ps)
one_more slots k p [] lt at own have = absurd (omega (arith, lt))
one_more slots zero p (q ∷ ps) lt at own have =
    let same : has_slot slots q.second ≡ true = ap (λ (r : Pair). has_slot slots r.second) (sym at) ∙ own in
    and_true (has_slot slots q.second) (list_all (λ (r : Pair). has_slot slots r.second) (take 0 ps)) same (none_marked slots ps)
one_more slots (suc k) p (q ∷ ps) lt at own have =
    let first = first_held (has_slot slots q.second) (list_all (λ (r : Pair). has_slot slots r.second) (take k ps)) have in
    let rest = rest_held (has_slot slots q.second) (list_all (λ (r : Pair). has_slot slots r.second) (take k ps)) have in
    and_true (has_slot slots q.second) (list_all (λ (r : Pair). has_slot slots r.second) (take (suc k) ps)) first (one_more slots k p ps (omega (arith, lt)) at own rest)

-- the slot of one more second half is marked
pub one_marked : (slots : List Bool) (k i : ℕ) (p : Pair) (ps : List Pair) → k < length ps → p ≡ get_or ps k p → i ≡ p.second % 1024 → i < length slots → HaveSeconds slots (take k ps) → HaveSeconds (set slots i true) (take (k + 1) ps)
one_marked slots k i p ps lt at is within have =
    let own : has_slot (set slots i true) p.second ≡ true = ap (λ n. get_or (set slots i true) n false) (sym is) ∙ get_or-set_same slots i true false within in
    let more : suc k ≡ k + 1 = omega arith in
    let P : ℕ → Type 0 = λ n. HaveSeconds (set slots i true) (take n ps) in
    subst P more (one_more (set slots i true) k p ps lt at own (marks_stay slots i (take k ps) within have))

-- all are marked
pub all_marked : (slots : List Bool) (k : ℕ) (ps : List Pair) → length ps ≤ k → HaveSeconds slots (take k ps) → HaveSeconds slots ps
all_marked slots zero [] past have = refl
all_marked slots (suc k) [] past have = refl
all_marked slots zero (p ∷ ps) past have = absurd (omega (arith, past))
all_marked slots (suc k) (p ∷ ps) past have =
    let first = first_held (has_slot slots p.second) (list_all (λ (r : Pair). has_slot slots r.second) (take k ps)) have in
    let rest = rest_held (has_slot slots p.second) (list_all (λ (r : Pair). has_slot slots r.second) (take k ps)) have in
    and_true (has_slot slots p.second) (list_all (λ (r : Pair). has_slot slots r.second) ps) first (all_marked slots k ps (omega (arith, past)) rest)
