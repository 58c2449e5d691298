-- Widened ranges have the same characters, and can be searched by halves.
use Rattle.std.proofs.Common.{ℕ, zero, suc, ◌≡◌, ◌≢◌, ◌<◌, ◌≤◌, ◌-◌, ◌+◌, ◌&&◌, ◌||◌, max, nat_le, Bool, true, false, List, [], ◌∷◌, length, get_or, Option, Some, None, refl, ap₂, sym, ◌∙◌, inl, inr, arith, le-leb, leb-true}
use Rattle.buffer_rows.specs.Pages.{IsStart}
use Rattle.std.proofs.lemmas.Bool.{and_parts, and_from, and_left, and_right, or_from, or_left, cases_lt, lt-leb}
use Rattle.std.proofs.lemmas.Bool.Decides.{nat_tests}
use Rattle.buffer_unicode.specs.Keys.{precedes, rises_after, is_rising}
use Rattle.buffer_unicode.specs.Ranges.{has_character, is_in_ranges, widened_ranges, ends_rise}
use Rattle.buffer_unicode.proofs.Searches.{first_rises}
use Rattle.buffer_unicode.specs.declared.rows.CharacterRange.{CharacterRange}

abbrev firsts_rise : Option CharacterRange → List CharacterRange → Bool
firsts_rise before rs = rises_after (λ (_ : CharacterRange). 0) (λ (r : CharacterRange). r.first) before rs

below_first : (c : ℕ) (r : CharacterRange) → c < r.first → has_character c r ≡ false
below_first c r h = and_left _ _ (lt-leb r.first c h)

beyond_last : (c : ℕ) (r : CharacterRange) → r.last < c → has_character c r ≡ false
beyond_last c r h = and_right _ _ (lt-leb c r.last h)

within : (c : ℕ) (r : CharacterRange) → r.first ≤ c → c ≤ r.last → has_character c r ≡ true
within c r low high = and_from _ _ (le-leb r.first c low) (le-leb c r.last high)

-- ranges after one that begins above a character don't have it
none_after : (c : ℕ) (r : CharacterRange) (rs : List CharacterRange) → firsts_rise (Some r) rs ≡ true → c < r.first → is_in_ranges rs c ≡ false
none_after c r [] h lt = refl
none_after c r (q ∷ qs) h lt =
    let parts = and_parts (precedes (λ (_ : CharacterRange). 0) (λ (r : CharacterRange). r.first) r q) (firsts_rise (Some q) qs) h in
    let above : r.first < q.first = grind (arith, nat_tests, parts.0) in
    or_from _ _ (below_first c q (omega (arith, lt, above))) (none_after c q qs parts.1 (omega (arith, lt, above)))

none_after_widened : (c m : ℕ) (r : CharacterRange) (rs : List CharacterRange) → firsts_rise (Some r) rs ≡ true → c < r.first → is_in_ranges (widened_ranges m rs) c ≡ false
none_after_widened c m r [] h lt = refl
none_after_widened c m r (q ∷ qs) h lt =
    let parts = and_parts (precedes (λ (_ : CharacterRange). 0) (λ (r : CharacterRange). r.first) r q) (firsts_rise (Some q) qs) h in
    let above : r.first < q.first = grind (arith, nat_tests, parts.0) in
    or_from _ _ (below_first c (record q { last = max m q.last }) (omega (arith, lt, above))) (none_after_widened c (max m q.last) q qs parts.1 (omega (arith, lt, above)))

-- widened ranges have the characters of the ranges
has_widened : (c m : ℕ) (before : Option CharacterRange) (rs : List CharacterRange) → firsts_rise before rs ≡ true → m ≤ c - 1 → is_in_ranges (widened_ranges m rs) c ≡ is_in_ranges rs c
has_widened c m before [] h le = refl
has_widened c m before (r ∷ rs) h le =
    let rest = first_rises (λ (_ : CharacterRange). 0) (λ (r : CharacterRange). r.first) before r rs h in
    elim (cases_lt c r.first) [
      | inl under ↦
          or_from _ _ (below_first c (record r { last = max m r.last }) under) (none_after_widened c (max m r.last) r rs rest under)
          ∙ sym (or_from _ _ (below_first c r under) (none_after c r rs rest under))
      | inr from ↦
          elim (cases_lt (max m r.last) c) [
            | inl beyond ↦
                ap₂ (λ a b. a || b)
                (beyond_last c (record r { last = max m r.last }) beyond ∙ sym (beyond_last c r (omega (arith, beyond))))
                (has_widened c (max m r.last) (Some r) rs rest (omega (arith, beyond)))
            | inr reached ↦
                or_left _ _ (within c (record r { last = max m r.last }) from reached)
                ∙ sym (or_left _ _ (within c r from (omega (arith, reached, le))))
          ]
    ]

pub widened_has : (c : ℕ) (rows wide : List CharacterRange) → is_rising (λ _. 0) (λ (r : CharacterRange). r.first) rows ≡ true → wide ≡ widened_ranges 0 rows → is_in_ranges wide c ≡ is_in_ranges rows c
widened_has c rows wide h e = rw e (has_widened c 0 None rows h (omega arith))

rises_widened : (m : ℕ) (r q : CharacterRange) (rs : List CharacterRange) → q.first ≡ r.first → firsts_rise (Some r) rs ≡ true → firsts_rise (Some q) (widened_ranges m rs) ≡ true
rises_widened m r q [] e h = refl
rises_widened m r q (x ∷ xs) e h =
    let parts = and_parts (precedes (λ (_ : CharacterRange). 0) (λ (r : CharacterRange). r.first) r x) (firsts_rise (Some x) xs) h in
    and_from _ _ (rw e parts.0) (rises_widened (max m x.last) x (record x { last = max m x.last }) xs refl parts.1)

rising_widened : (rs : List CharacterRange) → firsts_rise None rs ≡ true → firsts_rise None (widened_ranges 0 rs) ≡ true
rising_widened [] h = refl
rising_widened (r ∷ rs) h = rises_widened (max 0 r.last) r (record r { last = max 0 r.last }) rs refl h

pub widened_rises : (rows wide : List CharacterRange) → is_rising (λ _. 0) (λ (r : CharacterRange). r.first) rows ≡ true → wide ≡ widened_ranges 0 rows → is_rising (λ _. 0) (λ (r : CharacterRange). r.first) wide ≡ true
widened_rises rows wide h e = rw e (rising_widened rows h)

ends_widened : (m : ℕ) (rs : List CharacterRange) → ends_rise m (widened_ranges m rs) ≡ true
ends_widened m [] = refl
ends_widened m (r ∷ rs) = and_from _ _ (le-leb m (max m r.last) (omega arith)) (ends_widened (max m r.last) rs)

pub widened_ends : (rows wide : List CharacterRange) → wide ≡ widened_ranges 0 rows → ends_rise 0 wide ≡ true
widened_ends rows wide e = rw e (ends_widened 0 rows)

-- ---- the last range that begins at a character or before it

all_beyond : (c : ℕ) (rows : List CharacterRange) → ((i : ℕ) (d : CharacterRange) → i < length rows → c + 1 ≤ (get_or rows i d).first) → is_in_ranges rows c ≡ false
all_beyond c [] h = refl
all_beyond c (r ∷ rs) h =
    let here = h 0 r (omega arith) in
    or_from _ _ (below_first c r (omega (arith, here))) (all_beyond c rs (λ i d lt. h (suc i) d (omega (arith, lt))))

reached : (m : ℕ) (rows : List CharacterRange) (i : ℕ) (d : CharacterRange) → ends_rise m rows ≡ true → i < length rows → m ≤ (get_or rows i d).last
reached m [] i d h lt = absurd (omega (arith, lt))
reached m (r ∷ rs) zero d h lt = leb-true m r.last (and_parts (nat_le m r.last) (ends_rise r.last rs) h).0
reached m (r ∷ rs) (suc i) d h lt =
    let parts = and_parts (nat_le m r.last) (ends_rise r.last rs) h in
    let first = leb-true m r.last parts.0 in
    let later = reached r.last rs i d parts.1 (omega (arith, lt)) in
    omega (arith, first, later)

begun : (c first last : ℕ) → first ≤ c → ((nat_le first c && nat_le c last) || false) ≡ nat_le c last
begun c first last le = grind (arith, nat_tests)

shorter : (c first last end : ℕ) → last ≤ end → ((nat_le first c && nat_le c last) || nat_le c end) ≡ nat_le c end
shorter c first last end le = grind (arith, nat_tests)

pub none_begun : (c : ℕ) (rows : List CharacterRange) (start : ℕ) → IsStart (λ (r : CharacterRange). r.first) rows (c + 1) start → start ≡ 0 → false ≡ is_in_ranges rows c
none_begun c rows start s e = sym (all_beyond c rows (λ i d lt. s.rest i d (omega (arith, e)) lt))

last_decides : (c m : ℕ) (rows : List CharacterRange) (j : ℕ) (d : CharacterRange) → ends_rise m rows ≡ true → IsStart (λ (r : CharacterRange). r.first) rows (c + 1) (suc j) → nat_le c (get_or rows j d).last ≡ is_in_ranges rows c
last_decides c m [] j d h s = let none = s.within in absurd (omega (arith, none))
last_decides c m (r ∷ rs) zero d h s =
    let here = s.below 0 r (omega arith) in
    let rest : is_in_ranges rs c ≡ false = all_beyond c rs (λ i d lt. s.rest (suc i) d (omega arith) (omega (arith, lt))) in
    rw rest (sym (begun c r.first r.last (omega (arith, here))))
last_decides c m (r ∷ rs) (suc j) d h s =
    let parts = and_parts (nat_le m r.last) (ends_rise r.last rs) h in
    let within : suc (suc j) ≤ suc (length rs) = s.within in
    let tail : IsStart (λ (r : CharacterRange). r.first) rs (c + 1) (suc j) = record {
      within = omega (arith, within);
      below = λ i d lt. s.below (suc i) d (omega (arith, lt));
      rest = λ i d ge lt. s.rest (suc i) d (omega (arith, ge)) (omega (arith, lt));
    } in
    let later = last_decides c r.last rs j d parts.1 tail in
    let reach : r.last ≤ (get_or rs j d).last = reached r.last rs j d parts.1 (omega (arith, within)) in
    rw (sym later) (sym (shorter c r.first r.last (get_or rs j d).last reach))

pub last_range_decides : (c : ℕ) (rows : List CharacterRange) (start : ℕ) (d : CharacterRange) → ends_rise 0 rows ≡ true → IsStart (λ (r : CharacterRange). r.first) rows (c + 1) start → start ≢ 0 → nat_le c (get_or rows (start - 1) d).last ≡ is_in_ranges rows c
last_range_decides c rows zero d h s n = absurd (n refl)
last_range_decides c rows (suc j) d h s n =
    let back : suc j - 1 ≡ j = omega arith in
    rw back (last_decides c 0 rows j d h s)
