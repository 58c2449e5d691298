-- An element that is put into a list of values of rising keys enters them as into a finite map.
use Rattle.std.proofs.Common.{ℕ, zero, suc, ◌≡◌, ◌≢◌, ◌<◌, ◌≤◌, ◌+◌, ◌-◌, true, false, nat_lt, ltb, List, [], ◌∷◌, length, get_or, slice_get, set, take, map, Some, None, refl, sym, ap, ◌∙◌, arith}
use Rattle.std.proofs.lemmas.Bool.Decides.{nat_tests}
use Rattle.std.proofs.lemmas.Bool.{ltb-true, ltb-false}
use Rattle.std.specs.List.Sorted.{IsNonDecreasingBy, IsPartitionPoint}
use Rattle.std.proofs.lemmas.List.{get_or_default, take_all}
use Rattle.std.proofs.lemmas.Option.{slice_get-get_or}
use Rattle.std.specs.List.{insert}
use Rattle.std.specs.Ordering.{nat_cmp}
use Rattle.std.specs.BTreeMap.{is_at}
use Rattle.std.specs.Map.{lookup}
use Rattle.buffer_rows.specs.Pages.{IsStart}
use Rattle.layout_map_features.specs.Entering.{entries_of, entries_with, RisesFrom}
use Rattle.layout_map_features.specs.Groups.{entries_below, groups_below}
use Rattle.layout_map_features.specs.declared.request.FeatureRequest.{FeatureRequest}
use Rattle.layout_map_features.specs.declared.request.MergedRequest.{MergedRequest}
use Rattle.layout_map_features.specs.declared.lookup.lookup_map_t.{lookup_map_t}
use Rattle.layout_map_features.specs.Requests.{merged_request}
use Rattle.layout_map_features.specs.Lookups.{joined_lookups, lookup_with, entries_below_with}
use Rattle.layout_map_features.proofs.Grouping.{greater_is, equal_is, lower_is, no_entries}
use Rattle.layout_map_features.proofs.Rising.{from_within, groups_rise}

pub values_of : {Y : Type 0} (key : Y → ℕ) (ys : List Y) → map (λ e. e.1) (entries_of key ys) ≡ ys
values_of key [] = refl
values_of key (y ∷ ys) = ap (λ zs. y ∷ zs) (values_of key ys)

absent : {Y : Type 0} (key : Y → ℕ) (k low : ℕ) (ys : List Y) → k < low → RisesFrom key low ys → lookup (is_at (nat_cmp k)) (entries_of key ys) ≡ None
absent key k low [] lt h = refl
absent key k low (y ∷ ys) lt h =
    let below : k < key y = omega (arith, lt, h.0) in
    rw (lower_is k (key y) below) (absent key k (key y + 1) ys (omega (arith, below)) h.1)

start_after : {Y : Type 0} (key : Y → ℕ) (y : Y) (ys : List Y) (k i : ℕ) → IsStart key (y ∷ ys) k (suc i) → IsStart key ys k i
start_after key y ys k i s = record {
  within = omega (arith, s.within);
  below = λ j d lt. s.below (suc j) d (omega (arith, lt));
  rest = λ j d le lt. s.rest (suc j) d (omega (arith, le)) (omega (arith, lt));
}

module _ {X Y : Type 0} (key : X → ℕ) (key' : Y → ℕ) (together : X → List X → Y) (join : Y → X → Y) (x : X) where
  -- the value of its key is there: it is written over
  pub written : ((y : Y) → key' (join y x) ≡ key' y) → (ys : List Y) (i : ℕ) (d : Y) → IsStart key' ys (key x) i → i < length ys → key' (get_or ys i d) ≡ key x
      → entries_of key' (set ys i (join (get_or ys i d) x)) ≡ entries_with key together join (entries_of key' ys) x
  written law [] i d s lt e = absurd (omega (arith, lt))
  written law (y ∷ ys) zero d s lt e = rw (equal_is (key x) (key' y) (sym e), law y) refl
  written law (y ∷ ys) (suc i) d s lt e =
      rw (greater_is (key x) (key' y) (s.below 0 d (omega arith))) (ap (λ es. (key' y, y) ∷ es) (written law ys i d (start_after key' y ys (key x) i s) (omega (arith, lt)) e))

  -- it isn't: a value of the element alone is inserted
  pub inserted : key' (together x []) ≡ key x → (ys : List Y) (i low : ℕ) → RisesFrom key' low ys → IsStart key' ys (key x) i → (i < length ys → (d : Y) → key' (get_or ys i d) ≢ key x)
      → entries_of key' (insert ys i (together x [])) ≡ entries_with key together join (entries_of key' ys) x
  inserted law [] zero low r s n = rw law refl
  inserted law [] (suc i) low r s n = absurd (omega (arith, s.within))
  inserted law (y ∷ ys) zero low r s n =
      let le : key x ≤ key' y = s.rest 0 y (omega arith) (omega arith) in
      let apart : key' y ≢ key x = n (omega arith) y in
      let lt : key x < key' y = omega (arith, le, apart) in
      rw (lower_is (key x) (key' y) lt, absent key' (key x) (key' y + 1) ys (omega (arith, lt)) r.1, law) refl
  inserted law (y ∷ ys) (suc i) low r s n =
      rw (greater_is (key x) (key' y) (s.below 0 y (omega arith)))
      (ap (λ es. (key' y, y) ∷ es) (inserted law ys i (key' y + 1) r.1 (start_after key' y ys (key x) i s) (λ lt. n (omega (arith, lt)))))

  -- the forms that the two ways through the code give, where z is what was read at the index
  pub written_over : ((y : Y) → key' (join y x) ≡ key' y) → (ys : List Y) (i : ℕ) (y z v : Y) → IsStart key' ys (key x) i → i < length ys
      → z ≡ get_or ys i z → key' z ≡ key x → y ≡ get_or ys i y → v ≡ join y x
      → entries_of key' (set ys i v) ≡ entries_with key together join (entries_of key' ys) x
  written_over law ys i y z v s lt at e same is =
      let here : key' (get_or ys i y) ≡ key x = ap key' (get_or_default ys i y z lt) ∙ sym (ap key' at) ∙ e in
      ap (λ w. entries_of key' (set ys i w)) (is ∙ ap (λ w. join w x) same) ∙ written law ys i y s lt here

  pub inserted_within : key' (together x []) ≡ key x → (ys new : List Y) (i : ℕ) (z v : Y) → RisesFrom key' 0 ys → IsStart key' ys (key x) i → i < length ys
      → z ≡ get_or ys i z → key' z ≢ key x → v ≡ together x [] → new ≡ insert ys i v → entries_of key' new ≡ entries_with key together join (entries_of key' ys) x
  inserted_within law ys new i z v r s lt at apart is e =
      let none : i < length ys → (d : Y) → key' (get_or ys i d) ≢ key x = λ l d n. apart (ap key' at ∙ ap key' (get_or_default ys i z d lt) ∙ n) in
      ap (entries_of key') (e ∙ ap (insert ys i) is) ∙ inserted law ys i 0 r s none

  pub inserted_last : key' (together x []) ≡ key x → (ys new : List Y) (i : ℕ) (v : Y) → RisesFrom key' 0 ys → IsStart key' ys (key x) i → length ys ≤ i
      → v ≡ together x [] → new ≡ insert ys i v → entries_of key' new ≡ entries_with key together join (entries_of key' ys) x
  inserted_last law ys new i v r s ge is e =
      let none : i < length ys → (d : Y) → key' (get_or ys i d) ≢ key x = λ l. absurd (omega arith) in
      ap (entries_of key') (e ∙ ap (insert ys i) is) ∙ inserted law ys i 0 r s none

-- ---- where rising keys are parted

at_least : {Y : Type 0} (key : Y → ℕ) (low : ℕ) (ys : List Y) (i : ℕ) (d : Y) → RisesFrom key low ys → i < length ys → low ≤ key (get_or ys i d)
at_least key low [] i d h lt = absurd (omega (arith, lt))
at_least key low (y ∷ ys) zero d h lt = h.0
at_least key low (y ∷ ys) (suc i) d h lt = let later = at_least key (key y + 1) ys i d h.1 (omega (arith, lt)) in omega (arith, later, h.0)

pub never_falls : {Y : Type 0} (key : Y → ℕ) (low : ℕ) (ys : List Y) → RisesFrom key low ys → IsNonDecreasingBy key ys
never_falls key low [] h i j d le lt = absurd (omega (arith, lt))
never_falls key low (y ∷ ys) h zero zero d le lt = omega arith
never_falls key low (y ∷ ys) h zero (suc j) d le lt = let later = at_least key (key y + 1) ys j d h.1 (omega (arith, lt)) in omega (arith, later)
never_falls key low (y ∷ ys) h (suc i) zero d le lt = absurd (omega (arith, le))
never_falls key low (y ∷ ys) h (suc i) (suc j) d le lt = never_falls key (key y + 1) ys h.1 i j d (omega (arith, le)) (omega (arith, lt))

-- the index that a search by halves gives
pub parted_at : {Y : Type 0} (key : Y → ℕ) (ys : List Y) (k at : ℕ) → at ≤ length ys
    → IsPartitionPoint (λ y. ltb (key y) k ≡ true) (λ y. ltb (key y) k ≡ false) ys at → IsStart key ys k at
parted_at key ys k at le point = record {
  within = le;
  below = λ i d lt. ltb-true _ _ (point.0 i d (omega arith) lt);
  rest = λ i d ge lt. ltb-false _ _ (point.1 i d ge lt);
}

-- the end is the index of a key above that of the last value
pub at_end : {Y : Type 0} (key : Y → ℕ) (ys : List Y) (k : ℕ) → RisesFrom key 0 ys → ((d : Y) → 0 < length ys → key (get_or ys (length ys - 1) d) < k) → IsStart key ys k (length ys)
at_end key ys k h last = record {
  within = omega arith;
  below = λ i d lt. let up = never_falls key 0 ys h i (length ys - 1) d (omega (arith, lt)) (omega (arith, lt)) in let top = last d (omega (arith, lt)) in omega (arith, up, top);
  rest = λ i d ge lt. absurd (omega (arith, ge, lt));
}

above_read : {Y : Type 0} (key : Y → ℕ) (ys : List Y) (y : Y) (k : ℕ) → slice_get ys (length ys - 1) ≡ Some y → key y < k → (d : Y) → 0 < length ys → key (get_or ys (length ys - 1) d) < k
above_read key ys y k at lt d some =
    let there : Some (get_or ys (length ys - 1) d) ≡ Some y = sym (slice_get-get_or ys (length ys - 1) d (omega arith)) ∙ at in
    let same : get_or ys (length ys - 1) d ≡ y = cc in
    omega (arith, lt, ap key same)

no_last : {Y : Type 0} (ys : List Y) → slice_get ys (length ys - 1) ≡ None → length ys ≤ 0
no_last [] h = omega arith
no_last (y ∷ ys) h =
    let there = slice_get-get_or (y ∷ ys) (length (y ∷ ys) - 1) y (omega arith) in
    cc

-- what the last value says, if there is one
pub last_below : {Y : Type 0} (key : Y → ℕ) (ys : List Y) (y : Y) (k : ℕ) → RisesFrom key 0 ys → slice_get ys (length ys - 1) ≡ Some y → key y < k → IsStart key ys k (length ys)
last_below key ys y k h at lt = at_end key ys k h (above_read key ys y k at lt)

-- ---- values in a list, entered

pub requests_are_in_order : (ms : List MergedRequest) (n : ℕ) (rs : List FeatureRequest) → entries_of (λ m. m.tag.0) ms ≡ entries_below (λ r. r.tag.0) merged_request n rs → RisesFrom (λ m. m.tag.0) 0 ms
requests_are_in_order ms n rs e =
    let is : ms ≡ groups_below (λ r. r.tag.0) merged_request n rs = sym (values_of (λ m. m.tag.0) ms) ∙ ap (λ es. map (λ p. p.1) es) e in
    rw is (from_within (λ m. m.tag.0) 0 n (groups_below (λ r. r.tag.0) merged_request n rs) (groups_rise (λ r. r.tag.0) (λ m. m.tag.0) merged_request (λ x later. refl) n rs))

pub lookups_are_in_order : (ms : List lookup_map_t) (n : ℕ) (ls : List lookup_map_t) → entries_of (λ m. m.index) ms ≡ entries_below (λ l. l.index) joined_lookups n ls → RisesFrom (λ m. m.index) 0 ms
lookups_are_in_order ms n ls e =
    let is : ms ≡ groups_below (λ l. l.index) joined_lookups n ls = sym (values_of (λ m. m.index) ms) ∙ ap (λ es. map (λ p. p.1) es) e in
    rw is (from_within (λ m. m.index) 0 n (groups_below (λ l. l.index) joined_lookups n ls) (groups_rise (λ l. l.index) (λ m. m.index) joined_lookups (λ x later. refl) n ls))

-- all are entered
pub all_values : {X Y : Type 0} (key : X → ℕ) (key' : Y → ℕ) (together : X → List X → Y) (n i : ℕ) (ys : List Y) (xs : List X) → length xs ≤ i
    → entries_of key' ys ≡ entries_below key together n (take i xs) → ys ≡ groups_below key together n xs
all_values key key' together n i ys xs le e =
    sym (values_of key' ys) ∙ ap (λ es. map (λ p. p.1) es) (e ∙ ap (entries_below key together n) (take_all i xs le))

pub none_yet : {X Y : Type 0} (key : X → ℕ) (key' : Y → ℕ) (together : X → List X → Y) (n : ℕ) (ys : List Y) (xs : List X) → ys ≡ [] → entries_of key' ys ≡ entries_below key together n (take 0 xs)
none_yet key key' together n ys xs e = ap (entries_of key') e ∙ sym (no_entries key together n)

-- a lookup of the table is entered
pub entered_below : (count : ℕ) (old new : List (ℕ × lookup_map_t)) (l : lookup_map_t) → l.index < count → new ≡ entries_with (λ k. k.index) joined_lookups lookup_with old l → new ≡ entries_below_with count old l
entered_below count old new l lt e =
    let on : nat_lt l.index count ≡ true = grind (arith, nat_tests, lt) in
    rw on e
