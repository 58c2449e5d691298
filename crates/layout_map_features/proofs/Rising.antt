-- What elements of rising keys give together rises too.
use Rattle.std.proofs.Common.{ℕ, zero, suc, ◌≡◌, ◌≤◌, ◌+◌, ◌==◌, Bool, true, false, if◌then◌else◌, List, [], ◌∷◌, ◌++◌, map, filter, refl, sym, ap, ◌∙◌, arith, subst}
use Rattle.std.proofs.lemmas.Bool.Decides.{nat_tests}
use Rattle.std.proofs.lemmas.List.{append-nil, map-append}
use Rattle.buffer_rows.specs.KeyOrder.{of_key, key_bound}
use Rattle.layout_map_features.specs.declared.request.FeatureRequest.{FeatureRequest}
use Rattle.layout_map_features.specs.declared.request.MergedRequest.{MergedRequest}
use Rattle.layout_map_features.specs.declared.lookup.lookup_map_t.{lookup_map_t}
use Rattle.layout_map_features.specs.Groups.{group_entry, entries_below, groups_below}
use Rattle.layout_map_features.specs.Entering.{RisesFrom, RisesWithin}
use Rattle.layout_map_features.specs.Requests.{merged_request, merged_requests}
use Rattle.layout_map_features.specs.Lookups.{joined_lookups, merged_lookups}
use Rattle.buffer_facts.proofs.Numbers.{same_by_test as same_key}

within_more : {Y : Type 0} (key : Y → ℕ) (low n : ℕ) (ys : List Y) → RisesWithin key low n ys → RisesWithin key low (suc n) ys
within_more key low n [] h = tt
within_more key low n (y ∷ ys) h = (h.0, omega (arith, h.1), within_more key (key y + 1) n ys h.2)

one_more : {Y : Type 0} (key : Y → ℕ) (low n : ℕ) (ys : List Y) (y : Y) → low ≤ n → key y ≡ n → RisesWithin key low n ys → RisesWithin key low (suc n) (ys ++ y ∷ [])
one_more key low n [] y le at h = (omega (arith, le, at), omega (arith, at), tt)
one_more key low n (z ∷ ys) y le at h = (h.0, omega (arith, h.1), one_more key (key z + 1) n ys y (omega (arith, h.1)) at h.2)

pub from_within : {Y : Type 0} (key : Y → ℕ) (low n : ℕ) (ys : List Y) → RisesWithin key low n ys → RisesFrom key low ys
from_within key low n [] h = tt
from_within key low n (y ∷ ys) h = (h.0, from_within key (key y + 1) n ys h.2)

abbrev AllOfKey : {X : Type 0} → (X → ℕ) → ℕ → List X → Type 0
AllOfKey key n [] = Unit {0}
AllOfKey key n (x ∷ xs) = (key x ≡ n) × AllOfKey key n xs

of_key_if : {X : Type 0} (key : X → ℕ) (n : ℕ) (x : X) (xs : List X) (b : Bool) → (key x == n) ≡ b → AllOfKey key n xs → AllOfKey key n (if b then x ∷ xs else xs)
of_key_if key n x xs true e h = (same_key (key x) n e, h)
of_key_if key n x xs false e h = h

all_of_key : {X : Type 0} (key : X → ℕ) (n : ℕ) (xs : List X) → AllOfKey key n (of_key key n xs)
all_of_key key n [] = tt
all_of_key key n (x ∷ xs) = of_key_if key n x (of_key key n xs) (key x == n) refl (all_of_key key n xs)

group_more : {X Y : Type 0} (key : X → ℕ) (key' : Y → ℕ) (together : X → List X → Y) → ((x : X) (later : List X) → key' (together x later) ≡ key x)
    → (n : ℕ) (ys : List Y) (xs : List X) → AllOfKey key n xs → RisesWithin key' 0 n ys → RisesWithin key' 0 (suc n) (ys ++ map (λ e. e.1) (group_entry together n xs))
group_more key key' together law n ys [] h r = rw (append-nil ys) (within_more key' 0 n ys r)
group_more key key' together law n ys (x ∷ xs) h r = one_more key' 0 n ys (together x xs) (omega arith) (law x xs ∙ h.0) r

pub groups_rise : {X Y : Type 0} (key : X → ℕ) (key' : Y → ℕ) (together : X → List X → Y) → ((x : X) (later : List X) → key' (together x later) ≡ key x)
    → (n : ℕ) (xs : List X) → RisesWithin key' 0 n (groups_below key together n xs)
groups_rise key key' together law zero xs = tt
groups_rise key key' together law (suc n) xs =
    let split = map-append (λ e. e.1) (entries_below key together n xs) (group_entry together n (of_key key n xs)) in
    rw split (group_more key key' together law n (groups_below key together n xs) (of_key key n xs) (all_of_key key n xs) (groups_rise key key' together law n xs))

-- the tags of merged requests rise strictly
pub tags_rise : (rs : List FeatureRequest) → RisesFrom (λ m. m.tag.0) 0 (merged_requests rs)
tags_rise rs =
    from_within (λ m. m.tag.0) 0 (key_bound (λ r. r.tag.0) rs) (merged_requests rs)
    (groups_rise (λ r. r.tag.0) (λ m. m.tag.0) merged_request (λ x later. refl) (key_bound (λ r. r.tag.0) rs) rs)

-- merged lookups rise strictly, and are lookups of the table
pub lookups_rise : (count : ℕ) (uses : List lookup_map_t) → RisesWithin (λ l. l.index) 0 count (merged_lookups count uses)
lookups_rise count uses = groups_rise (λ l. l.index) (λ l. l.index) joined_lookups (λ x later. refl) count uses

rises_lower : {X : Type 0} (key : X → ℕ) (low high : ℕ) (xs : List X) → low ≤ high → RisesFrom key high xs → RisesFrom key low xs
rises_lower key low high [] le h = tt
rises_lower key low high (x ∷ xs) le h = (omega (arith, le, h.0), h.1)

filter_if : {X : Type 0} (key : X → ℕ) (low : ℕ) (x : X) (xs : List X) (b : Bool) → low ≤ key x → RisesFrom key (key x + 1) xs → RisesFrom key low (if b then x ∷ xs else xs)
filter_if key low x xs true le h = (le, h)
filter_if key low x xs false le h = rises_lower key low (key x + 1) xs (omega (arith, le)) h

filter_rises : {X : Type 0} (key : X → ℕ) (test : X → Bool) (low : ℕ) (xs : List X) → RisesFrom key low xs → RisesFrom key low (filter test xs)
filter_rises key test low [] h = tt
filter_rises key test low (x ∷ xs) h = filter_if key low x (filter test xs) (test x) h.0 (filter_rises key test (key x + 1) xs h.1)

-- so do the tags of those merged requests that pass a test
pub wanted_rise : (test : MergedRequest → Bool) (rs : List FeatureRequest) (ms ws : List MergedRequest) → ms ≡ merged_requests rs → ws ≡ filter test ms → RisesFrom (λ m. m.tag.0) 0 ws
wanted_rise test rs ms ws e w =
    subst (λ (xs : List MergedRequest). RisesFrom (λ m. m.tag.0) 0 xs) (sym (w ∙ ap (filter test) e))
    (filter_rises (λ m. m.tag.0) test 0 (merged_requests rs) (tags_rise rs))

pub requests_rise : (rs : List FeatureRequest) (ms : List MergedRequest) → ms ≡ merged_requests rs → RisesFrom (λ m. m.tag.0) 0 ms
requests_rise rs ms e = subst (λ (xs : List MergedRequest). RisesFrom (λ m. m.tag.0) 0 xs) (sym e) (tags_rise rs)
