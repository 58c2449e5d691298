-- Elements that come into a finite map one after another.
use Rattle.std.proofs.Common.{ℕ, zero, suc, ◌≡◌, ◌≢◌, ◌<◌, ◌≤◌, ◌+◌, ◌==◌, nat_lt, Bool, true, false, if◌then◌else◌, cond, min, bit_or, ◌&&◌, ◌||◌, List, [], ◌∷◌, ◌++◌, length, take, get_or, Some, inl, inr, refl, sym, ap, ◌∙◌, arith}
use Rattle.std.specs.declared.cmp.Ordering.TheVariants.{Less, Equal, Greater}
use Rattle.std.specs.Ordering.{nat_cmp, is_eq, match_ordering}
use Rattle.std.specs.BTreeMap.{insert_entry, is_at}
use Rattle.std.specs.Map.{lookup}
use Rattle.std.proofs.lemmas.Bool.{cases_eq}
use Rattle.std.proofs.lemmas.Bool.Decides.{nat_tests}
use Rattle.std.proofs.lemmas.List.{append-nil, take_more}
use Rattle.std.proofs.lemmas.List.Folds.{list_any-append}
use Rattle.std.proofs.lemmas.List.Sums.{fold-append}
use Rattle.std.specs.List.{list_any}
use Rattle.std.proofs.lemmas.List.Elements.{filter-append}
use Rattle.buffer_rows.specs.KeyOrder.{of_key, key_bound}
use Rattle.layout_map_features.specs.Groups.{group_entry, entries_below}
use Rattle.layout_map_features.specs.Entering.{entry_after, entries_with}
use Rattle.layout_map_features.specs.declared.flags.TheConstants.{F_HAS_FALLBACK}
use Rattle.layout_map_features.specs.declared.request.FeatureRequest.{FeatureRequest}
use Rattle.layout_map_features.specs.declared.request.MergedRequest.{MergedRequest}
use Rattle.layout_map_features.specs.declared.lookup.lookup_map_t.{lookup_map_t}
use Rattle.layout_map_features.specs.Requests.{has_flag, is_global, greatest_value, outside_value, merged_request, request_with_later}
use Rattle.layout_map_features.specs.Lookups.{joined_lookups, lookup_with, entries_below_with}
use Rattle.buffer_rows.proofs.Paged.{at_least as past_is, under as below_is}

-- ---- where an entry goes

abbrev KeysBelow : {Y : Type 0} → ℕ → List (ℕ × Y) → Type 0
KeysBelow n [] = Unit {0}
KeysBelow n (e ∷ es) = (e.0 < n) × KeysBelow n es

below_more : {Y : Type 0} (n : ℕ) (es : List (ℕ × Y)) → KeysBelow n es → KeysBelow (suc n) es
below_more n [] h = tt
below_more n (e ∷ es) h = (omega (arith, h.0), below_more n es h.1)

below_append : {Y : Type 0} (n : ℕ) (es fs : List (ℕ × Y)) → KeysBelow n es → KeysBelow n fs → KeysBelow n (es ++ fs)
below_append n [] fs h k = k
below_append n (e ∷ es) fs h k = (h.0, below_append n es fs h.1 k)

pub greater_is : (a b : ℕ) → b < a → nat_cmp a b ≡ Greater
greater_is a b h = grind (arith, nat_tests)

pub equal_is : (a b : ℕ) → a ≡ b → nat_cmp a b ≡ Equal
equal_is a b h = grind (arith, nat_tests)

pub lower_is : (a b : ℕ) → a < b → nat_cmp a b ≡ Less
lower_is a b h = grind (arith, nat_tests)

insert_past : {Y : Type 0} (k : ℕ) (v : Y) (es fs : List (ℕ × Y)) → KeysBelow k es → insert_entry nat_cmp (es ++ fs) k v ≡ es ++ insert_entry nat_cmp fs k v
insert_past k v [] fs h = refl
insert_past k v (e ∷ es) fs h = rw (greater_is k e.0 h.0) (ap (λ xs. e ∷ xs) (insert_past k v es fs h.1))

lookup_past : {Y : Type 0} (k : ℕ) (es fs : List (ℕ × Y)) → KeysBelow k es → lookup (is_at (nat_cmp k)) (es ++ fs) ≡ lookup (is_at (nat_cmp k)) fs
lookup_past k [] fs h = refl
lookup_past k (e ∷ es) fs h = rw (greater_is k e.0 h.0) (lookup_past k es fs h.1)

insert_before : {Y : Type 0} (k m : ℕ) (v w : Y) (es : List (ℕ × Y)) → k < m → insert_entry nat_cmp (es ++ (m, w) ∷ []) k v ≡ insert_entry nat_cmp es k v ++ (m, w) ∷ []
insert_before k m v w [] h = rw (lower_is k m h) refl
insert_before k m v w (e ∷ es) h =
    elim (nat_cmp k e.0) as (λ o. match_ordering o ((k, v) ∷ e ∷ (es ++ (m, w) ∷ [])) ((e.0, v) ∷ (es ++ (m, w) ∷ [])) (e ∷ insert_entry nat_cmp (es ++ (m, w) ∷ []) k v)
    ≡ match_ordering o ((k, v) ∷ e ∷ es) ((e.0, v) ∷ es) (e ∷ insert_entry nat_cmp es k v) ++ (m, w) ∷ []) [
      | Less ↦ refl
      | Equal ↦ refl
      | Greater ↦ ap (λ xs. e ∷ xs) (insert_before k m v w es h)
    ]

lookup_before : {Y : Type 0} (k m : ℕ) (w : Y) (es : List (ℕ × Y)) → k < m → lookup (is_at (nat_cmp k)) (es ++ (m, w) ∷ []) ≡ lookup (is_at (nat_cmp k)) es
lookup_before k m w [] h = rw (lower_is k m h) refl
lookup_before k m w (e ∷ es) h =
    elim (is_eq (nat_cmp k e.0)) as (λ b. cond b (Some e.1) (lookup (is_at (nat_cmp k)) (es ++ (m, w) ∷ [])) ≡ cond b (Some e.1) (lookup (is_at (nat_cmp k)) es)) [
      | true ↦ refl
      | false ↦ lookup_before k m w es h
    ]

-- ---- groups of keys

group_below : {X Y : Type 0} (together : X → List X → Y) (n : ℕ) (xs : List X) → KeysBelow (suc n) (group_entry together n xs)
group_below together n [] = tt
group_below together n (x ∷ xs) = (omega arith, tt)

entries_are_below : {X Y : Type 0} (key : X → ℕ) (together : X → List X → Y) (n : ℕ) (xs : List X) → KeysBelow n (entries_below key together n xs)
entries_are_below key together zero xs = tt
entries_are_below key together (suc n) xs =
    below_append (suc n) (entries_below key together n xs) (group_entry together n (of_key key n xs))
    (below_more n (entries_below key together n xs) (entries_are_below key together n xs)) (group_below together n (of_key key n xs))

insert_before_group : {X Y : Type 0} (together : X → List X → Y) (k m : ℕ) (v : Y) (es : List (ℕ × Y)) (xs : List X) → k < m
    → insert_entry nat_cmp (es ++ group_entry together m xs) k v ≡ insert_entry nat_cmp es k v ++ group_entry together m xs
insert_before_group together k m v es [] h = rw (append-nil es, append-nil (insert_entry nat_cmp es k v)) refl
insert_before_group together k m v es (x ∷ xs) h = insert_before k m v (together x xs) es h

lookup_before_group : {X Y : Type 0} (together : X → List X → Y) (k m : ℕ) (es : List (ℕ × Y)) (xs : List X) → k < m
    → lookup (is_at (nat_cmp k)) (es ++ group_entry together m xs) ≡ lookup (is_at (nat_cmp k)) es
lookup_before_group together k m es [] h = rw (append-nil es) refl
lookup_before_group together k m es (x ∷ xs) h = lookup_before k m (together x xs) es h

pub no_entries : {X Y : Type 0} (key : X → ℕ) (together : X → List X → Y) (n : ℕ) → entries_below key together n [] ≡ []
no_entries key together zero = refl
no_entries key together (suc n) = rw (no_entries key together n) refl

key_apart : {X : Type 0} (key : X → ℕ) (k : ℕ) (xs : List X) (x : X) → key x ≢ k → of_key key k (xs ++ x ∷ []) ≡ of_key key k xs
key_apart key k xs x h =
    let off : (key x == k) ≡ false = grind (arith, nat_tests, h) in
    filter-append (λ y. key y == k) xs (x ∷ []) ∙ rw off (append-nil (of_key key k xs))

key_same : {X : Type 0} (key : X → ℕ) (k : ℕ) (xs : List X) (x : X) → key x ≡ k → of_key key k (xs ++ x ∷ []) ≡ of_key key k xs ++ x ∷ []
key_same key k xs x h =
    let on : (key x == k) ≡ true = grind (arith, nat_tests, h) in
    filter-append (λ y. key y == k) xs (x ∷ []) ∙ rw on refl

-- an element whose key is not below the bound changes nothing
pub entries_past : {X Y : Type 0} (key : X → ℕ) (together : X → List X → Y) (n : ℕ) (xs : List X) (x : X) → n ≤ key x
    → entries_below key together n (xs ++ x ∷ []) ≡ entries_below key together n xs
entries_past key together zero xs x h = refl
entries_past key together (suc n) xs x h =
    rw (entries_past key together n xs x (omega (arith, h)), key_apart key n xs x (λ e. absurd (omega (arith, h, e)))) refl

-- one more element of a key at its entry
group_step : {X Y : Type 0} (key : X → ℕ) (together : X → List X → Y) (join : Y → X → Y) → ((x : X) (later : List X) (y : X) → together x (later ++ y ∷ []) ≡ join (together x later) y)
    → (k : ℕ) (x : X) (xs : List X) → key x ≡ k
    → group_entry together k (xs ++ x ∷ []) ≡ insert_entry nat_cmp (group_entry together k xs) (key x) (entry_after together join (lookup (is_at (nat_cmp (key x))) (group_entry together k xs)) x)
group_step key together join law k x [] h = rw h refl
group_step key together join law k x (y ∷ later) h = rw (equal_is (key x) k h) (ap (λ v. (k, v) ∷ []) (law y later x))

-- one more element
pub entries_step : {X Y : Type 0} (key : X → ℕ) (together : X → List X → Y) (join : Y → X → Y) → ((x : X) (later : List X) (y : X) → together x (later ++ y ∷ []) ≡ join (together x later) y)
    → (n : ℕ) (xs : List X) (x : X) → key x < n
    → entries_below key together n (xs ++ x ∷ []) ≡ entries_with key together join (entries_below key together n xs) x
entries_step key together join law zero xs x h = absurd (omega (arith, h))
entries_step key together join law (suc n) xs x h =
    elim (cases_eq (key x) n) [
      | inl same ↦
          let front : KeysBelow (key x) (entries_below key together n xs) = rw same (entries_are_below key together n xs) in
          let old = entries_past key together n xs x (omega (arith, same)) in
          let group = key_same key n xs x same in
          let there = lookup_past (key x) (entries_below key together n xs) (group_entry together n (of_key key n xs)) front in
          let put = insert_past (key x) (entry_after together join (lookup (is_at (nat_cmp (key x))) (group_entry together n (of_key key n xs))) x)
          (entries_below key together n xs) (group_entry together n (of_key key n xs)) front in
          let step = group_step key together join law n x (of_key key n xs) same in
          rw (old, group, there, put, step) refl
      | inr apart ↦
          let below : key x < n = omega (arith, h, apart) in
          let same = key_apart key n xs x apart in
          let there = lookup_before_group together (key x) n (entries_below key together n xs) (of_key key n xs) below in
          let put = insert_before_group together (key x) n (entry_after together join (lookup (is_at (nat_cmp (key x))) (entries_below key together n xs)) x)
          (entries_below key together n xs) (of_key key n xs) below in
          rw (entries_step key together join law n xs x below, same, there, put) refl
    ]

-- ---- requests and lookups

or_one_more : (a b c : Bool) → (a || (b || (c || false))) ≡ ((a || b) || c)
or_one_more true b c = refl
or_one_more false true c = refl
or_one_more false false true = refl
or_one_more false false false = refl

any_one_more : (p : FeatureRequest → Bool) (first : FeatureRequest) (later : List FeatureRequest) (r : FeatureRequest)
    → list_any p (first ∷ (later ++ r ∷ [])) ≡ (list_any p (first ∷ later) || p r)
any_one_more p first later r = rw (list_any-append p later (r ∷ [])) (or_one_more (p first) (list_any p later) (p r))

merged_grows : (first : FeatureRequest) (later : List FeatureRequest) (r : FeatureRequest) → merged_request first (later ++ r ∷ []) ≡ request_with_later (merged_request first later) r
merged_grows first later r =
    let global = fold-append (λ _ q. is_global q) (is_global first) later (r ∷ []) in
    let greatest = fold-append greatest_value first.value later (r ∷ []) in
    let outside = fold-append outside_value (outside_value 0 first) later (r ∷ []) in
    let gsub = fold-append (λ earliest q. min earliest q.stage.gsub) first.stage.gsub later (r ∷ []) in
    let gpos = fold-append (λ earliest q. min earliest q.stage.gpos) first.stage.gpos later (r ∷ []) in
    let fallback = any_one_more (has_flag F_HAS_FALLBACK) first later r in
    rw (global, greatest, outside, gsub, gpos, fallback) refl

lookups_grow : (first : lookup_map_t) (later : List lookup_map_t) (l : lookup_map_t) → joined_lookups first (later ++ l ∷ []) ≡ lookup_with (joined_lookups first later) l
lookups_grow first later l =
    let mask = fold-append (λ mask k. bit_or mask k.mask) first.mask later (l ∷ []) in
    let zwnj = fold-append (λ all k. all && k.auto_zwnj) first.auto_zwnj later (l ∷ []) in
    let zwj = fold-append (λ all k. all && k.auto_zwj) first.auto_zwj later (l ∷ []) in
    rw (mask, zwnj, zwj) refl

below_bound : {X : Type 0} (key : X → ℕ) (xs : List X) (i : ℕ) (d : X) → i < length xs → key (get_or xs i d) < key_bound key xs
below_bound key [] i d h = absurd (omega (arith, h))
below_bound key (x ∷ xs) zero d h = omega arith
below_bound key (x ∷ xs) (suc i) d h =
    let later : key (get_or xs i d) < key_bound key xs = below_bound key xs i d (omega (arith, h)) in
    omega (arith, later)

-- one more request is entered
pub request_step : (rs : List FeatureRequest) (i : ℕ) (d : FeatureRequest) (old new : List (ℕ × MergedRequest)) → i < length rs
    → old ≡ entries_below (λ q. q.tag.0) merged_request (key_bound (λ q. q.tag.0) rs) (take i rs)
    → new ≡ entries_with (λ q. q.tag.0) merged_request request_with_later old (get_or rs i d)
    → new ≡ entries_below (λ q. q.tag.0) merged_request (key_bound (λ q. q.tag.0) rs) (take (i + 1) rs)
request_step rs i d old new lt before is =
    let key : FeatureRequest → ℕ = λ q. q.tag.0 in
    is ∙ ap (λ es. entries_with key merged_request request_with_later es (get_or rs i d)) before
    ∙ sym (ap (entries_below key merged_request (key_bound key rs)) (take_more rs i d lt)
    ∙ entries_step key merged_request request_with_later merged_grows (key_bound key rs) (take i rs) (get_or rs i d) (below_bound key rs i d lt))

entered_if : (count : ℕ) (ls : List lookup_map_t) (l : lookup_map_t) (b : Bool) → nat_lt l.index count ≡ b
    → entries_below (λ k. k.index) joined_lookups count (ls ++ l ∷ [])
    ≡ (if b then entries_with (λ k. k.index) joined_lookups lookup_with (entries_below (λ k. k.index) joined_lookups count ls) l else entries_below (λ k. k.index) joined_lookups count ls)
entered_if count ls l true h = entries_step (λ k. k.index) joined_lookups lookup_with lookups_grow count ls l (below_is l.index count h)
entered_if count ls l false h = entries_past (λ k. k.index) joined_lookups count ls l (past_is l.index count h)

-- one more lookup is entered, if the table has it
pub lookup_step : (count : ℕ) (ls : List lookup_map_t) (i : ℕ) (d : lookup_map_t) (old new : List (ℕ × lookup_map_t)) → i < length ls
    → old ≡ entries_below (λ k. k.index) joined_lookups count (take i ls)
    → new ≡ entries_below_with count old (get_or ls i d)
    → new ≡ entries_below (λ k. k.index) joined_lookups count (take (i + 1) ls)
lookup_step count ls i d old new lt before is =
    is ∙ ap (λ es. entries_below_with count es (get_or ls i d)) before
    ∙ sym (ap (entries_below (λ k. k.index) joined_lookups count) (take_more ls i d lt)
    ∙ entered_if count (take i ls) (get_or ls i d) (nat_lt (get_or ls i d).index count) refl)
