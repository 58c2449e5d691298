-- Runs of marks, and lists that have one class order.
use Rattle.std.proofs.Common.{ℕ, zero, suc, ◌≡◌, ◌≢◌, ◌≤◌, ◌<◌, ◌+◌, ◌==◌, nat_lt, nat_le, if◌then◌else◌, true, false, List, [], ◌∷◌, ◌++◌, length, append_assoc, refl, sym, ap, ap₂, ◌∙◌, arith, inl, inr, ne_eqb, eq-eqb, le-leb}
use Rattle.std.proofs.lemmas.Bool.{cases_Bool, cases_eq, cases_order, cond-true, cond-false}
use Rattle.std.proofs.lemmas.Bool.Decides.{nat_tests}
use Rattle.std.proofs.lemmas.List.{append-nil, length-append, length_push}
use Rattle.std.specs.List.{flat_map}
use Rattle.buffer_rows.specs.KeyOrder.{of_key, by_key, key_bound}
use Rattle.buffer_unicode_tables.specs.ClassOrder.{run_order, order_after, class_order}
use Rattle.buffer_unicode_tables.proofs.Orders.{IsRun, run_of_class}
use Rattle.buffer_glyphs.specs.Items.{Item}
use Rattle.buffer_glyphs.specs.Rewriting.{items, Arrangement, eventless_arrangement}
use Rattle.buffer_properties.specs.Characters.{mark_class}
use Rattle.buffer_properties.specs.Ordering.{arranged_run, arranged_runs, ordered_list}
use Rattle.buffer_properties.specs.Premises.{HasShortRuns}
use Rattle.buffer_properties.proofs.Expanded.{items_in_turn}

-- how many elements have a class below n
abbrev count_below : {X : Type 0} → (X → ℕ) → ℕ → List X → ℕ
count_below class n [] = 0
count_below class n (x ∷ xs) = (if nat_lt (class x) n then 1 else 0) + count_below class n xs

count_step : {X : Type 0} (class : X → ℕ) (n : ℕ) (xs : List X) → count_below class (suc n) xs ≡ count_below class n xs + length (of_key class n xs)
count_step class n [] = refl
count_step class n (x ∷ xs) =
    let ih = count_step class n xs in
    elim (cases_order (class x) n) [
      | inl same ↦
          let at : (class x == n) ≡ true = grind (arith, nat_tests, same) in
          let low : nat_lt (class x) n ≡ false = grind (arith, nat_tests, same) in
          let high : nat_lt (class x) (suc n) ≡ true = grind (arith, nat_tests, same) in
          rw (high, low, at) (omega (arith, ih))
      | inr (inl below) ↦
          let off : (class x == n) ≡ false = grind (arith, nat_tests, below) in
          let low : nat_lt (class x) n ≡ true = grind (arith, nat_tests, below) in
          let high : nat_lt (class x) (suc n) ≡ true = grind (arith, nat_tests, below) in
          rw (high, low, off) (omega (arith, ih))
      | inr (inr above) ↦
          let off : (class x == n) ≡ false = grind (arith, nat_tests, above) in
          let low : nat_lt (class x) n ≡ false = grind (arith, nat_tests, above) in
          let high : nat_lt (class x) (suc n) ≡ false = grind (arith, nat_tests, above) in
          rw (high, low, off) (omega (arith, ih))
    ]

count_zero : {X : Type 0} (class : X → ℕ) (xs : List X) → count_below class 0 xs ≡ 0
count_zero class [] = refl
count_zero class (x ∷ xs) = let none : nat_lt (class x) 0 ≡ false = grind (arith, nat_tests) in rw (none, count_zero class xs) refl

count_all : {X : Type 0} (class : X → ℕ) (n : ℕ) (xs : List X) → key_bound class xs ≤ n → count_below class n xs ≡ length xs
count_all class n [] h = refl
count_all class n (x ∷ xs) h =
    let below : class x < n = omega (arith, h) in
    let at : nat_lt (class x) n ≡ true = grind (arith, nat_tests, below) in
    let ih = count_all class n xs (omega (arith, h)) in
    rw at (omega (arith, ih))

length_by_class : {X : Type 0} (class : X → ℕ) (n : ℕ) (xs : List X) → length (by_key class n xs) ≡ count_below class n xs
length_by_class class zero xs = sym (count_zero class xs)
length_by_class class (suc n) xs =
    length-append (by_key class n xs) (of_key class n xs)
    ∙ (ap (λ k. k + length (of_key class n xs)) (length_by_class class n xs) ∙ sym (count_step class n xs))

pub length_run_order : {X : Type 0} (class : X → ℕ) (run : List X) → length (run_order class run) ≡ length run
unfolding run_order
length_run_order class run = length_by_class class (key_bound class run) run ∙ count_all class (key_bound class run) run (omega arith)

pub run_append : {X : Type 0} (class : X → ℕ) (xs ys : List X) → IsRun class xs → IsRun class ys → IsRun class (xs ++ ys)
run_append class [] ys r s = s
run_append class (x ∷ xs) ys r s = (r.0, run_append class xs ys r.1 s)

run_by_class : {X : Type 0} (class : X → ℕ) (n : ℕ) (run : List X) → IsRun class run → IsRun class (by_key class n run)
run_by_class class zero run r = tt
run_by_class class (suc n) run r = run_append class (by_key class n run) (of_key class n run) (run_by_class class n run r) (run_of_class class n run r)

pub run_in_order : {X : Type 0} (class : X → ℕ) (run : List X) → IsRun class run → IsRun class (run_order class run)
unfolding run_order
run_in_order class run r = run_by_class class (key_bound class run) run r

-- what f makes of each run, and the starters between them
abbrev pub by_runs : {X : Type 0} → (X → ℕ) → (List X → List X) → List X → List X → List X
by_runs class f run [] = f run
by_runs class f run (x ∷ xs) = if class x == 0 then f run ++ x ∷ by_runs class f [] xs else by_runs class f (run ++ x ∷ []) xs

runs_in_run : {X : Type 0} (class : X → ℕ) (f : List X → List X) (before zs ys : List X) → IsRun class zs → by_runs class f before (zs ++ ys) ≡ by_runs class f (before ++ zs) ys
runs_in_run class f before [] ys r = let end : before ++ [] ≡ before = append-nil before in ap (λ b. by_runs class f b ys) (sym end)
runs_in_run class f before (z ∷ zs) ys r =
    cond-false _ _ _ (ne_eqb (class z) 0 r.0)
    ∙ (runs_in_run class f (before ++ z ∷ []) zs ys r.1 ∙ ap (λ b. by_runs class f b ys) (append_assoc before (z ∷ []) zs))

-- to order the runs and then change each is to change each ordered run
pub runs_of_order : {X : Type 0} (class : X → ℕ) (f : List X → List X) (run xs : List X) → IsRun class run
    → by_runs class f [] (order_after class run xs) ≡ by_runs class (λ s. f (run_order class s)) run xs
runs_of_order class f run [] r =
    let end : run_order class run ++ [] ≡ run_order class run = append-nil (run_order class run) in
    ap (by_runs class f []) (sym end) ∙ runs_in_run class f [] (run_order class run) [] (run_in_order class run r)
runs_of_order class f run (x ∷ xs) r =
    elim (cases_eq (class x) 0) [
      | inl z ↦
          let at : (class x == 0) ≡ true = eq-eqb (class x) 0 z in
          ap (by_runs class f []) (cond-true _ _ _ at)
          ∙ (runs_in_run class f [] (run_order class run) (x ∷ order_after class [] xs) (run_in_order class run r)
          ∙ (cond-true _ _ _ at
          ∙ (ap (λ zs. f (run_order class run) ++ x ∷ zs) (runs_of_order class f [] xs tt)
          ∙ sym (cond-true _ _ _ at))))
      | inr n ↦
          let off : (class x == 0) ≡ false = ne_eqb (class x) 0 n in
          ap (by_runs class f []) (cond-false _ _ _ off)
          ∙ (runs_of_order class f (run ++ x ∷ []) xs (run_append class run (x ∷ []) r (n, tt)) ∙ sym (cond-false _ _ _ off))
    ]

-- what the shaper makes of a sorted run, if there is one
abbrev pub after : (List Item → Arrangement) → List Item → List Item
after reorders [] = []
after reorders (x ∷ xs) = (reorders (x ∷ xs)).items

after_some : (reorders : List Item → Arrangement) (xs : List Item) → length xs ≢ 0 → (reorders xs).items ≡ after reorders xs
after_some reorders [] n = absurd (n refl)
after_some reorders (x ∷ xs) n = refl

run_items : (reorders : List Item → Arrangement) (run : List Item) → length run ≤ 32 → (arranged_run reorders run).items ≡ after reorders (run_order mark_class run)
unfolding arranged_run run_order
run_items reorders [] h = refl
run_items reorders (x ∷ xs) h =
    let short : nat_le (length (x ∷ xs)) 32 ≡ true = le-leb _ _ h in
    let some : length (run_order mark_class (x ∷ xs)) ≢ 0 = omega (arith, length_run_order mark_class (x ∷ xs)) in
    ap items (cond-true _ _ _ short) ∙ after_some reorders (run_order mark_class (x ∷ xs)) some

items_of_runs : (reorders : List Item → Arrangement) (run xs : List Item) → HasShortRuns mark_class (length run) xs
    → flat_map items (arranged_runs reorders run xs) ≡ by_runs mark_class (λ s. after reorders (run_order mark_class s)) run xs
items_of_runs reorders run [] h = let end : (arranged_run reorders run).items ++ [] ≡ (arranged_run reorders run).items = append-nil (arranged_run reorders run).items in end ∙ run_items reorders run h
items_of_runs reorders run (x ∷ xs) h =
    elim (cases_Bool (mark_class x == 0)) [
      | inl at ↦
          ap (flat_map items) (cond-true _ _ _ at)
          ∙ (ap₂ (λ a b. a ++ x ∷ b) (run_items reorders run h.0) (items_of_runs reorders [] xs (rw at at h.1))
          ∙ sym (cond-true _ _ _ at))
      | inr off ↦
          ap (flat_map items) (cond-false _ _ _ off)
          ∙ (items_of_runs reorders (run ++ x ∷ []) xs (rw (length_push run x) (rw off at h.1))
          ∙ sym (cond-false _ _ _ off))
    ]

-- where runs are short, the order is the class order with what the shaper makes of each run
pub ordered_by_runs : (reorders : List Item → Arrangement) (xs : List Item) → HasShortRuns mark_class 0 xs → (ordered_list reorders xs).items ≡ by_runs mark_class (after reorders) [] (class_order mark_class xs)
ordered_by_runs reorders xs short = items_in_turn (arranged_runs reorders [] xs) ∙ (items_of_runs reorders [] xs short ∙ sym (runs_of_order mark_class (after reorders) [] xs tt))

-- lists of short runs that have one class order are put in one order, whatever the shaper makes of their runs
pub ordered_alike : (reorders : List Item → Arrangement) (xs ys : List Item) → HasShortRuns mark_class 0 xs → HasShortRuns mark_class 0 ys → class_order mark_class xs ≡ class_order mark_class ys
    → (ordered_list reorders xs).items ≡ (ordered_list reorders ys).items
ordered_alike reorders xs ys short_xs short_ys same =
    ordered_by_runs reorders xs short_xs ∙ (ap (by_runs mark_class (after reorders) []) same ∙ sym (ordered_by_runs reorders ys short_ys))

runs_same : {X : Type 0} (class : X → ℕ) (f : List X → List X) (run xs : List X) → ((zs : List X) → f zs ≡ zs) → by_runs class f run xs ≡ run ++ xs
runs_same class f run [] h = h run ∙ sym (append-nil run)
runs_same class f run (x ∷ xs) h =
    elim (cases_Bool (class x == 0)) [
      | inl at ↦ cond-true _ _ _ at ∙ ap₂ (λ a b. a ++ x ∷ b) (h run) (runs_same class f [] xs h)
      | inr off ↦ cond-false _ _ _ off ∙ (runs_same class f (run ++ x ∷ []) xs h ∙ append_assoc run (x ∷ []) xs)
    ]

after_none : (reorders : List Item → Arrangement) → ((run : List Item) → reorders run ≡ eventless_arrangement run) → (zs : List Item) → after reorders zs ≡ zs
after_none reorders h [] = refl
after_none reorders h (z ∷ zs) = ap items (h (z ∷ zs))

-- where no run is long and none is reordered, the order is the class order
pub ordered_by_class : (reorders : List Item → Arrangement) (xs : List Item) → ((run : List Item) → reorders run ≡ eventless_arrangement run) → HasShortRuns mark_class 0 xs → (ordered_list reorders xs).items ≡ class_order mark_class xs
ordered_by_class reorders xs none short = ordered_by_runs reorders xs short ∙ runs_same mark_class (after reorders) [] (class_order mark_class xs) (after_none reorders none)
