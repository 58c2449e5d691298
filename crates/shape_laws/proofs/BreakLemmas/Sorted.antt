-- The second round of normalizing two texts, one after the other.
use Rattle.std.proofs.Common.{ℕ, suc, ◌≡◌, ◌≤◌, ◌+◌, ◌==◌, ◌||◌, ◌&&◌, nat_le, nat_lt, Bool, true, false, if◌then◌else◌, List, [], ◌∷◌, ◌++◌, length, map, arith, refl, sym, ap, subst, ◌∙◌}
use Rattle.std.specs.List.{list_any}
use Rattle.std.specs.List.Sorted.{IsPermutation}
use Rattle.std.proofs.lemmas.Bool.Decides.{nat_tests}
use Rattle.std.proofs.lemmas.Grind.{common_steps}
use Rattle.std.proofs.lemmas.List.{length-append, length-map}
use Rattle.std.proofs.lemmas.List.Sorted.{length_permutation, list_any-IsPermutation}
use Rattle.buffer_rows.specs.KeyOrder.{key_bound}
use Rattle.buffer_unicode_tables.specs.ClassOrder.{run_order}
use Rattle.buffer_glyphs.specs.Events.{Sort, StaysInSpans}
use Rattle.buffer_glyphs.specs.Items.{Item}
use Rattle.buffer_glyphs.specs.LigatureWords.{lig_id}
use Rattle.buffer_glyphs.specs.Rewriting.{Arrangement, beside, eventless_arrangement, in_turn}
use Rattle.buffer_lists.specs.Lemmas.KeyOrder.{all_below, by_key_moves}
use Rattle.buffer_lists.proofs.Lemmas.OrderSpans.{order_stays}
use Rattle.buffer_parts.specs.Breaks.Fragments.{AreGiven}
use Rattle.buffer_parts.proofs.BreakLemmas.SortOrders.{mark_orders_permute}
use Rattle.buffer_properties.specs.Characters.{is_mark, mark_class, visible_item}
use Rattle.buffer_properties.specs.Ordering.{arranged_run, arranged_runs, joiner_between, joiners_shown, ordered_list, separates_nothing, sorted_order, sorted_run, with_joiners_shown}
use Rattle.buffer_properties.specs.declared.normal_mode.TheConstants.{MAX_COMBINING_MARKS}
use Rattle.shape_normalize.proofs.Lemmas.Chain.{in_turn_both, none_beside}
use Rattle.shape_normalize.proofs.Sorted.{sorted_order_is}
use Rattle.shape_laws.specs.Breaks.Normalizing.{EndsUnjoined, is_joiner}
use Rattle.shape_laws.specs.Breaks.Rewrites.{IsRewrite, RewritesRuns}
use Rattle.shape_laws.proofs.BreakLemmas.Rewrites.{AreRewrites, eventless_rewrite, in_turn_rewrite, rewrites_as, rewrites_first, rewrites_one}
use Rattle.shape_parts.proofs.Normalized.{joiners_many as shown_later}

-- ---- apart

runs_apart : (reorders : List Item → Arrangement) (run zs : List Item) (y : Item) (ys : List Item) → (mark_class y == 0) ≡ true → arranged_runs reorders run (zs ++ y ∷ ys) ≡ arranged_runs reorders run zs ++ eventless_arrangement (y ∷ []) ∷ arranged_runs reorders [] ys
runs_apart reorders run [] y ys e = ap (λ b. if b then arranged_run reorders run ∷ eventless_arrangement (y ∷ []) ∷ arranged_runs reorders [] ys else arranged_runs reorders (run ++ y ∷ []) ys) e
runs_apart reorders run (z ∷ zs) y ys e = by_test (mark_class z == 0) (runs_apart reorders [] zs y ys e) (runs_apart reorders (run ++ z ∷ []) zs y ys e)
  where
    by_test : (b : Bool) → arranged_runs reorders [] (zs ++ y ∷ ys) ≡ arranged_runs reorders [] zs ++ eventless_arrangement (y ∷ []) ∷ arranged_runs reorders [] ys
        → arranged_runs reorders (run ++ z ∷ []) (zs ++ y ∷ ys) ≡ arranged_runs reorders (run ++ z ∷ []) zs ++ eventless_arrangement (y ∷ []) ∷ arranged_runs reorders [] ys
        → (if b then arranged_run reorders run ∷ eventless_arrangement (z ∷ []) ∷ arranged_runs reorders [] (zs ++ y ∷ ys) else arranged_runs reorders (run ++ z ∷ []) (zs ++ y ∷ ys))
        ≡ (if b then arranged_run reorders run ∷ eventless_arrangement (z ∷ []) ∷ arranged_runs reorders [] zs else arranged_runs reorders (run ++ z ∷ []) zs) ++ eventless_arrangement (y ∷ []) ∷ arranged_runs reorders [] ys
    by_test true next longer = ap (λ rs. arranged_run reorders run ∷ eventless_arrangement (z ∷ []) ∷ rs) next
    by_test false next longer = longer

no_class : (y : Item) → is_mark y ≡ false → (mark_class y == 0) ≡ true
no_class y e = ap (λ b. (if b then y.class else 0) == 0) e

-- the runs of a text that begins with a starter
starter_runs : (reorders : List Item → Arrangement) (y : Item) (ys : List Item) → is_mark y ≡ false → ordered_list reorders (y ∷ ys) ≡ in_turn (eventless_arrangement (y ∷ []) ∷ arranged_runs reorders [] ys)
unfolding arranged_run
starter_runs reorders y ys e =
    ap in_turn (runs_apart reorders [] [] y ys (no_class y e)) ∙ none_beside (in_turn (eventless_arrangement (y ∷ []) ∷ arranged_runs reorders [] ys))

-- two texts of which the second begins with a starter are ordered each by itself
pub ordered_apart : (reorders : List Item → Arrangement) (xs : List Item) (y : Item) (ys : List Item) → is_mark y ≡ false → ordered_list reorders (xs ++ y ∷ ys) ≡ beside (ordered_list reorders xs) (ordered_list reorders (y ∷ ys))
ordered_apart reorders xs y ys e =
    ap in_turn (runs_apart reorders [] xs y ys (no_class y e)) ∙ sym (in_turn_both (arranged_runs reorders [] xs) (eventless_arrangement (y ∷ []) ∷ arranged_runs reorders [] ys))
    ∙ ap (λ a. beside (ordered_list reorders xs) a) (sym (starter_runs reorders y ys e))

-- a text that begins with a starter begins with it once it is ordered
pub ordered_first : (reorders : List Item → Arrangement) (y : Item) (ys : List Item) → is_mark y ≡ false → (ordered_list reorders (y ∷ ys)).items ≡ y ∷ (in_turn (arranged_runs reorders [] ys)).items
ordered_first reorders y ys e = ap (λ (a : Arrangement). a.items) (starter_runs reorders y ys e)

-- ---- runs

pub in_class_order : (xs : List Item) → IsPermutation xs (run_order mark_class xs)
unfolding run_order
in_class_order xs = by_key_moves mark_class (key_bound mark_class xs) xs (all_below mark_class (key_bound mark_class xs) xs (omega arith))

abbrev has_number : Item → Bool
has_number x = nat_lt 0 (lig_id x)

given_none : (xs : List Item) → AreGiven 0 xs → list_any has_number xs ≡ false
given_none [] h = refl
given_none (x ∷ xs) h = let low = h.0 in ap (λ b. b || list_any has_number xs) (not_above (lig_id x) low) ∙ given_none xs h.1
  where
    not_above : (n : ℕ) → n ≤ 0 → nat_lt 0 n ≡ false
    not_above n le = grind (arith, nat_tests, common_steps, le)

none_given : (xs : List Item) → list_any has_number xs ≡ false → AreGiven 0 xs
none_given [] h = tt
none_given (x ∷ xs) h = by_test (nat_lt 0 (lig_id x)) refl h (none_given xs)
  where
    below : (n : ℕ) → nat_lt 0 n ≡ false → n ≤ 0
    below n e = grind (arith, nat_tests, common_steps, e)

    by_test : (b : Bool) → nat_lt 0 (lig_id x) ≡ b → (b || list_any has_number xs) ≡ false → (list_any has_number xs ≡ false → AreGiven 0 xs) → AreGiven 0 (x ∷ xs)
    by_test true e f next = cc
    by_test false e f next = (below (lig_id x) e, next f)

sorted_given : (run : List Item) → AreGiven 0 run → AreGiven 0 (run_order mark_class run)
sorted_given run h = none_given (run_order mark_class run) (sym (list_any-IsPermutation has_number run (run_order mark_class run) (in_class_order run)) ∙ given_none run h)

sorted_rewrite : (reorders : List Item → Arrangement) (run : List Item) → RewritesRuns reorders → AreGiven 0 run → IsRewrite (length run) (sorted_run reorders run)
sorted_rewrite reorders run rewrites h =
    let sorted = run_order mark_class run in
    let classes = map mark_class run in
    let many : length run ≡ length sorted = sym (length_permutation run sorted (in_class_order run)) in
    let count : length classes ≡ length run = length-map run mark_class in
    let p = (rewrites sorted (sorted_given run h)).0 in
    let left = (rewrites sorted (sorted_given run h)).1 in
    record {
      bounded = λ from n le. ((mark_orders_permute (from + 0) classes n (omega (arith, le, count))).within, p.bounded from n (omega (arith, le, many)));
      lossless = λ from n le. (mark_orders_permute (from + 0) classes n (omega (arith, le, count)), p.lossless from n (omega (arith, le, many)));
      counted = λ from n le. p.counted from n (omega (arith, le, many)) ∙ omega (arith, many, left, le);
      plain = (subst StaysInSpans (sym (sorted_order_is classes)) (order_stays classes), p.plain);
      no_concat = ap (λ es. Sort 0 (sorted_order classes) ∷ es) p.no_concat;
      given = p.given;
    }

run_rewrite : (reorders : List Item → Arrangement) (run : List Item) → RewritesRuns reorders → AreGiven 0 run → IsRewrite (length run) (arranged_run reorders run)
unfolding arranged_run
run_rewrite reorders [] rewrites h = eventless_rewrite [] tt
run_rewrite reorders (x ∷ xs) rewrites h =
    elim (nat_le (length (x ∷ xs)) MAX_COMBINING_MARKS) as (λ b. IsRewrite (length (x ∷ xs)) (if b then sorted_run reorders (x ∷ xs) else eventless_arrangement (x ∷ xs)))
    [ true ↦ sorted_rewrite reorders (x ∷ xs) rewrites h | false ↦ eventless_rewrite (x ∷ xs) h ]

last_given : (run : List Item) (x : Item) → AreGiven 0 run → lig_id x ≤ 0 → AreGiven 0 (run ++ x ∷ [])
last_given [] x h k = (k, tt)
last_given (r ∷ run) x h k = (h.0, last_given run x h.1 k)

runs_rewrite : (reorders : List Item → Arrangement) (run xs : List Item) → RewritesRuns reorders → AreGiven 0 run → AreGiven 0 xs → AreRewrites (length run + length xs) (arranged_runs reorders run xs)
runs_rewrite reorders run [] rewrites h k = rewrites_as (length run) (length run + 0) (arranged_run reorders run ∷ []) (omega arith) (rewrites_one (length run) (arranged_run reorders run) (run_rewrite reorders run rewrites h))
runs_rewrite reorders run (x ∷ xs) rewrites h k = by_test (mark_class x == 0) (runs_rewrite reorders [] xs rewrites tt k.1) (runs_rewrite reorders (run ++ x ∷ []) xs rewrites (last_given run x h k.0) k.1)
  where
    by_test : (b : Bool) → AreRewrites (0 + length xs) (arranged_runs reorders [] xs) → AreRewrites (length (run ++ x ∷ []) + length xs) (arranged_runs reorders (run ++ x ∷ []) xs)
        → AreRewrites (length run + length (x ∷ xs)) (if b then arranged_run reorders run ∷ eventless_arrangement (x ∷ []) ∷ arranged_runs reorders [] xs else arranged_runs reorders (run ++ x ∷ []) xs)
    by_test true next longer =
        rewrites_as (length run + (1 + (0 + length xs))) (length run + length (x ∷ xs)) (arranged_run reorders run ∷ eventless_arrangement (x ∷ []) ∷ arranged_runs reorders [] xs) (omega arith)
        (rewrites_first (length run) (1 + (0 + length xs)) (arranged_run reorders run) (eventless_arrangement (x ∷ []) ∷ arranged_runs reorders [] xs) (run_rewrite reorders run rewrites h)
        (rewrites_first 1 (0 + length xs) (eventless_arrangement (x ∷ [])) (arranged_runs reorders [] xs) (eventless_rewrite (x ∷ []) (k.0, tt)) next))
    by_test false next longer =
        let e = length-append run (x ∷ []) in
        rewrites_as (length (run ++ x ∷ []) + length xs) (length run + length (x ∷ xs)) (arranged_runs reorders (run ++ x ∷ []) xs) (omega (arith, e)) longer

pub ordered_rewrite : (reorders : List Item → Arrangement) (xs : List Item) → RewritesRuns reorders → AreGiven 0 xs → IsRewrite (length xs) (ordered_list reorders xs)
ordered_rewrite reorders xs rewrites h = in_turn_rewrite (length xs) (arranged_runs reorders [] xs) (rewrites_as (0 + length xs) (length xs) (arranged_runs reorders [] xs) (omega arith) (runs_rewrite reorders [] xs rewrites tt h))

-- ---- joiners

-- a character that is no joiner stays
stays : (before x after : Item) → is_joiner x ≡ false → joiner_between before x after ≡ x
stays before x after e = ap (λ b. if b && separates_nothing before after then visible_item x else x) e

shown_after : (before : Item) (zs : List Item) (y : Item) (ys : List Item) → EndsUnjoined (before ∷ zs) → is_joiner y ≡ false → with_joiners_shown before (zs ++ y ∷ ys) ≡ with_joiners_shown before zs ++ y ∷ with_joiners_shown y ys
shown_after before [] y [] ends e = refl
shown_after before [] y (z ∷ ys) ends e = ap (λ w. w ∷ with_joiners_shown y (z ∷ ys)) (stays before y z e)
shown_after before (z ∷ []) y ys ends e = ap (λ w. w ∷ with_joiners_shown z (y ∷ ys)) (stays before z y ends) ∙ ap (λ ws. z ∷ ws) (shown_after z [] y ys ends e)
shown_after before (z ∷ w ∷ zs) y ys ends e = ap (λ ws. joiner_between before z w ∷ ws) (shown_after z (w ∷ zs) y ys ends e)

-- two texts without a joiner between them show joiners each by itself
pub shown_apart : (xs : List Item) (y : Item) (ys : List Item) → EndsUnjoined xs → is_joiner y ≡ false → joiners_shown (xs ++ y ∷ ys) ≡ joiners_shown xs ++ joiners_shown (y ∷ ys)
shown_apart [] y ys ends e = refl
shown_apart (x ∷ xs) y ys ends e = ap (λ ws. x ∷ ws) (shown_after x xs y ys ends e)

joiner_given : (before x after : Item) → lig_id x ≤ 0 → lig_id (joiner_between before x after) ≤ 0
joiner_given before x after h = elim (x.number == 0x034F && separates_nothing before after) as (λ b. lig_id (if b then visible_item x else x) ≤ 0) [ true ↦ h | false ↦ h ]

later_given : (before : Item) (xs : List Item) → AreGiven 0 xs → AreGiven 0 (with_joiners_shown before xs)
later_given before [] h = tt
later_given before (x ∷ []) h = h
later_given before (x ∷ y ∷ ys) h = (joiner_given before x y h.0, later_given x (y ∷ ys) h.1)

pub shown_given : (xs : List Item) → AreGiven 0 xs → AreGiven 0 (joiners_shown xs)
shown_given [] h = tt
shown_given (x ∷ xs) h = (h.0, later_given x xs h.1)

-- ---- how many items there are

sorted_many : (reorders : List Item → Arrangement) (run : List Item) → RewritesRuns reorders → AreGiven 0 run → length (sorted_run reorders run).items ≡ length run
sorted_many reorders run rewrites h = (rewrites (run_order mark_class run) (sorted_given run h)).1 ∙ length_permutation run (run_order mark_class run) (in_class_order run)

run_many : (reorders : List Item → Arrangement) (run : List Item) → RewritesRuns reorders → AreGiven 0 run → length (arranged_run reorders run).items ≡ length run
unfolding arranged_run
run_many reorders [] rewrites h = refl
run_many reorders (x ∷ xs) rewrites h =
    elim (nat_le (length (x ∷ xs)) MAX_COMBINING_MARKS) as (λ b. length (if b then sorted_run reorders (x ∷ xs) else eventless_arrangement (x ∷ xs)).items ≡ length (x ∷ xs)) [ true ↦ sorted_many reorders (x ∷ xs) rewrites h | false ↦ refl ]

runs_many : (reorders : List Item → Arrangement) (run xs : List Item) → RewritesRuns reorders → AreGiven 0 run → AreGiven 0 xs → length (in_turn (arranged_runs reorders run xs)).items ≡ length run + length xs
runs_many reorders run [] rewrites h k =
    let here = run_many reorders run rewrites h in
    let many = length-append (arranged_run reorders run).items [] in
    omega (arith, here, many)
runs_many reorders run (x ∷ xs) rewrites h k = by_test (mark_class x == 0) (runs_many reorders [] xs rewrites tt k.1) (runs_many reorders (run ++ x ∷ []) xs rewrites (last_given run x h k.0) k.1)
  where
    by_test : (b : Bool) → length (in_turn (arranged_runs reorders [] xs)).items ≡ 0 + length xs → length (in_turn (arranged_runs reorders (run ++ x ∷ []) xs)).items ≡ length (run ++ x ∷ []) + length xs
        → length (in_turn (if b then arranged_run reorders run ∷ eventless_arrangement (x ∷ []) ∷ arranged_runs reorders [] xs else arranged_runs reorders (run ++ x ∷ []) xs)).items ≡ length run + length (x ∷ xs)
    by_test true next longer =
        let here = run_many reorders run rewrites h in
        let many = length-append (arranged_run reorders run).items (x ∷ (in_turn (arranged_runs reorders [] xs)).items) in
        omega (arith, here, many, next)
    by_test false next longer = let e = length-append run (x ∷ []) in omega (arith, e, longer)

pub ordered_many : (reorders : List Item → Arrangement) (xs : List Item) → RewritesRuns reorders → AreGiven 0 xs → length (ordered_list reorders xs).items ≡ length xs
ordered_many reorders xs rewrites h = let many = runs_many reorders [] xs rewrites tt h in omega (arith, many)
