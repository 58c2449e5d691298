-- Equivalent texts: chains of steps, and marks sorted by steps.
use Rattle.std.proofs.Common.{ℕ, zero, suc, ◌≡◌, ◌≢◌, ◌≤◌, ◌<◌, ◌==◌, nat_le, true, false, List, [], ◌∷◌, ◌++◌, filter, append_assoc, Option, Some, None, refl, sym, ap, subst, ◌∙◌, arith, inl, inr, ne_eqb, eq-eqb}
use Rattle.std.proofs.lemmas.Bool.{cases_Bool, cases_eq, cases_order, cond-true, cond-false}
use Rattle.std.proofs.lemmas.Bool.Decides.{nat_tests}
use Rattle.std.proofs.lemmas.List.{append-nil}
use Rattle.buffer_rows.specs.KeyOrder.{of_key, by_key, key_bound}
use Rattle.buffer_unicode_tables.specs.ClassOrder.{run_order, order_after}
use Rattle.buffer_unicode_tables.specs.Expansion.{with_second_piece, by_halves, expansion_by_splits}
use Rattle.buffer_unicode_tables.specs.Lawful.{IsLawful}
use Rattle.buffer_unicode_tables.proofs.Orders.{IsRun}
use Rattle.buffer_unicode_tables.specs.Tables.{Tables, split_of, pair_of, class_of}
use Rattle.buffer_unicode_tables.specs.Texts.{full_expansion, full_text, text_order, IsSplit, IsSwap, IsStep, splits, joins, swaps, AreEquivalent, same, then_step}
use Rattle.buffer_unicode_tables.proofs.Steps.{pairs_keep_order}
use Rattle.buffer_properties.proofs.Runs.{run_append}

pub then_all : (t : Tables) (xs ys zs : List ℕ) → AreEquivalent t xs ys → AreEquivalent t ys zs → AreEquivalent t xs zs
then_all t xs ys _ h same = h
then_all t xs ys _ h (then_step ws zs k s) = then_step ws zs (then_all t xs ys ws h k) s

pub one_step : (t : Tables) (xs ys : List ℕ) → IsStep t xs ys → AreEquivalent t xs ys
one_step t xs ys s = then_step xs ys same s

step_back : (t : Tables) (xs ys : List ℕ) → IsStep t xs ys → IsStep t ys xs
step_back t xs ys (splits s) = joins s
step_back t xs ys (joins s) = splits s
step_back t xs ys (swaps s) =
    swaps (record { front = s.front; first = s.second; second = s.first; back = s.back; first_nonzero = s.second_nonzero; second_nonzero = s.first_nonzero; apart = λ e. s.apart (sym e); is_before = s.is_after; is_after = s.is_before })

pub turned_round : (t : Tables) (xs ys : List ℕ) → AreEquivalent t xs ys → AreEquivalent t ys xs
turned_round t xs _ same = same
turned_round t xs _ (then_step ys zs h s) = then_all t zs ys xs (one_step t zs ys (step_back t ys zs s)) (turned_round t xs ys h)

between : (front xs middle ys back : List ℕ) → front ++ ((xs ++ (middle ++ ys)) ++ back) ≡ (front ++ xs) ++ (middle ++ (ys ++ back))
between front xs middle ys back = simp append_assoc

split_around : (t : Tables) (front xs ys back : List ℕ) → IsSplit t xs ys → IsSplit t (front ++ (xs ++ back)) (front ++ (ys ++ back))
split_around t front xs ys back s = record {
  front = front ++ s.front;
  whole = s.whole;
  first = s.first;
  second = s.second;
  back = s.back ++ back;
  splits = s.splits;
  is_before = ap (λ zs. front ++ (zs ++ back)) s.is_before ∙ between front s.front (s.whole ∷ []) s.back back;
  is_after = ap (λ zs. front ++ (zs ++ back)) s.is_after ∙ between front s.front (with_second_piece s.second (s.first ∷ [])) s.back back;
}

swap_around : (t : Tables) (front xs ys back : List ℕ) → IsSwap t xs ys → IsSwap t (front ++ (xs ++ back)) (front ++ (ys ++ back))
swap_around t front xs ys back s = record {
  front = front ++ s.front;
  first = s.first;
  second = s.second;
  back = s.back ++ back;
  first_nonzero = s.first_nonzero;
  second_nonzero = s.second_nonzero;
  apart = s.apart;
  is_before = ap (λ zs. front ++ (zs ++ back)) s.is_before ∙ between front s.front (s.first ∷ s.second ∷ []) s.back back;
  is_after = ap (λ zs. front ++ (zs ++ back)) s.is_after ∙ between front s.front (s.second ∷ s.first ∷ []) s.back back;
}

step_around : (t : Tables) (front xs ys back : List ℕ) → IsStep t xs ys → IsStep t (front ++ (xs ++ back)) (front ++ (ys ++ back))
step_around t front xs ys back (splits s) = splits (split_around t front xs ys back s)
step_around t front xs ys back (joins s) = joins (split_around t front ys xs back s)
step_around t front xs ys back (swaps s) = swaps (swap_around t front xs ys back s)

-- equivalent texts stay so between others
pub around : (t : Tables) (front xs ys back : List ℕ) → AreEquivalent t xs ys → AreEquivalent t (front ++ (xs ++ back)) (front ++ (ys ++ back))
around t front xs _ back same = same
around t front xs _ back (then_step ys zs h s) = then_step (front ++ (ys ++ back)) (front ++ (zs ++ back)) (around t front xs ys back h) (step_around t front ys zs back s)

pub behind : (t : Tables) (front xs ys : List ℕ) → AreEquivalent t xs ys → AreEquivalent t (front ++ xs) (front ++ ys)
behind t front xs ys h =
    let P : List ℕ → List ℕ → Type 0 = λ a b. AreEquivalent t (front ++ a) (front ++ b) in
    let end_x : xs ++ [] ≡ xs = append-nil xs in
    let end_y : ys ++ [] ≡ ys = append-nil ys in
    subst (λ (a : List ℕ). P a ys) end_x (subst (λ (b : List ℕ). P (xs ++ []) b) end_y (around t front xs ys [] h))

pub side_by_side : (t : Tables) (ws xs ys zs : List ℕ) → AreEquivalent t ws xs → AreEquivalent t ys zs → AreEquivalent t (ws ++ ys) (xs ++ zs)
side_by_side t ws xs ys zs h k = then_all t (ws ++ ys) (xs ++ ys) (xs ++ zs) (around t [] ws xs ys h) (behind t xs ys zs k)

-- each character has a nonzero class, and not that of z
abbrev pub AreApart : (ℕ → ℕ) → ℕ → List ℕ → Type 0
AreApart class k [] = Unit {0}
AreApart class k (w ∷ ws) = (class w ≢ 0) × (class w ≢ k) × AreApart class k ws

-- a mark may pass marks of other classes
pub passes : (t : Tables) (z : ℕ) (ws back : List ℕ) → class_of t z ≢ 0 → AreApart (class_of t) (class_of t z) ws → AreEquivalent t (z ∷ (ws ++ back)) (ws ++ z ∷ back)
passes t z [] back n h = same
passes t z (w ∷ ws) back n h =
    let swap : IsSwap t (z ∷ w ∷ (ws ++ back)) (w ∷ z ∷ (ws ++ back)) = record { front = []; first = z; second = w; back = ws ++ back; first_nonzero = n; second_nonzero = h.0; apart = λ e. h.1 (sym e); is_before = refl; is_after = refl } in
    then_all t (z ∷ w ∷ (ws ++ back)) (w ∷ z ∷ (ws ++ back)) (w ∷ (ws ++ z ∷ back)) (one_step t _ _ (swaps swap)) (behind t (w ∷ []) (z ∷ (ws ++ back)) (ws ++ z ∷ back) (passes t z ws back n h.2))

-- the elements of a class from n on
abbrev at_least : (ℕ → ℕ) → ℕ → List ℕ → List ℕ
at_least class n xs = filter (λ x. nat_le n (class x)) xs

apart_of_class : (class : ℕ → ℕ) (n k : ℕ) (zs : List ℕ) → IsRun class zs → n ≢ k → AreApart class k (of_key class n zs)
apart_of_class class n k [] r apart = tt
apart_of_class class n k (z ∷ zs) r apart =
    elim (cases_eq (class z) n) [
      | inl e ↦
          let at : (class z == n) ≡ true = eq-eqb (class z) n e in
          let P : List ℕ → Type 0 = AreApart class k in
          subst P (sym (cond-true _ _ _ at)) (r.0, (λ f. apart (sym e ∙ f)), apart_of_class class n k zs r.1 apart)
      | inr ne ↦
          let off : (class z == n) ≡ false = ne_eqb (class z) n ne in
          let P : List ℕ → Type 0 = AreApart class k in
          subst P (sym (cond-false _ _ _ off)) (apart_of_class class n k zs r.1 apart)
    ]

-- the marks of the least class come first
least_first : (t : Tables) (n : ℕ) (zs : List ℕ) → IsRun (class_of t) zs → AreEquivalent t (at_least (class_of t) n zs) (of_key (class_of t) n zs ++ at_least (class_of t) (suc n) zs)
least_first t n [] r = same
least_first t n (z ∷ zs) r =
    let ih = least_first t n zs r.1 in
    elim (cases_order (class_of t z) n) [
      | inl e ↦
          let low : nat_le n (class_of t z) ≡ true = grind (arith, nat_tests, e) in
          let at : (class_of t z == n) ≡ true = grind (arith, nat_tests, e) in
          let high : nat_le (suc n) (class_of t z) ≡ false = grind (arith, nat_tests, e) in
          rw (low, at, high) (behind t (z ∷ []) _ _ ih)
      | inr (inl below) ↦
          let low : nat_le n (class_of t z) ≡ false = grind (arith, nat_tests, below) in
          let at : (class_of t z == n) ≡ false = grind (arith, nat_tests, below) in
          let high : nat_le (suc n) (class_of t z) ≡ false = grind (arith, nat_tests, below) in
          rw (low, at, high) ih
      | inr (inr above) ↦
          let low : nat_le n (class_of t z) ≡ true = grind (arith, nat_tests, above) in
          let at : (class_of t z == n) ≡ false = grind (arith, nat_tests, above) in
          let high : nat_le (suc n) (class_of t z) ≡ true = grind (arith, nat_tests, above) in
          let apart : n ≢ class_of t z = omega (arith, above) in
          rw (low, at, high)
          (then_all t _ _ _ (behind t (z ∷ []) _ _ ih) (passes t z (of_key (class_of t) n zs) (at_least (class_of t) (suc n) zs) r.0 (apart_of_class (class_of t) n (class_of t z) zs r.1 apart)))
    ]

all_at_least : (class : ℕ → ℕ) (zs : List ℕ) → at_least class 0 zs ≡ zs
all_at_least class [] = refl
all_at_least class (z ∷ zs) = let at : nat_le 0 (class z) ≡ true = grind (arith, nat_tests) in rw at (ap (λ ys. z ∷ ys) (all_at_least class zs))

none_at_least : (class : ℕ → ℕ) (n : ℕ) (zs : List ℕ) → key_bound class zs ≤ n → at_least class n zs ≡ []
none_at_least class n [] h = refl
none_at_least class n (z ∷ zs) h =
    let below : class z < n = omega (arith, h) in
    let off : nat_le n (class z) ≡ false = grind (arith, nat_tests, below) in
    rw off (none_at_least class n zs (omega (arith, h)))

sorted_below : (t : Tables) (n : ℕ) (run : List ℕ) → IsRun (class_of t) run → AreEquivalent t run (by_key (class_of t) n run ++ at_least (class_of t) n run)
sorted_below t zero run r = let all : at_least (class_of t) 0 run ≡ run = all_at_least (class_of t) run in rw all same
sorted_below t (suc n) run r =
    let joined = append_assoc (by_key (class_of t) n run) (of_key (class_of t) n run) (at_least (class_of t) (suc n) run) in
    rw joined (then_all t _ _ _ (sorted_below t n run r) (behind t (by_key (class_of t) n run) _ _ (least_first t n run r)))

run_sorted : (t : Tables) (run : List ℕ) → IsRun (class_of t) run → AreEquivalent t run (run_order (class_of t) run)
unfolding run_order
run_sorted t run r =
    let n = key_bound (class_of t) run in
    let none : at_least (class_of t) (key_bound (class_of t) run) run ≡ [] = none_at_least (class_of t) (key_bound (class_of t) run) run (omega arith) in
    let end : by_key (class_of t) (key_bound (class_of t) run) run ++ at_least (class_of t) (key_bound (class_of t) run) run ≡ by_key (class_of t) (key_bound (class_of t) run) run = ap (λ zs. by_key (class_of t) (key_bound (class_of t) run) run ++ zs) none ∙ append-nil _ in
    subst (λ (ys : List ℕ). AreEquivalent t run ys) end (sorted_below t (key_bound (class_of t) run) run r)

sorted_after : (t : Tables) (run xs : List ℕ) → IsRun (class_of t) run → AreEquivalent t (run ++ xs) (order_after (class_of t) run xs)
sorted_after t run [] r = let end : run ++ [] ≡ run = append-nil run in rw end (run_sorted t run r)
sorted_after t run (x ∷ xs) r =
    elim (cases_eq (class_of t x) 0) [
      | inl z ↦
          let at : (class_of t x == 0) ≡ true = eq-eqb (class_of t x) 0 z in
          rw at (side_by_side t run (run_order (class_of t) run) (x ∷ xs) (x ∷ order_after (class_of t) [] xs) (run_sorted t run r) (behind t (x ∷ []) xs (order_after (class_of t) [] xs) (sorted_after t [] xs tt)))
      | inr n ↦
          let off : (class_of t x == 0) ≡ false = ne_eqb (class_of t x) 0 n in
          let joined : (run ++ x ∷ []) ++ xs ≡ run ++ x ∷ xs = append_assoc run (x ∷ []) xs in
          rw off (subst (λ (ys : List ℕ). AreEquivalent t ys (order_after (class_of t) (run ++ x ∷ []) xs)) joined (sorted_after t (run ++ x ∷ []) xs (run_append (class_of t) run (x ∷ []) r (n, tt))))
    ]

-- a text is equivalent to its class order
pub order_is_equivalent : (t : Tables) (xs : List ℕ) → AreEquivalent t xs (text_order t xs)
order_is_equivalent t xs = sorted_after t [] xs tt

-- a character is equivalent to its split
pub split_is_equivalent : (t : Tables) (u a b : ℕ) → split_of t u ≡ Some (a, b) → AreEquivalent t (u ∷ []) (with_second_piece b (a ∷ []))
split_is_equivalent t u a b s =
    let end : with_second_piece b (a ∷ []) ++ [] ≡ with_second_piece b (a ∷ []) = append-nil (with_second_piece b (a ∷ [])) in
    let split : IsSplit t (u ∷ []) (with_second_piece b (a ∷ [])) = record { front = []; whole = u; first = a; second = b; back = []; splits = s; is_before = refl; is_after = sym end } in
    one_step t _ _ (splits split)

pub followed_alike : (t : Tables) (b : ℕ) (xs ys : List ℕ) → AreEquivalent t xs ys → AreEquivalent t (with_second_piece b xs) (with_second_piece b ys)
followed_alike t b xs ys h =
    elim (cases_Bool (b == 0)) [
      | inl none ↦ rw none h
      | inr some ↦ rw some (around t [] xs ys (b ∷ []) h)
    ]

pieces_equivalent : (t : Tables) (expand : ℕ → List ℕ) (u : ℕ) (o : Option (ℕ × ℕ)) → split_of t u ≡ o → ((a : ℕ) → AreEquivalent t (a ∷ []) (expand a)) → AreEquivalent t (u ∷ []) (by_halves expand u o)
pieces_equivalent t expand u None s h = same
pieces_equivalent t expand u (Some (a, b)) s h = then_all t _ _ _ (split_is_equivalent t u a b s) (followed_alike t b (a ∷ []) (expand a) (h a))

expansion_equivalent : (t : Tables) (depth u : ℕ) → AreEquivalent t (u ∷ []) (expansion_by_splits (split_of t) depth u)
unfolding expansion_by_splits
expansion_equivalent t zero u = same
expansion_equivalent t (suc depth) u = pieces_equivalent t (expansion_by_splits (split_of t) depth) u (split_of t u) refl (λ a. expansion_equivalent t depth a)

-- a text is equivalent to its full expansion
pub expansion_is_equivalent : (t : Tables) (us : List ℕ) → AreEquivalent t us (full_text t us)
expansion_is_equivalent t [] = same
expansion_is_equivalent t (u ∷ us) = side_by_side t (u ∷ []) (full_expansion t u) us (full_text t us) (expansion_equivalent t 8 u) (expansion_is_equivalent t us)

-- texts whose full expansions have one class order are equivalent
pub one_order_is_equivalent : (t : Tables) (us vs : List ℕ) → text_order t (full_text t us) ≡ text_order t (full_text t vs) → AreEquivalent t us vs
one_order_is_equivalent t us vs e =
    let ordered = λ (xs : List ℕ). then_all t xs (full_text t xs) (text_order t (full_text t xs)) (expansion_is_equivalent t xs) (order_is_equivalent t (full_text t xs)) in
    let first : AreEquivalent t us (text_order t (full_text t vs)) = subst (λ (zs : List ℕ). AreEquivalent t us zs) e (ordered us) in
    then_all t us (text_order t (full_text t vs)) vs first (turned_round t vs (text_order t (full_text t vs)) (ordered vs))

-- a pair is equivalent to what it composes to
pub pair_is_equivalent : (t : Tables) (a b u : ℕ) → IsLawful t → pair_of t a b ≡ Some u → AreEquivalent t (a ∷ b ∷ []) (u ∷ [])
pair_is_equivalent t a b u lawful e = one_order_is_equivalent t (a ∷ b ∷ []) (u ∷ []) (sym (pairs_keep_order t lawful [] [] a b u e))
