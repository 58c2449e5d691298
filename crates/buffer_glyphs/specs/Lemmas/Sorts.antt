-- A sort whose spans were united leaves the numbers as they are.
use Rattle.std.proofs.Common.{ℕ, zero, suc, ◌≡◌, ◌≤◌, ◌<◌, ◌+◌, ◌-◌, ◌⊎◌, inl, inr, Bool, true, false, nat_lt, ◌==◌, if◌then◌else◌, List, [], ◌∷◌, Option, Some, None, length, map, take, drop, arith, refl, ap, sym, subst, ◌∙◌}
use Rattle.std.specs.Prelude.{slice_get, unwrap_or, slice_index_or as get_or, nat_le, ◌++◌, ◌&&◌}
use Rattle.std.specs.List.{list_all}
use Rattle.std.proofs.lemmas.Bool.Decides.{nat_tests}
use Rattle.std.proofs.lemmas.Grind.{common_steps}
use Rattle.std.proofs.lemmas.List.{take-append-drop}
use Rattle.std.proofs.lemmas.Option.{slice_get_within, slice_get-get_or}
use Rattle.buffer_glyphs.specs.Parts.{range_of}
use Rattle.buffer_glyphs.specs.Merges.{merged_number, merged_numbers}
use Rattle.buffer_glyphs.specs.Origins.{Span, is_seam, spans_from, spans, picked_elements, with_range_arranged}
use Rattle.buffer_glyphs.specs.Events.{StaysInSpans}
use Rattle.buffer_glyphs.specs.Lemmas.Numbers.{Has, has_here, has_more}
use Rattle.buffer_glyphs.specs.Lemmas.Merges.{merged_in}
use Rattle.buffer_facts.proofs.Truth.{first_true as and_first, second_true as and_second}

-- what the merges of spans make of numbers
abbrev pub spans_united : ℕ → List Span → List ℕ → List ℕ
spans_united at [] ns = ns
spans_united at (s ∷ ss) ns = spans_united at ss (merged_numbers (range_of (at + s.from) (at + s.to) ns) ns)

-- where both indices have a number, it is the same
abbrev AreSame : ℕ → ℕ → List ℕ → Type 0
AreSame a b ns = (x y : ℕ) → slice_get ns a ≡ Some x → slice_get ns b ≡ Some y → x ≡ y

got_map : (f : ℕ → ℕ) (ns : List ℕ) (i x : ℕ) → slice_get (map f ns) i ≡ Some x → (w : ℕ) × (slice_get ns i ≡ Some w) × (f w ≡ x)
got_map f [] i x e = cc
got_map f (n ∷ ns) zero x e = (n, refl, cc)
got_map f (n ∷ ns) (suc i) x e = got_map f ns i x e

map_same : (f : ℕ → ℕ) (a b : ℕ) (ns : List ℕ) → AreSame a b ns → AreSame a b (map f ns)
map_same f a b ns h x y at_a at_b =
    let p = got_map f ns a x at_a in
    let q = got_map f ns b y at_b in
    sym p.2 ∙ ap f (h p.0 q.0 p.1 q.1) ∙ q.2

united_same : (at : ℕ) (ss : List Span) (a b : ℕ) (ns : List ℕ) → AreSame a b ns → AreSame a b (spans_united at ss ns)
united_same at [] a b ns h = h
united_same at (s ∷ ss) a b ns h = united_same at ss a b (merged_numbers (range_of (at + s.from) (at + s.to) ns) ns) (map_same (merged_number (range_of (at + s.from) (at + s.to) ns)) a b ns h)

got_drop : {X : Type 0} (n : ℕ) (xs : List X) (i : ℕ) → slice_get (drop n xs) i ≡ slice_get xs (n + i)
got_drop zero xs i = ap (slice_get xs) (omega arith)
got_drop (suc n) [] i = refl
got_drop (suc n) (x ∷ xs) i = let there : suc n + i ≡ suc (n + i) = omega arith in got_drop n xs i ∙ ap (slice_get (x ∷ xs)) (sym there)

-- an element among the first ones is in the list
got_first : {X : Type 0} (n : ℕ) (xs : List X) (i : ℕ) (x : X) → slice_get (take n xs) i ≡ Some x → slice_get xs i ≡ Some x
got_first zero xs i x e = cc
got_first (suc n) [] i x e = cc
got_first (suc n) (y ∷ ys) zero x e = e
got_first (suc n) (y ∷ ys) (suc i) x e = got_first n ys i x e

got_taken : {X : Type 0} (n : ℕ) (xs : List X) (i : ℕ) (x : X) → i < n → slice_get xs i ≡ Some x → slice_get (take n xs) i ≡ Some x
got_taken zero xs i x lt e = absurd (omega arith)
got_taken (suc n) [] i x lt e = e
got_taken (suc n) (y ∷ ys) zero x lt e = e
got_taken (suc n) (y ∷ ys) (suc i) x lt e = got_taken n ys i x (omega arith) e

got_has : (ns : List ℕ) (i x : ℕ) → slice_get ns i ≡ Some x → Has ns x
got_has [] i x e = cc
got_has (n ∷ ns) zero x e = let same : n ≡ x = cc in subst (Has (n ∷ ns)) same (has_here n ns)
got_has (n ∷ ns) (suc i) x e = has_more n x ns (got_has ns i x e)

range_has : (from to a x : ℕ) (ns : List ℕ) → from ≤ a → a < to → slice_get ns a ≡ Some x → Has (range_of from to ns) x
range_has from to a x ns le lt e =
    let there : from + (a - from) ≡ a = omega arith in
    let here : slice_get (drop from ns) (a - from) ≡ Some x = got_drop from ns (a - from) ∙ ap (slice_get ns) there ∙ e in
    got_has (range_of from to ns) (a - from) x (got_taken (to - from) (drop from ns) (a - from) x (omega arith) here)

-- a merge makes the numbers of its range one
range_same : (from to a b : ℕ) (ns : List ℕ) → from ≤ a → a < to → from ≤ b → b < to → AreSame a b (merged_numbers (range_of from to ns) ns)
range_same from to a b ns la ha lb hb x y at_a at_b =
    let range = range_of from to ns in
    let p = got_map (merged_number range) ns a x at_a in
    let q = got_map (merged_number range) ns b y at_b in
    sym p.2 ∙ merged_in range p.0 (range_has from to a p.0 ns la ha p.1) ∙ sym (merged_in range q.0 (range_has from to b q.0 ns lb hb q.1)) ∙ q.2

-- neighbours between which no seam is get one number
unseamed_same : (at : ℕ) (order : List ℕ) (left begin index t : ℕ) (ns : List ℕ) → begin ≤ index → index + left ≡ length order → is_seam order (length order) ≡ true → (begin ≡ index) ⊎ (is_seam order index ≡ false)
    → begin ≤ t → t + 1 < length order → is_seam order (t + 1) ≡ false → AreSame (at + t) (at + (t + 1)) (spans_united at (spans_from order begin index left) ns)
unseamed_same at order zero begin index t ns le total whole begun low high off =
    let end : index ≡ length order = omega arith in
    elim begun [
      | inl same ↦ absurd (omega arith)
      | inr onward ↦ let closed : is_seam order index ≡ true = ap (is_seam order) end ∙ whole in cc
    ]
unseamed_same at order (suc left) begin index t ns le total whole begun low high off =
    by_seam (is_seam order (index + 1)) refl
    (λ ms later. unseamed_same at order left (index + 1) (index + 1) t ms (omega arith) (omega arith) whole (inl refl) later high off)
    (λ onward. unseamed_same at order left begin (index + 1) t ns (omega arith) (omega arith) whole (inr onward) low high off)
  where
    before : (ms : List ℕ) → t ≤ index → is_seam order (index + 1) ≡ true → AreSame (at + t) (at + (t + 1)) (merged_numbers (range_of (at + begin) (at + (index + 1)) ms) ms)
    before ms near on =
        let other : t < index = by_last (t == index) refl in
        range_same (at + begin) (at + (index + 1)) (at + t) (at + (t + 1)) ms (omega arith) (omega arith) (omega arith) (omega arith)
      where
        by_last : (b : Bool) → (t == index) ≡ b → t < index
        by_last true e = let same : t ≡ index = grind (arith, common_steps, e) in let closed : is_seam order (t + 1) ≡ true = ap (λ n. is_seam order (n + 1)) same ∙ on in cc
        by_last false e = grind (arith, common_steps, e)

    by_seam : (b : Bool) → is_seam order (index + 1) ≡ b
        → ((ms : List ℕ) → index + 1 ≤ t → AreSame (at + t) (at + (t + 1)) (spans_united at (spans_from order (index + 1) (index + 1) left) ms))
        → (is_seam order (index + 1) ≡ false → AreSame (at + t) (at + (t + 1)) (spans_united at (spans_from order begin (index + 1) left) ns))
        → AreSame (at + t) (at + (t + 1)) (spans_united at (if b then record { from = begin; to = index + 1 } ∷ spans_from order (index + 1) (index + 1) left else spans_from order begin (index + 1) left) ns)
    by_seam true on later onward =
        let ms = merged_numbers (range_of (at + begin) (at + (index + 1)) ns) ns in
        by_half (nat_lt index t) refl
      where
        by_half : (b : Bool) → nat_lt index t ≡ b → AreSame (at + t) (at + (t + 1)) (spans_united at (spans_from order (index + 1) (index + 1) left) (merged_numbers (range_of (at + begin) (at + (index + 1)) ns) ns))
        by_half true e = later (merged_numbers (range_of (at + begin) (at + (index + 1)) ns) ns) (grind (arith, nat_tests, e))
        by_half false e = united_same at (spans_from order (index + 1) (index + 1) left) (at + t) (at + (t + 1)) (merged_numbers (range_of (at + begin) (at + (index + 1)) ns) ns) (before ns (grind (arith, nat_tests, e)) on)
    by_seam false off later onward = onward off

got_before : (ms : List ℕ) (i y : ℕ) → slice_get ms (i + 1) ≡ Some y → (w : ℕ) × (slice_get ms i ≡ Some w)
got_before ms i y e = let lt = slice_get_within ms (i + 1) y e in (get_or ms i y, slice_get-get_or ms i y (omega (arith, lt)))

-- along indices each of which has the number of the next
chain_same : (at low d : ℕ) (ms : List ℕ) → ((t : ℕ) → low ≤ t → t < low + d → AreSame (at + t) (at + (t + 1)) ms) → AreSame (at + low) (at + (low + d)) ms
chain_same at low zero ms h x y at_low at_high =
    let there : at + (low + 0) ≡ at + low = omega arith in
    let same : Some x ≡ Some y = sym at_low ∙ ap (slice_get ms) (sym there) ∙ at_high in
    cc
chain_same at low (suc d) ms h x y at_low at_high =
    let there : at + (low + d) + 1 ≡ at + (low + suc d) = omega arith in
    let next : at + (low + d + 1) ≡ at + (low + suc d) = omega arith in
    let w = got_before ms (at + (low + d)) y (ap (slice_get ms) there ∙ at_high) in
    chain_same at low d ms (λ t l r. h t l (omega (arith, r))) x w.0 at_low w.1 ∙ h (low + d) (omega arith) (omega arith) w.0 y w.1 (ap (slice_get ms) next ∙ at_high)

all_got : (q : ℕ → Bool) (xs : List ℕ) (i x : ℕ) → list_all q xs ≡ true → slice_get xs i ≡ Some x → q x ≡ true
all_got q [] i x all e = cc
all_got q (y ∷ ys) zero x all e = let same : y ≡ x = cc in ap q (sym same) ∙ and_first (q y) (list_all q ys) all
all_got q (y ∷ ys) (suc i) x all e = all_got q ys i x (and_second (q y) (list_all q ys) all) e

-- the elements that an order puts before a seam were before it
seam_before : (order : List ℕ) (k i j : ℕ) → is_seam order k ≡ true → i < k → slice_get order i ≡ Some j → j < k
seam_before order k i j seam lt e =
    let less : nat_lt j k ≡ true = all_got (λ n. nat_lt n k) (take k order) i j seam (got_taken k order i j lt e) in
    grind (arith, nat_tests, less)

-- no seam is between an index and the index of its element before the sort
none_up : (order : List ℕ) (i j t : ℕ) → slice_get order i ≡ Some j → i ≤ t → t < j → is_seam order (t + 1) ≡ false
none_up order i j t e low high = by_seam (is_seam order (t + 1)) refl
  where
    by_seam : (b : Bool) → is_seam order (t + 1) ≡ b → b ≡ false
    by_seam true on = let less = seam_before order (t + 1) i j on (omega (arith, low)) e in absurd (omega (arith, less, high))
    by_seam false off = refl

none_down : (order : List ℕ) (i j t : ℕ) → StaysInSpans order → slice_get order i ≡ Some j → j ≤ t → t < i → is_seam order (t + 1) ≡ false
none_down order i j t s e low high = by_seam (is_seam order (t + 1)) refl
  where
    by_seam : (b : Bool) → is_seam order (t + 1) ≡ b → b ≡ false
    by_seam true on = let past = s.stays i j (t + 1) e on (omega (arith, high)) in absurd (omega (arith, past, low))
    by_seam false off = refl

picked_same : (all order xs : List ℕ) → ((i j x y : ℕ) → slice_get order i ≡ Some j → slice_get xs i ≡ Some x → slice_get all j ≡ Some y → y ≡ x) → picked_elements all order xs ≡ xs
picked_same all [] xs h = refl
picked_same all (j ∷ order) [] h = refl
picked_same all (j ∷ order) (x ∷ xs) h =
    ap (λ y. y ∷ picked_elements all order xs) (got (slice_get all j) refl) ∙ ap (λ ys. x ∷ ys) (picked_same all order xs (λ i k y z a b c. h (suc i) k y z a b c))
  where
    got : (o : Option ℕ) → slice_get all j ≡ o → unwrap_or o x ≡ x
    got None e = refl
    got (Some y) e = h 0 j x y refl refl e

span_same : (at : ℕ) (order ns : List ℕ) (i j x y : ℕ) → StaysInSpans order → slice_get order i ≡ Some j → slice_get (spans_united at (spans order) ns) (at + i) ≡ Some x → slice_get (spans_united at (spans order) ns) (at + j) ≡ Some y → y ≡ x
span_same at order ns i j x y s e at_i at_j =
    let n = length order in
    let within = slice_get_within order i j e in
    let last = seam_before order n i j s.whole within e in
    by_half (nat_le i j) refl within last
  where
    step : (t : ℕ) → t + 1 < length order → is_seam order (t + 1) ≡ false → AreSame (at + t) (at + (t + 1)) (spans_united at (spans order) ns)
    step t lt off = unseamed_same at order (length order) 0 0 t ns (omega arith) (omega arith) s.whole (inl refl) (omega arith) lt off

    by_half : (b : Bool) → nat_le i j ≡ b → i < length order → j < length order → y ≡ x
    by_half true le within last =
        let up : i ≤ j = grind (arith, nat_tests, le) in
        let there : at + (i + (j - i)) ≡ at + j = omega (arith, up) in
        sym (chain_same at i (j - i) (spans_united at (spans order) ns) (λ t low high. step t (omega (arith, up, last, high)) (none_up order i j t e low (omega (arith, up, high)))) x y at_i (ap (slice_get (spans_united at (spans order) ns)) there ∙ at_j))
    by_half false le within last =
        let down : j ≤ i = grind (arith, nat_tests, le) in
        let there : at + (j + (i - j)) ≡ at + i = omega (arith, down) in
        chain_same at j (i - j) (spans_united at (spans order) ns) (λ t low high. step t (omega (arith, down, within, high)) (none_down order i j t s e low (omega (arith, down, high)))) y x at_j (ap (slice_get (spans_united at (spans order) ns)) there ∙ at_i)

-- what united spans leave stays as it is in that order
pub sorted_alike : (at : ℕ) (order ns : List ℕ) → StaysInSpans order → with_range_arranged at order (spans_united at (spans order) ns) ≡ spans_united at (spans order) ns
sorted_alike at order ns s =
    let ms = spans_united at (spans order) ns in
    ap (λ ks. take at ms ++ ks) (picked_same (take (length order) (drop at ms)) order (drop at ms) (λ i j x y e at_i at_j. span_same at order ns i j x y s e (sym (got_drop at ms i) ∙ at_i) (sym (got_drop at ms j) ∙ got_first (length order) (drop at ms) j y at_j)))
    ∙ take-append-drop at ms
