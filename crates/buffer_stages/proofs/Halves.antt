-- Glyphs cut in halves, none of which cuts a pair.
use Rattle.std.proofs.Common.{ℕ, suc, ◌≡◌, ◌≤◌, ◌<◌, ◌+◌, ◌-◌, Bool, true, false, List, get_or, length, take, drop, arith, ap, sym, subst, ◌∙◌, ◌++◌, append_assoc}
use Rattle.std.specs.Prelude.{slice_range}
use Rattle.std.proofs.lemmas.List.{take-append-drop, drop-drop, drop-take, take-take, length-drop, length-take-le, get_or-take, get_or-drop}
use Rattle.buffer_stages.specs.Fronts.{fronts, with_fronts_moved, StandApart}
use Rattle.buffer_stages.specs.Moves.{with_range_moved}
use Rattle.buffer_stages.specs.Lemmas.Fronted.{IsApart, apart_at, halves_gathered, short_gathered, two_gathered}
use Rattle.buffer_stages.specs.Lemmas.Parts.{range_size}
use Rattle.buffer_glyphs.specs.Lemmas.Glyphs.{cut_out as whole_range}

pub ranged : {X : Type 0} (from to i : ℕ) (d : X) (xs : List X) → i < to - from → get_or (slice_range xs from to) i d ≡ get_or xs (from + i) d
ranged from to i d xs lt = get_or-take (to - from) (drop from xs) i d lt ∙ get_or-drop from xs i d

-- cut between two that are no pair
pub apart_in_range : {X : Type 0} (pair : X → X → Bool) (from middle to : ℕ) (xs : List X) (d : X) → from < middle → middle < to → to ≤ length xs
    → pair (get_or xs (middle - 1) d) (get_or xs middle d) ≡ false → IsApart pair (slice_range xs from middle) (slice_range xs middle to)
apart_in_range pair from middle to xs d lt last fits e =
    let zs = slice_range xs from to in
    let j = middle - from - 1 in
    let size = range_size from to xs (omega (arith, lt, last)) fits in
    let at : from + j ≡ middle - 1 = omega (arith, lt) in
    let next : from + suc j ≡ middle = omega (arith, lt) in
    let first : get_or zs j d ≡ get_or xs (middle - 1) d = ranged from to j d xs (omega (arith, lt, last)) ∙ ap (λ i. get_or xs i d) at in
    let second : get_or zs (suc j) d ≡ get_or xs middle d = ranged from to (suc j) d xs (omega (arith, lt, last)) ∙ ap (λ i. get_or xs i d) next in
    let count : suc j ≡ middle - from = omega (arith, lt) in
    let total : to - from ≡ suc j + (to - middle) = omega (arith, lt, last) in
    let front : take (suc j) zs ≡ slice_range xs from middle = take-take (suc j) (to - from) (drop from xs) (omega (arith, lt, last)) ∙ ap (λ n. take n (drop from xs)) count in
    let behind : drop (suc j) zs ≡ slice_range xs middle to =
    ap (λ n. drop (suc j) (take n (drop from xs))) total ∙ drop-take (suc j) (to - middle) (drop from xs) ∙ ap (take (to - middle)) (drop-drop (suc j) from xs ∙ ap (λ n. drop n xs) next) in
    let cut = apart_at pair zs j d (omega (arith, lt, last, size)) (ap (λ x. pair x (get_or zs (suc j) d)) first ∙ ap (pair (get_or xs (middle - 1) d)) second ∙ e) in
    subst (λ ys. IsApart pair (slice_range xs from middle) ys) behind (subst (λ ys. IsApart pair ys (drop (suc j) zs)) front cut)

-- cut after a pair
pub apart_after : {X : Type 0} (pair : X → X → Bool) (from middle to : ℕ) (xs : List X) (d : X) → StandApart pair → from < middle → middle + 1 < to → to ≤ length xs
    → (t : Bool) → t ≡ pair (get_or xs (middle - 1) d) (get_or xs middle d) → t ≡ true → IsApart pair (slice_range xs from (middle + 1)) (slice_range xs (middle + 1) to)
apart_after pair from middle to xs d apart lt last fits t is f =
    let e : pair (get_or xs (middle - 1) d) (get_or xs middle d) ≡ true = sym is ∙ f in
    let same : middle + 1 - 1 ≡ middle = omega arith in
    apart_in_range pair from (middle + 1) to xs d (omega (arith, lt)) last fits
    (ap (λ i. pair (get_or xs i d) (get_or xs (middle + 1) d)) same ∙ apart (get_or xs (middle - 1) d) (get_or xs middle d) (get_or xs (middle + 1) d) e)

-- two that are a pair
pub pair_gathered : {X : Type 0} (pair : X → X → Bool) (one : X → Bool) (from middle to : ℕ) (xs : List X) (d : X) → middle ≡ from + 1 → to ≡ from + 2 → to ≤ length xs
    → (t : Bool) → t ≡ pair (get_or xs (middle - 1) d) (get_or xs middle d) → t ≡ true → (with_fronts_moved pair one (slice_range xs from to) ≡ slice_range xs from to) × (length (fronts pair one (slice_range xs from to)) ≡ 2)
pair_gathered pair one from middle to xs d at last fits t is f =
    let e : pair (get_or xs (middle - 1) d) (get_or xs middle d) ≡ true = sym is ∙ f in
    let zs = slice_range xs from to in
    let size : length zs ≡ 2 = range_size from to xs (omega (arith, last)) fits ∙ omega (arith, last) in
    let start : from + 0 ≡ middle - 1 = omega (arith, at) in
    let first : get_or zs 0 d ≡ get_or xs (middle - 1) d = ranged from to 0 d xs (omega (arith, last)) ∙ ap (λ i. get_or xs i d) start in
    let second : get_or zs 1 d ≡ get_or xs middle d = ranged from to 1 d xs (omega (arith, last)) ∙ ap (λ i. get_or xs i d) (sym at) in
    two_gathered pair one zs d size (ap (λ x. pair x (get_or zs 1 d)) first ∙ ap (pair (get_or xs (middle - 1) d)) second ∙ e)

pub cut_between : {X : Type 0} (pair : X → X → Bool) (from middle to : ℕ) (xs : List X) (d : X) → from < middle → middle < to → to ≤ length xs
    → (t : Bool) → t ≡ pair (get_or xs (middle - 1) d) (get_or xs middle d) → t ≡ false → IsApart pair (slice_range xs from middle) (slice_range xs middle to)
cut_between pair from middle to xs d lt last fits t is f = apart_in_range pair from middle to xs d lt last fits (sym is ∙ f)

-- ---- all glyphs of a range

pub stays_gathered : {X : Type 0} (pair : X → X → Bool) (one : X → Bool) (from to : ℕ) (xs : List X) → from ≤ to → with_fronts_moved pair one (slice_range xs from to) ≡ slice_range xs from to
    → xs ≡ take from xs ++ with_fronts_moved pair one (slice_range xs from to) ++ drop to xs
stays_gathered pair one from to xs le e = sym (ap (λ ys. take from xs ++ ys ++ drop to xs) e ∙ whole_range from to xs le)

pub short_stays : {X : Type 0} (pair : X → X → Bool) (one : X → Bool) (from to : ℕ) (xs : List X) → from ≤ to → to ≤ length xs → to - from < 2 → xs ≡ take from xs ++ with_fronts_moved pair one (slice_range xs from to) ++ drop to xs
short_stays pair one from to xs le fits lt =
    let size = range_size from to xs le fits in
    stays_gathered pair one from to xs le (short_gathered pair one (slice_range xs from to) (omega (arith, size, lt)))

pub both_gathered : {X : Type 0} (pair : X → X → Bool) (one : X → Bool) (from middle to k m : ℕ) (old first second new : List X) → from ≤ middle → middle ≤ to → to ≤ length old
    → IsApart pair (slice_range old from middle) (slice_range old middle to)
    → first ≡ take from old ++ with_fronts_moved pair one (slice_range old from middle) ++ drop middle old
    → second ≡ take middle first ++ with_fronts_moved pair one (slice_range first middle to) ++ drop to first
    → k ≡ length (fronts pair one (slice_range first middle to)) → m ≡ k
    → new ≡ with_range_moved from (middle - from) m second
    → (new ≡ take from old ++ with_fronts_moved pair one (slice_range old from to) ++ drop to old) × (length (fronts pair one (slice_range old from to)) ≡ length (fronts pair one (slice_range old from middle)) + k)
both_gathered pair one from middle to k m old first second new le last fits apart e f count same is =
    halves_gathered pair one from middle to k old first second new le last fits apart e f count (is ∙ ap (λ n. with_range_moved from (middle - from) n second) same)
