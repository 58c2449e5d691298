-- The glyphs of slices and of runs.
use Rattle.std.proofs.Common.{ℕ, zero, suc, ◌≡◌, ◌≤◌, ◌<◌, ◌+◌, ◌-◌, ◌⊎◌, ◌↔◌, Bool, true, false, List, [], ◌∷◌, ◌++◌, Some, length, map, replicate, reverse, get_or, slice_get, arith, inl, inr, refl, sym, ap, subst, ◌∙◌}
use Rattle.std.specs.Prelude.{All, Contains}
use Rattle.std.specs.List.{flat_map}
use Rattle.std.proofs.lemmas.Bool.{cases_lt}
use Rattle.std.proofs.lemmas.List.{get_or-reverse, length-reverse, map-append, reverse-append, reverse-reverse}
use Rattle.std.proofs.lemmas.List.Elements.{All-cons, All-nil}
use Rattle.kuspveli.specs.buffer_parts.Slices.{AreJoined, IsIn}
use Rattle.kuspveli.specs.shape_slices.declared.slices.SourceSlice.{SourceSlice}
use Rattle.kuspveli.specs.shape_slices.Runs as source
use Rattle.caret_model.specs.Stops.{in_text_order}
use Rattle.caret_model.proofs.Joins.{joined_before, joined_rises}
use Rattle.cell_grid.specs.declared.cells.CellRun.{CellRun}
use Rattle.cell_grid.specs.Grids.{HasItsGlyphs}
use Rattle.cell_grid.specs.Walk.{AreTextSlices, run_from, run_with, runs_from}
use Rattle.cell_grid.proofs.Joining.{by_width}

-- glyphs are exactly those whose clusters are among some bytes
abbrev pub Exact : List ℕ → ℕ × ℕ → ℕ × ℕ → Type 0
Exact ns bytes glyphs = (k n : ℕ) → slice_get ns k ≡ Some n → IsIn glyphs k ↔ IsIn bytes n

-- ---- of two ranges, one beside the other

exact_beside : (ns : List ℕ) (a b c i j l : ℕ) → a ≤ b → b ≤ c → i ≤ j → j ≤ l → Exact ns (a, b) (i, j) → Exact ns (b, c) (j, l) → Exact ns (a, c) (i, l)
exact_beside ns a b c i j l ab bc ij jl first second k n at = (there, back)
  where
    there : IsIn (i, l) k → IsIn (a, c) n
    there is = elim (cases_lt k j) [
      | inl less ↦ let has = (first k n at).0 (is.0, less) in let under = has.1 in (has.0, omega (arith, under, bc))
      | inr more ↦ let has = (second k n at).0 (more, is.1) in let over = has.0 in (omega (arith, over, ab), has.1)
    ]

    back : IsIn (a, c) n → IsIn (i, l) k
    back is = elim (cases_lt n b) [
      | inl less ↦ let has = (first k n at).1 (is.0, less) in let under = has.1 in (has.0, omega (arith, under, jl))
      | inr more ↦ let has = (second k n at).1 (more, is.1) in let over = has.0 in (omega (arith, over, ij), has.1)
    ]

-- where the glyphs of the first are to the right
exact_turned : (ns : List ℕ) (a b c i j l : ℕ) → a ≤ b → b ≤ c → i ≤ j → j ≤ l → Exact ns (a, b) (j, l) → Exact ns (b, c) (i, j) → Exact ns (a, c) (i, l)
exact_turned ns a b c i j l ab bc ij jl first second k n at = (there, back)
  where
    there : IsIn (i, l) k → IsIn (a, c) n
    there is = elim (cases_lt k j) [
      | inl less ↦ let has = (second k n at).0 (is.0, less) in let over = has.0 in (omega (arith, over, ab), has.1)
      | inr more ↦ let has = (first k n at).0 (more, is.1) in let under = has.1 in (has.0, omega (arith, under, bc))
    ]

    back : IsIn (a, c) n → IsIn (i, l) k
    back is = elim (cases_lt n b) [
      | inl less ↦ let has = (first k n at).1 (is.0, less) in let over = has.0 in (omega (arith, over, ij), has.1)
      | inr more ↦ let has = (second k n at).1 (more, is.1) in let under = has.1 in (has.0, omega (arith, under, jl))
    ]

-- ---- slices that join

pub contains_cases : {X : Type 0} (x : X) (xs : List X) (y : X) → Contains (x ∷ xs) y → (x ≡ y) ⊎ Contains xs y
contains_cases x xs y (zero, lt, e) = inl e
contains_cases x xs y (suc k, lt, e) = inr (k, omega (arith, lt), e)

module _ {X : Type 0} (f : X → ℕ × ℕ) where
  -- each is between the ends
  pub inside : (from to : ℕ) (ss : List X) (s : X) → AreJoined from to (map f ss) → Contains ss s → (from ≤ (f s).0) × ((f s).0 < (f s).1) × ((f s).1 ≤ to)
  inside from to [] s joined has = let none = has.1 in absurd (omega (arith, none))
  inside from to (r ∷ ss) s joined has = elim (contains_cases r ss s has) [
    | inl same ↦
        let P : X → Type 0 = λ q. (from ≤ (f q).0) × ((f q).0 < (f q).1) × ((f q).1 ≤ to) in
        let first = joined.0 in
        let up = joined_rises (f r).1 to (map f ss) joined.2 in
        let here : P r = (omega (arith, first), joined.1, up) in
        subst P same here
    | inr later ↦ let rest = inside (f r).1 to ss s joined.2 later in let low = rest.0 in let first = joined.0 in let some = joined.1 in (omega (arith, low, first, some), rest.1, rest.2)
  ]

  -- one alone has a number
  pub alone : (from to : ℕ) (ss : List X) (s t : X) (k : ℕ) → AreJoined from to (map f ss) → Contains ss s → Contains ss t → IsIn (f s) k → IsIn (f t) k → s ≡ t
  alone from to [] s t k joined one two in_s in_t = let none = one.1 in absurd (omega (arith, none))
  alone from to (r ∷ ss) s t k joined one two in_s in_t = elim (contains_cases r ss s one) [
    | inl here ↦ elim (contains_cases r ss t two) [
      | inl there ↦ sym here ∙ there
      | inr later ↦ absurd (apart s t here later in_s in_t)
    ]
    | inr later ↦ elim (contains_cases r ss t two) [
      | inl there ↦ absurd (apart t s there later in_t in_s)
      | inr both ↦ alone (f r).1 to ss s t k joined.2 later both in_s in_t
    ]
  ]
    where
      apart : (p q : X) → r ≡ p → Contains ss q → IsIn (f p) k → IsIn (f q) k → ⊥
      apart p q same later in_p in_q =
          let P : X → Type 0 = λ x. IsIn (f x) k in
          let mine = subst P (sym same) in_p in
          let above = (inside (f r).1 to ss q joined.2 later).0 in
          let low = in_q.0 in
          let high = mine.1 in
          omega (arith, above, low, high)

-- ---- from right to left

pub contains_turned : {X : Type 0} (xs : List X) (x : X) → Contains xs x → Contains (reverse xs) x
contains_turned xs x (k, lt, e) =
    let many = length-reverse xs in
    let back : length xs - 1 - (length xs - 1 - k) ≡ k = omega (arith, lt) in
    (length xs - 1 - k, omega (arith, many, lt), get_or-reverse xs (length xs - 1 - k) x (omega (arith, lt)) ∙ ap (λ i. get_or xs i x) back ∙ e)

pub contains_along : (b : Bool) (ss : List SourceSlice) (s : SourceSlice) → Contains ss s → Contains (in_text_order b ss) s
contains_along false ss s has = has
contains_along true ss s has = contains_turned ss s has

pub contains_back : (b : Bool) (ss : List SourceSlice) (s : SourceSlice) → Contains (in_text_order b ss) s → Contains ss s
contains_back false ss s has = has
contains_back true ss s has = let P : List SourceSlice → Type 0 = λ xs. Contains xs s in subst P (reverse-reverse ss) (contains_turned (reverse ss) s has)

-- ---- the slice of a glyph

get_in : (m x : ℕ) (ys : List ℕ) (k n : ℕ) → slice_get (replicate m x ++ ys) k ≡ Some n → ((k < m) × (x ≡ n)) ⊎ ((m ≤ k) × (slice_get ys (k - m) ≡ Some n))
get_in zero x ys k n at = let same : k - 0 ≡ k = omega arith in inr (omega arith, ap (slice_get ys) same ∙ at)
get_in (suc m) x ys zero n at = let same : x ≡ n = cc in inl (omega arith, same)
get_in (suc m) x ys (suc k) n at = elim (get_in m x ys k n at) [
  | inl here ↦ let less = here.0 in inl (omega (arith, less), here.1)
  | inr later ↦ let le = later.0 in let same : suc k - suc m ≡ k - m = omega arith in inr (omega (arith, le), ap (slice_get ys) same ∙ later.1)
]

-- the slice that has a glyph begins at its cluster
pub record IsOwner (ss : List SourceSlice) (k n : ℕ) : Type 0 where
  pub slice : SourceSlice
  pub among : Contains ss slice
  pub has : IsIn (source.glyph_range slice) k
  pub cluster : slice.start ≡ n

owner : (from to : ℕ) (ss : List SourceSlice) (k n : ℕ) → AreJoined from to (map source.glyph_range ss) → slice_get (flat_map source.run_clusters ss) k ≡ Some n → IsOwner ss (from + k) n
owner from to [] k n joined at = cc
owner from to (s ∷ ss) k n joined at =
    let first = joined.0 in
    let some = joined.1 in
    elim (get_in (s.end_glyph - s.first_glyph) s.start (flat_map source.run_clusters ss) k n at) [
      | inl here ↦ let less = here.0 in record { slice = s; among = (0, omega arith, refl); has = (omega (arith, first), omega (arith, less, first, some)); cluster = here.1 }
      | inr later ↦
          let le = later.0 in
          let rest = owner s.end_glyph to ss (k - (s.end_glyph - s.first_glyph)) n joined.2 later.1 in
          let at : s.end_glyph + (k - (s.end_glyph - s.first_glyph)) ≡ from + k = omega (arith, le, first, some) in
          let among = rest.among in
          let lt = among.1 in
          record { slice = rest.slice; among = (suc among.0, omega (arith, lt), among.2); has = subst (IsIn (source.glyph_range rest.slice)) at rest.has; cluster = rest.cluster }
    ]

-- ---- the glyphs of a slice

-- a slice's glyphs are exactly those of its bytes
pub record HasOwn (ns : List ℕ) (s : SourceSlice) : Type 0 where
  pub ordered : s.first_glyph ≤ s.end_glyph
  pub within : s.end_glyph ≤ length ns
  pub bytes : s.start ≤ s.end
  pub exact : Exact ns (source.byte_range s) (source.glyph_range s)

pub own_glyphs : (b : Bool) (ns text : List ℕ) (ss : List SourceSlice) (s : SourceSlice) → AreTextSlices b ns text ss → Contains ss s → HasOwn ns s
own_glyphs b ns text ss s are has = record { ordered = omega (arith, some); within = range.2; bytes = omega (arith, more); exact = λ k n at. (there k n at, back k n at) }
  where
    gs : List SourceSlice
    gs = in_text_order b ss

    range : (0 ≤ s.first_glyph) × (s.first_glyph < s.end_glyph) × (s.end_glyph ≤ length ns)
    range = inside source.glyph_range 0 (length ns) gs s are.glyphs (contains_along b ss s has)

    some : s.first_glyph < s.end_glyph
    some = range.1

    more : s.start < s.end
    more = (inside source.byte_range 0 (length text) ss s are.joined has).1

    own : (k n : ℕ) → slice_get ns k ≡ Some n → IsOwner gs k n
    own k n at = let P : List ℕ → Type 0 = λ ms. slice_get ms k ≡ Some n in let Q : ℕ → Type 0 = λ i. IsOwner gs i n in let none : 0 + k ≡ k = omega arith in subst Q none (owner 0 (length ns) gs k n are.glyphs (subst P (sym are.clusters) at))

    there : (k n : ℕ) → slice_get ns k ≡ Some n → IsIn (source.glyph_range s) k → IsIn (source.byte_range s) n
    there k n at is =
        let one = own k n at in
        let same = alone source.glyph_range 0 (length ns) gs one.slice s k are.glyphs one.among (contains_along b ss s has) one.has is in
        let start : s.start ≡ n = ap (λ (q : SourceSlice). q.start) (sym same) ∙ one.cluster in
        (omega (arith, start), omega (arith, start, more))

    back : (k n : ℕ) → slice_get ns k ≡ Some n → IsIn (source.byte_range s) n → IsIn (source.glyph_range s) k
    back k n at is =
        let one = own k n at in
        let among = contains_back b ss one.slice one.among in
        let wide = (inside source.byte_range 0 (length text) ss one.slice are.joined among).1 in
        let start = one.cluster in
        let here : IsIn (source.byte_range one.slice) n = (omega (arith, start), omega (arith, start, wide)) in
        let same = alone source.byte_range 0 (length text) ss one.slice s n are.joined among has here is in
        let P : SourceSlice → Type 0 = λ q. IsIn (source.glyph_range q) k in
        subst P same one.has

-- ---- the glyphs of runs

-- each slice's glyphs are beside those of the slice before it
abbrev Follow : Bool → ℕ → List SourceSlice → Type 0
Follow b edge [] = Unit {0}
Follow false edge (s ∷ ss) = (s.first_glyph ≡ edge) × Follow false s.end_glyph ss
Follow true edge (s ∷ ss) = (s.end_glyph ≡ edge) × Follow true s.first_glyph ss

follow_forward : (edge to : ℕ) (ss : List SourceSlice) → AreJoined edge to (map source.glyph_range ss) → Follow false edge ss
follow_forward edge to [] joined = tt
follow_forward edge to (s ∷ ss) joined = (joined.0, follow_forward s.end_glyph to ss joined.2)

follow_backward : (edge : ℕ) (ss : List SourceSlice) → AreJoined 0 edge (map source.glyph_range (reverse ss)) → Follow true edge ss
follow_backward edge [] joined = tt
follow_backward edge (s ∷ ss) joined =
    let turned : reverse (s ∷ ss) ≡ reverse ss ++ s ∷ [] = reverse-append (s ∷ []) ss in
    let P : List SourceSlice → Type 0 = λ xs. AreJoined 0 edge (map source.glyph_range xs) in
    let parts = joined_before 0 edge (map source.glyph_range (reverse ss)) (source.glyph_range s) (subst (AreJoined 0 edge) (map-append source.glyph_range (reverse ss) (s ∷ [])) (subst P turned joined)) in
    (parts.1, follow_backward s.first_glyph ss parts.2)

module _ (text ns : List ℕ) where
  forward_runs : (to : ℕ) (r : CellRun) (ss : List SourceSlice) → r.start ≤ r.end → HasItsGlyphs ns r → AreJoined r.end to (map source.byte_range ss) → Follow false r.end_glyph ss → ((s : SourceSlice) → Contains ss s → HasOwn ns s) → All (HasItsGlyphs ns) (runs_from false text r ss)
  forward_runs to r [] up has joined follow own = All-cons (HasItsGlyphs ns) r [] has (All-nil (HasItsGlyphs ns))
  forward_runs to r (s ∷ ss) up has joined follow own =
      let some = joined.1 in
      let here = joined.0 in
      by_width false text (All (HasItsGlyphs ns)) r s ss
      (λ e. forward_runs to (run_with false r s) ss (omega (arith, up, some, here)) longer joined.2 follow.1 later)
      (λ e. All-cons (HasItsGlyphs ns) r (runs_from false text (run_from text r.end_cell s) ss) has (forward_runs to (run_from text r.end_cell s) ss mine.bytes fresh joined.2 follow.1 later))
    where
      mine : HasOwn ns s
      mine = own s (0, omega arith, refl)

      later : (q : SourceSlice) → Contains ss q → HasOwn ns q
      later q (k, lt, e) = own q (suc k, omega (arith, lt), e)

      longer : HasItsGlyphs ns (run_with false r s)
      longer =
          let next = mine.ordered in
          let first = has.ordered in
          let at = follow.0 in
          let here = joined.0 in
          let P : ℕ → Type 0 = λ i. Exact ns (source.byte_range s) (i, s.end_glyph) in
          let Q : ℕ → Type 0 = λ i. Exact ns (i, s.end) (r.end_glyph, s.end_glyph) in
          record { ordered = omega (arith, next, first, at); within = mine.within; exact = exact_beside ns r.start r.end s.end r.first_glyph r.end_glyph s.end_glyph up (let some = joined.1 in omega (arith, some, here)) first (omega (arith, next, at)) has.exact (subst Q here (subst P at mine.exact)) }

      fresh : HasItsGlyphs ns (run_from text r.end_cell s)
      fresh = record { ordered = mine.ordered; within = mine.within; exact = mine.exact }

  backward_runs : (to : ℕ) (r : CellRun) (ss : List SourceSlice) → r.start ≤ r.end → HasItsGlyphs ns r → AreJoined r.end to (map source.byte_range ss) → Follow true r.first_glyph ss → ((s : SourceSlice) → Contains ss s → HasOwn ns s) → All (HasItsGlyphs ns) (runs_from true text r ss)
  backward_runs to r [] up has joined follow own = All-cons (HasItsGlyphs ns) r [] has (All-nil (HasItsGlyphs ns))
  backward_runs to r (s ∷ ss) up has joined follow own =
      let some = joined.1 in
      let here = joined.0 in
      by_width true text (All (HasItsGlyphs ns)) r s ss
      (λ e. backward_runs to (run_with true r s) ss (omega (arith, up, some, here)) longer joined.2 follow.1 later)
      (λ e. All-cons (HasItsGlyphs ns) r (runs_from true text (run_from text r.end_cell s) ss) has (backward_runs to (run_from text r.end_cell s) ss mine.bytes fresh joined.2 follow.1 later))
    where
      mine : HasOwn ns s
      mine = own s (0, omega arith, refl)

      later : (q : SourceSlice) → Contains ss q → HasOwn ns q
      later q (k, lt, e) = own q (suc k, omega (arith, lt), e)

      longer : HasItsGlyphs ns (run_with true r s)
      longer =
          let next = mine.ordered in
          let first = has.ordered in
          let at = follow.0 in
          let here = joined.0 in
          let P : ℕ → Type 0 = λ i. Exact ns (source.byte_range s) (s.first_glyph, i) in
          let Q : ℕ → Type 0 = λ i. Exact ns (i, s.end) (s.first_glyph, r.first_glyph) in
          record { ordered = omega (arith, next, first, at); within = has.within; exact = exact_turned ns r.start r.end s.end s.first_glyph r.first_glyph r.end_glyph up (let some = joined.1 in omega (arith, some, here)) (omega (arith, next, at)) first has.exact (subst Q here (subst P at mine.exact)) }

      fresh : HasItsGlyphs ns (run_from text r.end_cell s)
      fresh = record { ordered = mine.ordered; within = mine.within; exact = mine.exact }

  -- the runs of a text's slices have their glyphs
  pub runs_have_glyphs : (b : Bool) (s : SourceSlice) (ss : List SourceSlice) → AreTextSlices b ns text (s ∷ ss) → All (HasItsGlyphs ns) (runs_from b text (run_from text 0 s) ss)
  runs_have_glyphs false s ss are =
      let mine = own_glyphs false ns text (s ∷ ss) s are (0, omega arith, refl) in
      forward_runs (length text) (run_from text 0 s) ss mine.bytes (record { ordered = mine.ordered; within = mine.within; exact = mine.exact }) are.joined.2 (follow_forward s.end_glyph (length ns) ss are.glyphs.2) (λ q has. own_glyphs false ns text (s ∷ ss) q are (suc has.0, let lt = has.1 in omega (arith, lt), has.2))
  runs_have_glyphs true s ss are =
      let mine = own_glyphs true ns text (s ∷ ss) s are (0, omega arith, refl) in
      backward_runs (length text) (run_from text 0 s) ss mine.bytes (record { ordered = mine.ordered; within = mine.within; exact = mine.exact }) are.joined.2 (follow_backward (length ns) (s ∷ ss) are.glyphs).1 (λ q has. own_glyphs true ns text (s ∷ ss) q are (suc has.0, let lt = has.1 in omega (arith, lt), has.2))
