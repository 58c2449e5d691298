-- The runs of slices.
use Rattle.std.proofs.Common.{ℕ, zero, suc, ◌≡◌, ◌≤◌, ◌<◌, ◌+◌, ◌-◌, ◌*◌, ◌==◌, ◌||◌, Bool, true, false, nat_lt, if◌then◌else◌, List, [], ◌∷◌, ◌++◌, filter, length, map, drop, get_or, slice_get, append_assoc, arith, refl, sym, ap, cond, subst, ◌∙◌}
use Rattle.std.specs.Prelude.{All}
use Rattle.std.proofs.lemmas.List.{drop_more}
use Rattle.std.proofs.lemmas.List.Elements.{All-cons, All-head, All-nil, All-tail}
use Rattle.buffer_facts.proofs.Numbers.{same_by_test, test_of_apart, test_of_less, test_of_not_less, test_of_same}
use Rattle.buffer_facts.proofs.Truth.{or_first}
use Rattle.kuspveli.specs.buffer_parts.Slices.{AreJoined}
use Rattle.kuspveli.specs.shape_slices.declared.slices.SourceSlice.{SourceSlice}
use Rattle.kuspveli.specs.shape_slices.Runs as source
use Rattle.cell_grid.specs.declared.cells.CellRun.{CellRun}
use Rattle.cell_grid.specs.Grids.{AreCells, byte_range, cell_range, end_of_runs, end_or_none}
use Rattle.cell_grid.specs.Walk.{IsSliceAdded, run_from, run_with, runs_from, runs_of}
use Rattle.cell_grid.specs.Widths.{begins_run, run_starts, slice_width}
use Rattle.cell_grid.proofs.Widths.{IsStep}

abbrev pub start_of : CellRun → ℕ
start_of r = r.start

module _ (b : Bool) (text : List ℕ) where
  abbrev width : SourceSlice → ℕ
  width s = slice_width text (source.byte_range s)

  -- a run, and those of the next slices, by whether the first of these takes no cell
  abbrev runs_by : CellRun → SourceSlice → List SourceSlice → Bool → List CellRun
  runs_by r s ss t = if t then runs_from b text (run_with b r s) ss else r ∷ runs_from b text (run_from text r.end_cell s) ss

  -- what holds of the runs of a run and the next slice, whichever way this is added
  pub by_width : (P : List CellRun → Type 0) (r : CellRun) (s : SourceSlice) (ss : List SourceSlice) → ((width s == 0) ≡ true → P (runs_from b text (run_with b r s) ss)) → ((width s == 0) ≡ false → P (r ∷ runs_from b text (run_from text r.end_cell s) ss))
      → P (runs_from b text r (s ∷ ss))
  by_width P r s ss longer next = by_test (width s == 0) refl
    where
      by_test : (t : Bool) → (width s == 0) ≡ t → P (runs_by r s ss t)
      by_test true e = longer e
      by_test false e = next e

  -- ---- their bytes

  pub bytes_join : (from to : ℕ) (r : CellRun) (ss : List SourceSlice) → r.start ≡ from → r.start < r.end → AreJoined r.end to (map source.byte_range ss) → AreJoined from to (map byte_range (runs_from b text r ss))
  bytes_join from to r [] first some joined = (first, some, joined)
  bytes_join from to r (s ∷ ss) first some joined =
      by_width (λ rs. AreJoined from to (map byte_range rs)) r s ss
      (λ e. let next = joined.0 in let more = joined.1 in bytes_join from to (run_with b r s) ss first (omega (arith, some, next, more)) joined.2)
      (λ e. (first, some, bytes_join r.end to (run_from text r.end_cell s) ss joined.0 joined.1 joined.2))

  -- ---- where they begin

  positive : (n : ℕ) → (n == 0) ≡ false → 0 < n
  positive zero e = cc
  positive (suc n) e = omega arith

  -- whether a run begins with a slice after byte 0
  begins_if : (s : ℕ × ℕ) (t : Bool) → 0 < s.0 → (slice_width text s == 0) ≡ t → begins_run text s ≡ (if t then false else true)
  begins_if s true later none = ap (λ e. e || nat_lt 0 (slice_width text s)) (test_of_apart s.0 0 (λ same. omega (arith, later, same))) ∙ test_of_not_less 0 (slice_width text s) (let same = same_by_test (slice_width text s) 0 none in omega (arith, same))
  begins_if s false later some = ap (λ e. e || nat_lt 0 (slice_width text s)) (test_of_apart s.0 0 (λ same. omega (arith, later, same))) ∙ test_of_less 0 (slice_width text s) (positive (slice_width text s) some)

  starts_with : (s : ℕ × ℕ) (ss : List (ℕ × ℕ)) (t : Bool) → begins_run text s ≡ t → run_starts text (s ∷ ss) ≡ (if t then s.0 ∷ run_starts text ss else run_starts text ss)
  starts_with s ss true e = ap (λ c. map (λ (q : ℕ × ℕ). q.0) (cond c (s ∷ filter (begins_run text) ss) (filter (begins_run text) ss))) e
  starts_with s ss false e = ap (λ c. map (λ (q : ℕ × ℕ). q.0) (cond c (s ∷ filter (begins_run text) ss) (filter (begins_run text) ss))) e

  starts_from : (to : ℕ) (r : CellRun) (ss : List SourceSlice) → 0 < r.end → AreJoined r.end to (map source.byte_range ss) → map start_of (runs_from b text r ss) ≡ r.start ∷ run_starts text (map source.byte_range ss)
  starts_from to r [] later joined = refl
  starts_from to r (s ∷ ss) later joined =
      let at = joined.0 in
      let some = joined.1 in
      let next : 0 < s.start = omega (arith, later, at) in
      let more : 0 < s.end = omega (arith, some) in
      by_width (λ rs. map start_of rs ≡ r.start ∷ run_starts text (map source.byte_range (s ∷ ss))) r s ss
      (λ e. starts_from to (run_with b r s) ss more joined.2 ∙ ap (λ ns. r.start ∷ ns) (sym (starts_with (source.byte_range s) (map source.byte_range ss) false (begins_if (source.byte_range s) true next e))))
      (λ e.
      ap (λ ns. r.start ∷ ns)
      (starts_from to (run_from text r.end_cell s) ss more joined.2 ∙ sym (starts_with (source.byte_range s) (map source.byte_range ss) true (begins_if (source.byte_range s) false next e))))

  pub starts_are : (to : ℕ) (ss : List SourceSlice) → AreJoined 0 to (map source.byte_range ss) → map start_of (runs_of b text ss) ≡ run_starts text (map source.byte_range ss)
  starts_are to [] joined = refl
  starts_are to (s ∷ ss) joined =
      starts_from to (run_from text 0 s) ss (let some = joined.1 in omega (arith, some)) joined.2
      ∙ sym (starts_with (source.byte_range s) (map source.byte_range ss) true (or_first (s.start == 0) (nat_lt 0 (width s)) (test_of_same s.start 0 joined.0)))

  -- ---- their cells

  module _ (W : ℕ → ℕ) where
    -- a run has the cells that W counts
    abbrev pub HasCellsBy : CellRun → Type 0
    HasCellsBy r = (r.first_cell ≡ W r.start) × (r.end_cell ≡ W r.end)

    -- the cells of slices are those that W counts
    abbrev pub AreSteps : List SourceSlice → Type 0
    AreSteps ss = All (IsStep W text) (map source.byte_range ss)

    first_step : (s : SourceSlice) (ss : List SourceSlice) → AreSteps (s ∷ ss) → W s.end ≡ W s.start + width s
    first_step s ss steps = All-head (IsStep W text) (source.byte_range s) (map source.byte_range ss) steps

    next_steps : (s : SourceSlice) (ss : List SourceSlice) → AreSteps (s ∷ ss) → AreSteps ss
    next_steps s ss steps = All-tail (IsStep W text) (source.byte_range s) (map source.byte_range ss) steps

    -- a run has them with a slice that takes none, and so has the run of the next slice
    longer_has : (r : CellRun) (s : SourceSlice) → HasCellsBy r → s.start ≡ r.end → W s.end ≡ W s.start + width s → (width s == 0) ≡ true → HasCellsBy (run_with b r s)
    longer_has r s has at step e =
        let none = same_by_test (width s) 0 e in
        let here : r.end_cell ≡ W s.start = has.1 ∙ ap W (sym at) in
        (has.0, omega (arith, here, step, none))

    next_has : (r : CellRun) (s : SourceSlice) → HasCellsBy r → s.start ≡ r.end → W s.end ≡ W s.start + width s → HasCellsBy (run_from text r.end_cell s)
    next_has r s has at step = let here : r.end_cell ≡ W s.start = has.1 ∙ ap W (sym at) in (here, omega (arith, here, step))

    pub cells_from : (to : ℕ) (r : CellRun) (ss : List SourceSlice) → HasCellsBy r → AreJoined r.end to (map source.byte_range ss) → AreSteps ss → All HasCellsBy (runs_from b text r ss)
    cells_from to r [] has joined steps = All-cons HasCellsBy r [] has (All-nil HasCellsBy)
    cells_from to r (s ∷ ss) has joined steps =
        by_width (All HasCellsBy) r s ss
        (λ e. cells_from to (run_with b r s) ss (longer_has r s has joined.0 (first_step s ss steps) e) joined.2 (next_steps s ss steps))
        (λ e. All-cons HasCellsBy r (runs_from b text (run_from text r.end_cell s) ss) has (cells_from to (run_from text r.end_cell s) ss (next_has r s has joined.0 (first_step s ss steps)) joined.2 (next_steps s ss steps)))

    -- each after the one before it, where the first has some
    cells_join : (to : ℕ) (r : CellRun) (ss : List SourceSlice) → HasCellsBy r → r.first_cell < r.end_cell → AreJoined r.end to (map source.byte_range ss) → AreSteps ss → AreJoined r.first_cell (W to) (map cell_range (runs_from b text r ss))
    cells_join to r [] has some joined steps = (refl, some, has.1 ∙ ap W joined)
    cells_join to r (s ∷ ss) has some joined steps =
        by_width (λ rs. AreJoined r.first_cell (W to) (map cell_range rs)) r s ss
        (λ e. cells_join to (run_with b r s) ss (longer_has r s has joined.0 (first_step s ss steps) e) some joined.2 (next_steps s ss steps))
        (λ e. (refl, some, cells_join to (run_from text r.end_cell s) ss (next_has r s has joined.0 (first_step s ss steps)) (let more = positive (width s) e in omega (arith, more)) joined.2 (next_steps s ss steps)))

    -- those of a line, whatever the first has
    pub cells_are : (to : ℕ) (r : CellRun) (ss : List SourceSlice) → HasCellsBy r → r.first_cell ≡ 0 → AreJoined r.end to (map source.byte_range ss) → AreSteps ss → AreCells (W to) (runs_from b text r ss)
    cells_are to r [] has first joined steps = (first, has.1 ∙ ap W joined)
    cells_are to r (s ∷ ss) has first joined steps =
        by_width (AreCells (W to)) r s ss
        (λ e. cells_are to (run_with b r s) ss (longer_has r s has joined.0 (first_step s ss steps) e) first joined.2 (next_steps s ss steps))
        (λ e. (first, cells_join to (run_from text r.end_cell s) ss (next_has r s has joined.0 (first_step s ss steps)) (let more = positive (width s) e in omega (arith, more)) joined.2 (next_steps s ss steps)))

-- ---- the end of the last one

last_on : (r q : CellRun) (rs : List CellRun) → end_of_runs (r ∷ q ∷ rs) ≡ end_of_runs (q ∷ rs)
last_on r q rs = let index : length (r ∷ q ∷ rs) - 1 ≡ suc (length (q ∷ rs) - 1) = omega arith in ap (λ i. end_or_none (slice_get (r ∷ q ∷ rs) i)) index

joined_end : (from to : ℕ) (r : CellRun) (rs : List CellRun) → AreJoined r.end_cell to (map cell_range rs) → end_of_runs (r ∷ rs) ≡ to
joined_end from to r [] joined = joined
joined_end from to r (q ∷ rs) joined = last_on r q rs ∙ joined_end q.first_cell to q rs joined.2

-- the last of a line's runs ends where the line does
pub end_is_width : (width : ℕ) (rs : List CellRun) → AreCells width rs → end_of_runs rs ≡ width
end_is_width width [] are = are
end_is_width width (r ∷ rs) are = joined_end r.first_cell width r rs are.1

-- ---- slice by slice

-- the runs so far and those of the slices from an index on, as the code adds the next slice
pub slice_added : (b : Bool) (text : List ℕ) (to : ℕ) (ss : List SourceSlice) (i : ℕ) (e : SourceSlice) (run now : CellRun) (old new whole : List CellRun) → i < length ss
    → (old ++ runs_from b text run (drop i ss) ≡ whole) × (run.end_cell ≤ 2 * run.end) × AreJoined run.end to (map source.byte_range (drop i ss))
    → IsSliceAdded (slice_width text (source.byte_range (get_or ss i e)) == 0) run (run_with b run (get_or ss i e)) (run_from text run.end_cell (get_or ss i e)) now old new → now.end_cell ≤ 2 * (get_or ss i e).end
    → (new ++ runs_from b text now (drop (i + 1) ss) ≡ whole) × (now.end_cell ≤ 2 * now.end) × AreJoined now.end to (map source.byte_range (drop (i + 1) ss))
slice_added b text to ss i e run now old new whole within is added few =
    let P : List SourceSlice → Type 0 = λ qs. old ++ runs_from b text run qs ≡ whole in
    let Q : List SourceSlice → Type 0 = λ qs. AreJoined run.end to (map source.byte_range qs) in
    let more = drop_more ss i e within in
    by_test (width b text s == 0) (subst P more is.0) (subst Q more is.2) added
  where
    rest : List SourceSlice
    rest = drop (i + 1) ss

    s : SourceSlice
    s = get_or ss i e

    by_test : (t : Bool) → old ++ runs_by b text run s rest t ≡ whole → AreJoined run.end to (map source.byte_range (s ∷ rest)) → IsSliceAdded t run (run_with b run s) (run_from text run.end_cell s) now old new
        → (new ++ runs_from b text now rest ≡ whole) × (now.end_cell ≤ 2 * now.end) × AreJoined now.end to (map source.byte_range rest)
    by_test true all joined (longer, kept) =
        let end : s.end ≡ now.end = ap (λ (r : CellRun). r.end) (sym longer) in
        let Q : ℕ → Type 0 = λ n. AreJoined n to (map source.byte_range rest) in
        (ap (λ r. new ++ runs_from b text r rest) longer ∙ ap (λ rs. rs ++ runs_from b text (run_with b run s) rest) kept ∙ all, omega (arith, few, end), subst Q end joined.2)
    by_test false all joined (next, pushed) =
        let end : s.end ≡ now.end = ap (λ (r : CellRun). r.end) (sym next) in
        let Q : ℕ → Type 0 = λ n. AreJoined n to (map source.byte_range rest) in (
          ap (λ r. new ++ runs_from b text r rest) next
              ∙ ap (λ rs. rs ++ runs_from b text (run_from text run.end_cell s) rest) pushed ∙ append_assoc old (run ∷ []) (runs_from b text (run_from text run.end_cell s) rest) ∙ all,
          omega (arith, few, end),
          subst Q end joined.2,
        )
