-- Runs begin where graphemes do.
use Rattle.std.proofs.Common.{ℕ, ◌⊎◌, ◌==◌, nat_lt, if◌then◌else◌, Bool, true, false, List, [], ◌∷◌, filter, fold, length, map, arith, cond, inl, inr, subst}
use Rattle.std.specs.Prelude.{Contains}
use Rattle.kuspveli.specs.buffer_glyphs.Items.{clusters}
use Rattle.kuspveli.specs.buffer_glyphs.Lemmas.Numbers.{Has, has_cases, has_here, has_more}
use Rattle.kuspveli.specs.buffer_parts.Slices.{borders, first_or, intervals, with_border}
use Rattle.kuspveli.specs.shape_parts.GraphemeLaws.{PushedClustersAreGraphemes}
use Rattle.kuspveli.specs.shaping_buffer.buffer_core.Sides.{Sides, all_glyphs}
use Rattle.cell_grid.specs.declared.cells.CellRun.{CellRun}
use Rattle.cell_grid.specs.Grids.{Grid, IsGridOf}
use Rattle.cell_grid.specs.Graphemes.{RunsBeginAtGraphemes}
use Rattle.cell_grid.specs.Widths.{begins_run, run_starts}
use Rattle.cell_grid.proofs.Glyphs.{contains_cases}
use Rattle.cell_grid.proofs.Joining.{start_of}

-- ---- the numbers among borders

border_is : (ms : List ℕ) (n k : ℕ) → Has (with_border ms n) k → Has (n ∷ ms) k
border_is [] n k has = has
border_is (m ∷ ms) n k has = by_tests (n == m) (nat_lt n m) has (border_is ms n k)
  where
    by_tests : (s t : Bool) → Has (if s then m ∷ ms else if t then n ∷ m ∷ ms else m ∷ with_border ms n) k → (Has (with_border ms n) k → Has (n ∷ ms) k) → Has (n ∷ m ∷ ms) k
    by_tests true t is rest = has_more n k (m ∷ ms) is
    by_tests false true is rest = is
    by_tests false false is rest = elim (has_cases m k (with_border ms n) is) [
      | inl same ↦ has_more n k (m ∷ ms) (let P : ℕ → Type 0 = λ j. Has (m ∷ ms) j in subst P same (has_here m ms))
      | inr later ↦ elim (has_cases n k ms (rest later)) [
        | inl own ↦ let P : ℕ → Type 0 = λ j. Has (n ∷ m ∷ ms) j in subst P own (has_here n (m ∷ ms))
        | inr old ↦ has_more n k (m ∷ ms) (has_more m k ms old)
      ]
    ]

borders_are : (ms ns : List ℕ) (k : ℕ) → Has (fold with_border ms ns) k → Has ms k ⊎ Has ns k
borders_are ms [] k has = inl has
borders_are ms (n ∷ ns) k has = elim (borders_are (with_border ms n) ns k has) [
  | inl old ↦ elim (has_cases n k ms (border_is ms n k old)) [
    | inl same ↦ inr (let P : ℕ → Type 0 = λ j. Has (n ∷ ns) j in subst P same (has_here n ns))
    | inr more ↦ inl more
  ]
  | inr later ↦ inr (has_more n k ns later)
]

-- ---- where runs begin

starts_among : (text : List ℕ) (ns : List ℕ) (end k : ℕ) → Has (run_starts text (intervals ns end)) k → Has ns k
starts_among text [] end k has = has
starts_among text (n ∷ ns) end k has = by_test (begins_run text (n, first_or end ns)) has (starts_among text ns end k)
  where
    by_test : (t : Bool) → Has (map (λ (s : ℕ × ℕ). s.0) (cond t ((n, first_or end ns) ∷ filter (begins_run text) (intervals ns end)) (filter (begins_run text) (intervals ns end)))) k → (Has (run_starts text (intervals ns end)) k → Has ns k) → Has (n ∷ ns) k
    by_test true is rest = elim (has_cases n k (run_starts text (intervals ns end)) is) [
      | inl same ↦ let P : ℕ → Type 0 = λ j. Has (n ∷ ns) j in subst P same (has_here n ns)
      | inr later ↦ has_more n k ns (rest later)
    ]
    by_test false is rest = has_more n k ns (rest is)

start_among : (rs : List CellRun) (r : CellRun) → Contains rs r → Has (map start_of rs) r.start
start_among [] r among = let none = among.1 in absurd (omega (arith, none))
start_among (q ∷ rs) r among = elim (contains_cases q rs r among) [
  | inl same ↦ let P : CellRun → Type 0 = λ x. Has (map start_of (q ∷ rs)) x.start in subst P same (has_here q.start (map start_of rs))
  | inr later ↦ has_more q.start r.start (map start_of rs) (start_among rs r later)
]

-- a run begins at a cluster
pub starts_at_cluster : (result : Sides) (text : List ℕ) (g : Grid) (r : CellRun) → IsGridOf result text g → Contains g.runs r → Has (clusters (all_glyphs result)) r.start
starts_at_cluster result text g r is among =
    let P : List ℕ → Type 0 = λ ms. Has ms r.start in
    let start = subst P is.starts (start_among g.runs r among) in
    elim (borders_are [] (clusters (all_glyphs result)) r.start (starts_among text (borders (clusters (all_glyphs result))) (length text) r.start start)) [ inl none ↦ cc | inr has ↦ has ]

pub runs_begin_at_graphemes : PushedClustersAreGraphemes → RunsBeginAtGraphemes
runs_begin_at_graphemes law p bytes text result g r lawful level pushed shaped is among = law p bytes text result lawful level pushed shaped r.start (starts_at_cluster result bytes g r is among)
