-- The cells of a text, as they are made of its slices.
use Rattle.std.proofs.Common.{ℕ, ◌≡◌, ◌+◌, Bool, List, [], ◌∷◌, length, map, arith, refl, sym, ap, subst, ◌∙◌}
use Rattle.std.specs.Prelude.{All}
use Rattle.std.proofs.lemmas.List.Elements.{All-head, All-nil, All-tail, All-weaker}
use Rattle.kuspveli.specs.buffer_glyphs.Items.{clusters}
use Rattle.kuspveli.specs.shape_slices.declared.slices.SourceSlice.{SourceSlice}
use Rattle.kuspveli.specs.shape_slices.Runs as source
use Rattle.kuspveli.specs.shaping_buffer.buffer_core.Sides.{Sides, all_glyphs}
use Rattle.cell_grid.specs.declared.cells.CellGlyph.{CellGlyph}
use Rattle.cell_grid.specs.declared.cells.CellRun.{CellRun}
use Rattle.cell_grid.specs.Grids.{AreCells, Grid, HasItsCells, HasItsGlyphs, IsGridOf, cell_glyphs, end_of_runs, text_slices}
use Rattle.cell_grid.specs.Walk.{AreTextSlices, run_from, runs_from, runs_of}
use Rattle.cell_grid.specs.Widths.{run_starts, slice_width, width_before}
use Rattle.cell_grid.proofs.Glyphs.{runs_have_glyphs}
use Rattle.cell_grid.proofs.Joining.{bytes_join, cells_are, cells_from, end_is_width, starts_are}
use Rattle.cell_grid.proofs.Widths.{IsStep, none_before, width_steps}

module _ (b : Bool) (result : Sides) (text : List ℕ) where
  abbrev ns : List ℕ
  ns = clusters (all_glyphs result)

  -- the line of cells of slices
  abbrev grid_with : List SourceSlice → List CellGlyph → Grid
  grid_with ss gs = record { runs = runs_of b text ss; glyphs = gs; width = end_of_runs (runs_of b text ss) }

  made_of : (ss : List SourceSlice) (gs : List CellGlyph) → AreTextSlices b ns text ss → gs ≡ cell_glyphs result → IsGridOf result text (grid_with ss gs)
  made_of [] gs are glyphs = record {
    bytes = are.joined;
    starts = ap (run_starts text) are.bytes;
    cells = All-nil (HasItsCells text (text_slices result text));
    width = ap (λ qs. width_before text qs (length text)) are.bytes;
    runs = All-nil (HasItsGlyphs ns);
    glyphs = glyphs;
    grid = refl;
  }
  made_of (s ∷ ss) gs are glyphs = record {
    bytes = bytes_join b text 0 (length text) first ss are.joined.0 are.joined.1 are.joined.2;
    starts = starts_are b text (length text) (s ∷ ss) are.joined ∙ ap (run_starts text) are.bytes;
    cells = let P : List (ℕ × ℕ) → Type 0 = λ qs. All (HasItsCells text qs) rs in subst P are.bytes cells;
    width = end ∙ ap (λ qs. width_before text qs (length text)) are.bytes;
    runs = runs_have_glyphs text ns b s ss are;
    glyphs = glyphs;
    grid = let P : ℕ → Type 0 = λ n. AreCells n rs in subst P (sym end) line;
  }
    where
      ms : List (ℕ × ℕ)
      ms = map source.byte_range (s ∷ ss)

      first : CellRun
      first = run_from text 0 s

      rs : List CellRun
      rs = runs_from b text first ss

      W : ℕ → ℕ
      W = width_before text ms

      steps : All (IsStep W text) ms
      steps = width_steps text 0 (length text) ms are.joined

      has : (0 ≡ W s.start) × (0 + slice_width text (source.byte_range s) ≡ W s.end)
      has =
          let start = are.joined.0 in
          let none = none_before text 0 (length text) s.start ms are.joined (omega (arith, start)) in
          let step = All-head (IsStep W text) (source.byte_range s) (map source.byte_range ss) steps in
          (sym none, omega (arith, none, step))

      later : All (IsStep W text) (map source.byte_range ss)
      later = All-tail (IsStep W text) (source.byte_range s) (map source.byte_range ss) steps

      cells : All (HasItsCells text ms) rs
      cells =
          let P : CellRun → Type 0 = λ r. (r.first_cell ≡ W r.start) × (r.end_cell ≡ W r.end) in
          All-weaker P (HasItsCells text ms) (λ r both. record { first = both.0; end = both.1 }) rs (cells_from b text W (length text) first ss has are.joined.2 later)

      line : AreCells (W (length text)) rs
      line = cells_are b text W (length text) first ss has refl are.joined.2 later

      end : end_of_runs rs ≡ W (length text)
      end = end_is_width (W (length text)) rs line

  pub made_grid : (ss : List SourceSlice) (rs : List CellRun) (gs : List CellGlyph) (width : ℕ) → AreTextSlices b ns text ss → rs ≡ runs_of b text ss → gs ≡ cell_glyphs result → width ≡ end_of_runs rs
      → IsGridOf result text (record { runs = rs; glyphs = gs; width = width })
  made_grid ss rs gs width are runs glyphs end =
      let P : Grid → Type 0 = IsGridOf result text in
      let same : grid_with ss gs ≡ record { runs = rs; glyphs = gs; width = width } = λ k. record { runs = sym runs k; glyphs = gs; width = sym (end ∙ ap end_of_runs runs) k } in
      subst P same (made_of ss gs are glyphs)
