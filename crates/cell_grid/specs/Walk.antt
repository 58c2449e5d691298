-- What the code that makes cells keeps.
use Rattle.std.specs.Prelude.{ℕ, ◌≡◌, ◌≤◌, ◌+◌, ◌==◌, Bool, true, false, if◌then◌else◌, List, [], ◌∷◌, ◌++◌, All, IsCharBoundary, length, map}
use Rattle.std.specs.List.{flat_map}
use Rattle.kuspveli.specs.buffer_parts.Slices.{AreJoined, slices}
use Rattle.kuspveli.specs.shape_slices.declared.slices.SourceSlice.{SourceSlice}
use Rattle.kuspveli.specs.shape_slices.Runs.{byte_range, glyph_range, run_clusters}
use Rattle.caret_model.specs.Stops.{in_text_order}
use Rattle.cell_grid.specs.declared.cells.CellRun.{CellRun}
use Rattle.cell_grid.specs.Widths.{slice_width}

-- a slice begins and ends where characters of a text do
pub record IsSliceOf (text : List ℕ) (s : SourceSlice) : Type 0 where
  pub ordered : s.start ≤ s.end
  pub start : IsCharBoundary text s.start
  pub end : IsCharBoundary text s.end

-- slices of a text in its order, with glyphs of these clusters
pub record AreTextSlices (backward : Bool) (ns text : List ℕ) (ss : List SourceSlice) : Type 0 where
  pub bytes : map byte_range ss ≡ slices ns (length text)
  pub joined : AreJoined 0 (length text) (map byte_range ss)
  pub glyphs : AreJoined 0 (length ns) (map glyph_range (in_text_order backward ss))
  pub clusters : flat_map run_clusters (in_text_order backward ss) ≡ ns
  pub cuts : All (IsSliceOf text) ss

-- the run of a slice, from a cell on
abbrev pub run_from : List ℕ → ℕ → SourceSlice → CellRun
run_from text cell s = record { start = s.start; end = s.end; first_cell = cell; end_cell = cell + slice_width text (byte_range s); first_glyph = s.first_glyph; end_glyph = s.end_glyph }

-- a run with the next slice, which takes no cell: on a backward line its glyphs are to the left of the run's
abbrev pub run_with : Bool → CellRun → SourceSlice → CellRun
run_with b r s = record r { end = s.end; first_glyph = if b then s.first_glyph else r.first_glyph; end_glyph = if b then r.end_glyph else s.end_glyph }

-- a run, and those of the slices after it
abbrev pub runs_from : Bool → List ℕ → CellRun → List SourceSlice → List CellRun
runs_from b text r [] = r ∷ []
runs_from b text r (s ∷ ss) = if slice_width text (byte_range s) == 0 then runs_from b text (run_with b r s) ss else r ∷ runs_from b text (run_from text r.end_cell s) ss

-- the runs of slices
abbrev pub runs_of : Bool → List ℕ → List SourceSlice → List CellRun
runs_of b text [] = []
runs_of b text (s ∷ ss) = runs_from b text (run_from text 0 s) ss

-- a slice that takes no cell is added to a run, or the run ends before it
abbrev pub IsSliceAdded : Bool → CellRun → CellRun → CellRun → CellRun → List CellRun → List CellRun → Type 0
IsSliceAdded true run longer next now old new = (now ≡ longer) × (new ≡ old)
IsSliceAdded false run longer next now old new = (now ≡ next) × (new ≡ old ++ run ∷ [])
