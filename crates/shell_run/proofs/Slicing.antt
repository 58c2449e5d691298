-- The printed slices are those of the text.
use Rattle.std.proofs.Common.{ℕ, ◌≡◌, ◌↔◌, Bool, true, false, if◌then◌else◌, List, length, map, refl, sym, ap}
use Rattle.std.specs.Prelude.{IsTrue}
use Rattle.std.specs.List.{flat_map}
use Rattle.buffer_parts.specs.Fits.{FitsText}
use Rattle.shape_slices.specs.declared.slices.SourceSlice.{SourceSlice}
use Rattle.shape_slices.specs.Deciding.{are_fitting}
use Rattle.shape_slices.specs.Fitting.{character_starts}
use Rattle.shape_slices.specs.Runs.{AreSourceSlices, byte_range}
use Rattle.shape_slices.proofs.Fits.{fits_from_tests, order_of_fitting, tests_from_fits}
use Rattle.shell_run.specs.Slices.{byte_ranges, no_slices, slice_line, slice_lines}

-- the lines of the slices of clusters that fit a text
pub fitting_lines : (text ns : List ℕ) (ss : List SourceSlice) → FitsText (character_starts text) ns → AreSourceSlices ns (length text) ss
    → slice_lines ns text ≡ flat_map slice_line (map byte_range ss)
fitting_lines text ns ss f are =
    rw (tests_from_fits (character_starts text) ns f)
    (ap (λ (rs : List (ℕ × ℕ)). flat_map slice_line rs) (sym (are.bytes _ (order_of_fitting (character_starts text) ns f))))

-- the line of clusters that don't fit a text
pub unfit_lines : (text ns : List ℕ) (fits : Bool) → (IsTrue fits ↔ FitsText (character_starts text) ns) → fits ≡ false → slice_lines ns text ≡ no_slices
unfit_lines text ns fits same unfit = by_test (are_fitting (character_starts text) ns) refl
  where
    by_test : (b : Bool) → are_fitting (character_starts text) ns ≡ b → (if b then flat_map slice_line (byte_ranges ns (length text)) else no_slices) ≡ no_slices
    by_test true e = let fit : fits ≡ true = same.1 (fits_from_tests (character_starts text) ns e) in cc
    by_test false e = refl
