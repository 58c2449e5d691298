use Rattle.std.proofs.Common.{take}
use Rattle.std.specs.Prelude.{All}
use Rattle.kuspveli.specs.buffer_parts.Slices.{IsIn}
use Rattle.kuspveli.specs.shape_slices.Runs.{byte_range}
use Rattle.kuspveli.specs.shape_slices.declared.slices.SourceSlice.{SourceSlice}
use Rattle.caret_model.proofs.model.CaretModel.slice_at.Given as goal

-- none of the slices so far has the byte
abbrev pub invariant-loop-slice : goal.invariant-loop-slice
invariant-loop-slice l = All (λ (s : SourceSlice). ¬ IsIn (byte_range s) l.byte) (take l.slice-index l.slice-items)
