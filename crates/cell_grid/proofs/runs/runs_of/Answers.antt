use Rattle.kuspveli.specs.shape_slices.declared.slices.SourceSlice.{SourceSlice}
use Rattle.std.proofs.Common.{length}
use Rattle.cell_grid.specs.Walk.{runs_of}
use Rattle.cell_grid.proofs.Joining.{slice_added}
use Rattle.cell_grid.proofs.runs.runs_of.Goals as goal

abbrev no_slice : SourceSlice
no_slice = record { first_glyph = 0; end_glyph = 0; start = 0; end = 0 }

pub loop-i-preserved : goal.loop-i-preserved
loop-i-preserved c =
    slice_added c.args.backward c.args.text.now (length c.args.text.now) c.args.slices.now c.loop-i.i no_slice c.loop-i.run c.in_ok-run.run' c.loop-i.runs.items c.add_slice.new.runs.items (runs_of c.args.backward c.args.text.now c.args.slices.now) c.loop-i-test.true
    c.loop-i.invariant c.in_ok-run.ensures.added c.in_ok-run.ensures.bound
