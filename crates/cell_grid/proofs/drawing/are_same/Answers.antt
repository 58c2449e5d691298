use Rattle.std.proofs.lemmas.Slice.Eq.{slice_eq-Decides}
use Rattle.cell_grid.proofs.Shared.{glyph_decides}
use Rattle.cell_grid.proofs.drawing.are_same.Goals as goal

pub returns : goal.returns
returns c = slice_eq-Decides glyph_decides c.args.was.now c.args.is.now c.eq.result c.eq.ensures
