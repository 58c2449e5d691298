use Rattle.std.proofs.Common.{◌≡◌, take}
use Rattle.caret_model.specs.Stops.{in_text_order}
use Rattle.cell_grid.specs.Drawing.{pictures}
use Rattle.cell_grid.proofs.drawing.shared.Given as goal

-- the runs so far are drawn alike
abbrev pub invariant-loop-i : goal.invariant-loop-i
invariant-loop-i l = take l.i (in_text_order l.at_end (pictures l.fn.old)) ≡ take l.i (in_text_order l.at_end (pictures l.fn.new))
