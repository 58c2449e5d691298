-- C's numbers of why there are no lines or carets.
use Rattle.std.specs.Prelude.{ℕ}
use Rattle.caret_model.specs.declared.carets.CaretFault.{CaretFault}
use Rattle.caret_model.specs.declared.carets.CaretFault.TheVariants as caret
use Rattle.line_pieces.specs.declared.lines.LineFault.{LineFault}
use Rattle.line_pieces.specs.declared.lines.LineFault.TheVariants as line

-- the number of why a text isn't cut into lines
abbrev pub line_fault_number : LineFault → ℕ
line_fault_number line.OutOfMemory = 1
line_fault_number line.TooManyGlyphs = 30
line_fault_number line.ClustersOutOfOrder = 31
line_fault_number line.InvalidBreaks = 32

-- the number of why a text has no carets
abbrev pub caret_fault_number : CaretFault → ℕ
caret_fault_number caret.OutOfMemory = 1
caret_fault_number caret.NoSlices = 18
caret_fault_number caret.TooManyGlyphs = 30
caret_fault_number caret.InvalidStops = 33
