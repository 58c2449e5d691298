-- The lines of the empty text.
use Rattle.std.proofs.Common.{refl}
use Rattle.std.proofs.lemmas.Str.{chars-nil}
use Rattle.buffer_wrappers.specs.Printed.{printed_text}
use Rattle.shape_pipeline.specs.Shaped.{text_reading}
use Rattle.shell_run.specs.Laws.{EmptyTextGivesEmptyLine}

pub empty_text_gives_empty_line : EmptyTextGivesEmptyLine
unfolding printed_text text_reading
empty_text_gives_empty_line options t font = rw chars-nil refl
