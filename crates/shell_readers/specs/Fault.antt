-- Faults of a run, and the exit status of each.
use Rattle.std.specs.Prelude.{ℕ, List, ◌++◌, codes}
use Rattle.std.specs.Fmt.{decimal}
use Rattle.shell_json.specs.declared.fault.JsonFault.{JsonFault}
use Rattle.shell_json.specs.Fault as json_values
use Rattle.font_bytes.specs.declared.fault.TableFault.{TableFault}
use Rattle.font_bytes.specs.declared.fault.TableFault.TheVariants as table
use Rattle.font_bytes.specs.declared.font_fault.FontFault.{FontFault}
use Rattle.font_bytes.specs.Fault as font
use Rattle.shell_readers.specs.declared.fault.RunFault.{RunFault}
use Rattle.buffer_glyphs.specs.declared.cause.ShapeCause.{ShapeCause}
use Rattle.buffer_glyphs.specs.declared.cause.ShapeCause.TheVariants as cause
use Rattle.shell_json.specs.declared.fault.JsonFault.TheVariants as json
use Rattle.shell_readers.specs.declared.fault.RunFault.TheVariants as run
use Rattle.shell_readers.specs.declared.fault.LineFault.{LineFault}
use Rattle.shell_readers.specs.declared.fault.LineFault.TheVariants as line

-- the run's fault for a fault of a table or a font; lack of memory is one fault, in whichever step
abbrev pub run_fault_of : JsonFault → RunFault
run_fault_of json.OutOfMemory = run.OutOfMemory
run_fault_of fault = run.Json fault

-- the run's fault of a font file for a cause
abbrev pub fault_of_table : FontFault → TableFault → RunFault
fault_of_table fault table.OutOfMemory = run.OutOfMemory
fault_of_table fault cause = run.Font fault

-- the run's fault for a fault of a font file
abbrev pub fault_of_font : FontFault → RunFault
fault_of_font fault = fault_of_table fault fault.cause

-- the exit status of a font file's cause
abbrev pub status_of_table : TableFault → ℕ
status_of_table table.OutOfMemory = 5
status_of_table cause = 3

-- the run's fault for a cause for which a text was not shaped
abbrev pub fault_of_cause : ShapeCause → RunFault
fault_of_cause cause.OutOfMemory = run.OutOfMemory
fault_of_cause c = run.Shape c

-- the exit status of a line's fault, that of the same fault of a whole text
abbrev pub status_of_line : LineFault → ℕ
status_of_line line.NotUtf8 = 4
status_of_line (line.Shape _) = 5

-- the exit status: 2 for command-line words, 3 for tables and fonts, 4 for the text's bytes, 5 for shaping and lack of
-- memory, 6 for input and output
abbrev pub status_of : RunFault → ℕ
status_of run.Words = 2
status_of (run.Json json.OutOfMemory) = 5
status_of (run.Json _) = 3
status_of (run.Font fault) = status_of_table fault.cause
status_of run.Unlawful = 3
status_of run.NotUtf8 = 4
status_of (run.Shape _) = 5
status_of (run.Line _ fault) = status_of_line fault
status_of run.OutOfMemory = 5
status_of run.Read = 6
status_of run.ReadLimit = 6
status_of run.Write = 6

-- the printed name of a cause for which a text was not shaped
abbrev pub name_of_cause : ShapeCause → List ℕ
name_of_cause cause.OutOfMemory = codes "S1 OutOfMemory"
name_of_cause cause.TooLong = codes "S2 TooLong"
name_of_cause cause.StretchRange = codes "S3 StretchRange"
name_of_cause cause.UnknownSyllableKind = codes "S4 UnknownSyllableKind"

-- the printed name of a line's fault, that of the same fault of a whole text
abbrev pub name_of_line : LineFault → List ℕ
name_of_line line.NotUtf8 = codes "NotUtf8"
name_of_line (line.Shape c) = name_of_cause c

-- the printed name of a fault
abbrev pub name_of : RunFault → List ℕ
name_of run.Words = codes "words"
name_of run.Read = codes "Read"
name_of run.ReadLimit = codes "ReadLimit"
name_of (run.Json fault) = json_values.name_of fault
name_of (run.Font fault) = font.name_of fault.cause
name_of run.Unlawful = codes "Unlawful"
name_of run.NotUtf8 = codes "NotUtf8"
name_of (run.Shape c) = name_of_cause c
name_of (run.Line _ fault) = name_of_line fault
name_of run.Write = codes "Write"
name_of run.OutOfMemory = codes "OutOfMemory"

-- the text of a fault: its name, and after it the number of the line, where it is a line's, or the table and the offset,
-- where it is a font file's
abbrev pub message_of : RunFault → List ℕ
message_of (run.Line number fault) = name_of_line fault ++ (codes " line " ++ decimal number)
message_of (run.Font fault) = font.message_of fault
message_of fault = name_of fault
