-- The faults of tables in binary form.
use Rattle.buffer_unicode.specs.declared.fault.TablesFault.{TablesFault}
use Rattle.buffer_unicode.specs.declared.fault.TablesFault.TheVariants as rows
use Rattle.shell_tables_bytes.specs.declared.fault.BinaryFault.{BinaryFault}
use Rattle.shell_tables_bytes.specs.declared.fault.BinaryFault.TheVariants.{Rows, OutOfMemory}

-- a fault of rows, where lack of memory is a fault of its own
abbrev pub of_rows : TablesFault → BinaryFault
of_rows rows.OutOfMemory = OutOfMemory
of_rows f = Rows f
