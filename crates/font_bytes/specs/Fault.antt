-- Faults of a font file.
use Rattle.std.specs.Prelude.{ℕ, List, [], ◌++◌, codes, Option, Some, None, Result, Ok, Err}
use Rattle.std.specs.Fmt.{decimal}
use Rattle.font_bytes.specs.declared.fault.TableFault.{TableFault}
use Rattle.font_bytes.specs.declared.fault.TableFault.TheVariants.{Short, Kind, Order, Index, Missing, TooLarge, OutOfMemory}
use Rattle.font_bytes.specs.declared.font_fault.FontFault.{FontFault}
use Rattle.font_bytes.specs.declared.table_names.FontTable.{FontTable}
use Rattle.font_bytes.specs.Tables.{name_of_table}

-- a value of a table, whose fault is the file's
abbrev pub in_table : {A : Type 0} → Option FontTable → Result A TableFault → Result A FontFault
in_table table (Ok a) = Ok a
in_table table (Err e) = Err (record { table = table; cause = e })

-- want of memory
abbrev pub out_of_memory : FontFault
out_of_memory = record { table = None; cause = OutOfMemory }

-- the number of a cause
abbrev pub number_of : TableFault → ℕ
number_of (Short at) = 1
number_of (Kind at) = 2
number_of (Order at) = 3
number_of Index = 4
number_of Missing = 5
number_of TooLarge = 6
number_of OutOfMemory = 7

-- the printed name of a cause
abbrev pub name_of : TableFault → List ℕ
name_of (Short at) = codes "F1 Short"
name_of (Kind at) = codes "F2 Kind"
name_of (Order at) = codes "F3 Order"
name_of Index = codes "F4 Index"
name_of Missing = codes "F5 Missing"
name_of TooLarge = codes "F6 TooLarge"
name_of OutOfMemory = codes "OutOfMemory"

-- the offset of what is wrong, if it has one
abbrev pub offset_of : TableFault → Option ℕ
offset_of (Short at) = Some at
offset_of (Kind at) = Some at
offset_of (Order at) = Some at
offset_of Index = None
offset_of Missing = None
offset_of TooLarge = None
offset_of OutOfMemory = None

-- the text that says in which table a fault is
abbrev pub table_text : Option FontTable → List ℕ
table_text None = []
table_text (Some table) = codes " in " ++ name_of_table table

-- the text that says at which offset a fault is
abbrev pub offset_text : Option ℕ → List ℕ
offset_text None = []
offset_text (Some at) = codes " at " ++ decimal at

-- the printed text of a fault: the cause's name, and after it the table and the offset, where it has them
abbrev pub message_of : FontFault → List ℕ
message_of fault = name_of fault.cause ++ (table_text fault.table ++ offset_text (offset_of fault.cause))
