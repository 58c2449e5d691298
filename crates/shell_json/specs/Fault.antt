-- The printed names of faults.
use Rattle.std.specs.Prelude.{ℕ, List, codes}
use Rattle.shell_json.specs.declared.fault.JsonFault.{JsonFault}
use Rattle.shell_json.specs.declared.fault.JsonFault.TheVariants.{NotJson, WrongShape, FloatNumber, UnknownName, OutOfOrder, OutOfRange, SplitDepth, OutOfMemory}

-- the name under which a fault is printed
abbrev pub name_of : JsonFault → List ℕ
name_of NotJson = codes "J1 NotJson"
name_of WrongShape = codes "J2 WrongShape"
name_of FloatNumber = codes "J3 FloatNumber"
name_of UnknownName = codes "J4 UnknownName"
name_of OutOfOrder = codes "U1 OutOfOrder"
name_of OutOfRange = codes "U2 OutOfRange"
name_of SplitDepth = codes "U3 SplitDepth"
name_of OutOfMemory = codes "OutOfMemory"
