-- for proofs
-- How many structs a program's type table has.
use Rattle.std.specs.Prelude.{◌≡◌, List, length}
use Rattle.mdr_core.specs.declared.types.Ty.{Ty}
use Rattle.mdr_core.specs.declared.program.StructDef.{StructDef}
use Rattle.mdr_program.specs.Orders.{IsInOrder}
use Rattle.mdr_check_half.specs.Suiting.{structs_in}

-- a table in order has those of the program
abbrev pub TablesHaveTheStructs : Type 0
TablesHaveTheStructs = (structs : List StructDef) (occurring table : List Ty) → IsInOrder structs occurring table → structs_in table ≡ length structs
