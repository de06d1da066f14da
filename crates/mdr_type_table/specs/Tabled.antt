-- for proofs
-- What the type table of a program has.
use Rattle.std.specs.Prelude.{◌≤◌, length, IsTrue}
use Rattle.mdr_core.specs.declared.program.Program.{Program}
use Rattle.mdr_core.specs.declared.types.Ty.{Ty}
use Rattle.mdr_core.specs.Sound.{IsObjectSort}
use Rattle.mdr_core.specs.Types.{HasNumber, sort_of, is_pointer}
use Rattle.mdr_lower.specs.Tables.{Occurs, IsOrderedTable}
use Rattle.mdr_program.specs.declared.parts.Parts.{Parts}
use Rattle.mdr_program.specs.Occurring.{occurring}
use Rattle.mdr_program.specs.Orders.{IsAmong}
use Rattle.mdr_program.specs.Programs.{made}
use Rattle.mdr_type_table.specs.Apart.{AreNamed, IsFormed}

abbrev pub TablesListWhatOccurs : Type 0
TablesListWhatOccurs = (ps : Parts) (ty : Ty) → Occurs (made ps) ty → IsAmong ty (occurring ps)

-- the pointer types that occur are formed
pub record HasFormedPointers (program : Program) : Type 0 where
  pub formed : (ty : Ty) → Occurs program ty → IsTrue (is_pointer ty) → IsFormed program.structs ty

abbrev pub TablesHaveEachType : Type 0
TablesHaveEachType = (ps : Parts) → AreNamed ps.structs → HasFormedPointers (made ps) → IsOrderedTable (made ps)

abbrev pub TypesThatOccurHaveNumbers : Type 0
TypesThatOccurHaveNumbers = (ps : Parts) (ty : Ty) → AreNamed ps.structs → HasFormedPointers (made ps) → length (made ps).types ≤ 4294967296 → Occurs (made ps) ty → IsObjectSort (sort_of (length ps.structs) ty) → HasNumber (made ps) ty
