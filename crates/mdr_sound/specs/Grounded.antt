-- for proofs
-- What code asks of the type table.
use Rattle.mdr_core.specs.declared.program.Program.{Program}
use Rattle.mdr_core.specs.declared.types.Ty.{Ty}
use Rattle.mdr_core.specs.Code.{Codes}
use Rattle.mdr_core.specs.TypeText.{AllocatesIn}
use Rattle.mdr_core.specs.Types.{HasNumber}

-- the types that are allocated stand in the type table
pub record ArePlainGrounded (program : Program) (cs : Codes) : Type 0 where
  pub types : (t : Ty) → AllocatesIn t cs → HasNumber program t
