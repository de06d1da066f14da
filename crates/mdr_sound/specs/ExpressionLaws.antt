-- for proofs
-- What holds of all expressions of a function.
use Rattle.std.specs.Prelude.{◌≡◌, List}
use Rattle.mdr_core.specs.declared.program.Program.{Program}
use Rattle.mdr_core.specs.Typing.{Slot}
use Rattle.mdr_faults.specs.declared.scope.Scope.{Scope}
use Rattle.mdr_faults.specs.Faults.{Right}
use Rattle.mdr_operand.specs.declared.operand.Operand.{Operand}
use Rattle.mdr_operand.specs.declared.room.LocalName.{LocalName}
use Rattle.mdr_operand.specs.Written.{Written}
use Rattle.mdr_express.specs.Expressions.{typed}
use Rattle.mdr_sound.specs.Knowing.{Knows, KnowsLocals, HasNumbers, TakesNoSlot}
use Rattle.mdr_sound.specs.Operands.{IsKnown}

-- what an expression comes to has the types that the program's rules give it
abbrev pub ExpressionsAreKnown : Type 0
ExpressionsAreKnown = (program : Program) (slots : List Slot) (scope : Scope) (names : List LocalName) (w : Written) (x : Operand) → Knows program scope → KnowsLocals program slots names → HasNumbers w → TakesNoSlot names w → typed scope names w ≡ Right x → IsKnown program slots names w x
