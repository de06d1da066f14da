-- for proofs
-- Rules of expressions, assignments and calls whose results keep to the rules of sound programs.
use Rattle.std.specs.Prelude.{◌≡◌, ℕ, ◌≤◌, Bool, List, length}
use Rattle.mdr_rich.specs.declared.code.Lval.{Lval}
use Rattle.mdr_rich.specs.declared.code.Step.{Step}
use Rattle.mdr_core.specs.declared.place.Place.{Place}
use Rattle.mdr_core.specs.declared.program.Program.{Program}
use Rattle.mdr_core.specs.declared.types.Ty.{Ty}
use Rattle.mdr_rich.specs.Folds.{code_of, lvalue_of}
use Rattle.mdr_core.specs.Types.{Scalar, sort_of}
use Rattle.mdr_core.specs.Typing.{Slot, One}
use Rattle.mdr_rich.specs.Typing.{Designates, IsTyped}
use Rattle.mdr_faults.specs.declared.scope.Scope.{Scope}
use Rattle.mdr_faults.specs.Faults.{Right}
use Rattle.mdr_operand.specs.declared.operand.Operand.{Operand}
use Rattle.mdr_operand.specs.declared.room.LocalName.{LocalName}
use Rattle.mdr_operand.specs.Written.{Written}
use Rattle.mdr_body.specs.Statements.{Rules, stmt}
use Rattle.mdr_sound.specs.Knowing.{KnowsLocals, HasNumbers, TakesNoSlot}
use Rattle.mdr_sound.specs.Operands.{IsKnown}

-- the step is right as a statement of any number, in a function with this result
abbrev pub IsSoundStep : Program → List Slot → (result : Ty) → Step → Type 0
IsSoundStep program slots result s = (n : ℕ) (in_loop : Bool) → 1 ≤ n → IsTyped program slots result in_loop (code_of (stmt n s))

-- what stands in a statement is written with numbers of its kinds, and takes no address of a slot
pub record IsRight (names : List LocalName) (w : Written) : Type 0 where
  pub numbers : HasNumbers w
  pub no_slot : TakesNoSlot names w

pub record AreSoundRules (program : Program) (slots : List Slot) (scope : Scope) (rules : Rules) : Type 0 where
  pub typed : (names : List LocalName) (w : Written) (x : Operand) → KnowsLocals program slots names → IsRight names w → rules.typed scope names w ≡ Right x → IsKnown program slots names w x
  pub assigned : (names : List LocalName) (at : Place) (op : List ℕ) (a b : Written) (s : Step) (result : Ty) → KnowsLocals program slots names → IsRight names a → IsRight names b → rules.assigned scope names at op a b ≡ Right s → IsSoundStep program slots result s
  pub called : (names : List LocalName) (w : Written) (s : Step) (result : Ty) → KnowsLocals program slots names → IsRight names w → rules.called scope names w ≡ Right s → IsSoundStep program slots result s
  pub stored : (names : List LocalName) (p : Place) (object : Lval) (t : Ty) (w : Written) (s : Step) (result : Ty) → KnowsLocals program slots names → IsRight names w → Designates program slots (lvalue_of object) (One t) → sort_of (length program.structs) t ≡ Scalar → rules.stored scope names p object t w ≡ Right s → IsSoundStep program slots result s
  pub returned : (names : List LocalName) (p : Place) (result : Ty) (w : Written) (s : Step) → KnowsLocals program slots names → IsRight names w → sort_of (length program.structs) result ≡ Scalar → rules.returned scope names p result w ≡ Right s → IsSoundStep program slots result s
