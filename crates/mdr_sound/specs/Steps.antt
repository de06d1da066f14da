-- for proofs
-- What holds of all assignments and calls of a function.
use Rattle.std.specs.Prelude.{◌≡◌, Bool, List, Option}
use Rattle.mdr_core.specs.declared.place.Place.{Place}
use Rattle.mdr_core.specs.declared.program.Program.{Program}
use Rattle.mdr_rich.specs.Folds.{call_of, lvalue_of, term_of}
use Rattle.mdr_core.specs.Typing.{Slot}
use Rattle.mdr_rich.specs.Typing.{CallGives, IsAssignment}
use Rattle.mdr_assign.specs.declared.assignment.Assignment.{Assignment}
use Rattle.mdr_assign.specs.Assignments.{assignment_rule, step_rule}
use Rattle.mdr_call.specs.declared.parts.TypedCall.{TypedCall}
use Rattle.mdr_faults.specs.declared.scope.Scope.{Scope}
use Rattle.mdr_faults.specs.Faults.{Right}
use Rattle.mdr_operand.specs.declared.operator.AssignmentOperator.{AssignmentOperator}
use Rattle.mdr_operand.specs.declared.room.LocalName.{LocalName}
use Rattle.mdr_operand.specs.Written.{Written, Writtens}
use Rattle.mdr_express.specs.Expressions.{typed, call_at}
use Rattle.mdr_sound.specs.Knowing.{Knows, KnowsLocals, HasNumbers, HaveNumbers, TakesNoSlot, TakeNoSlot}

-- what an assignment comes to is one of the program (C99 6.5.16)
abbrev pub AssignmentsAreKnown : Type 0
AssignmentsAreKnown = (program : Program) (slots : List Slot) (scope : Scope) (names : List LocalName) (p : Place) (op : Option AssignmentOperator) (a b : Written) (made : Assignment)
    → Knows program scope → KnowsLocals program slots names
    → HasNumbers a → TakesNoSlot names a → HasNumbers b → TakesNoSlot names b
    → assignment_rule scope p op (typed scope names a) (typed scope names b) ≡ Right made
    → IsAssignment program slots (lvalue_of made.left) (term_of made.right)

-- and so is a `++` or `--` that stands alone (6.5.2.4, 6.5.3.1)
abbrev pub StepsAreKnown : Type 0
StepsAreKnown = (program : Program) (slots : List Slot) (scope : Scope) (names : List LocalName) (p : Place) (op : Option Bool) (a : Written) (made : Assignment)
    → Knows program scope → KnowsLocals program slots names
    → HasNumbers a → TakesNoSlot names a
    → step_rule scope p op (typed scope names a) ≡ Right made
    → IsAssignment program slots (lvalue_of made.left) (term_of made.right)

-- what a call comes to is one of the program (6.5.2.2)
abbrev pub CallsAreKnown : Type 0
CallsAreKnown = (program : Program) (slots : List Slot) (scope : Scope) (names : List LocalName) (p : Place) (f : Written) (args : Writtens) (call : TypedCall)
    → Knows program scope → KnowsLocals program slots names
    → HasNumbers f → TakesNoSlot names f → HaveNumbers args → TakeNoSlot names args
    → call_at scope names p f args ≡ Right call
    → CallGives program slots (call_of call.form) call.result
