-- for proofs
-- Rules of expressions, assignments and calls whose steps declare nothing and have no statements inside (C99 6.8.3).
use Rattle.std.specs.Prelude.{◌≡◌, ℕ, List}
use Rattle.mdr_rich.specs.declared.code.Lval.{Lval}
use Rattle.mdr_rich.specs.declared.code.Step.{Step}
use Rattle.mdr_core.specs.declared.place.Place.{Place}
use Rattle.mdr_core.specs.declared.types.Ty.{Ty}
use Rattle.mdr_rich.specs.Code.{Code}
use Rattle.mdr_rich.specs.Folds.{code_of}
use Rattle.mdr_faults.specs.declared.scope.Scope.{Scope}
use Rattle.mdr_faults.specs.Faults.{Checked, Right}
use Rattle.mdr_operand.specs.declared.room.LocalName.{LocalName}
use Rattle.mdr_operand.specs.Written.{Written}
use Rattle.mdr_body.specs.Statements.{Rules, stmt}

-- code that declares nothing and has no other code inside
abbrev pub IsPlain : Code → Type 0
IsPlain (Code.Declare n i) = ⊥
IsPlain (Code.Text n i bytes) = Unit {0}
IsPlain (Code.Assign n p e) = Unit {0}
IsPlain (Code.Call n goal call) = Unit {0}
IsPlain (Code.If n e one other) = ⊥
IsPlain (Code.Loop n e step body) = ⊥
IsPlain (Code.Do n body e) = ⊥
IsPlain (Code.Switch n e clauses) = ⊥
IsPlain (Code.Block body) = ⊥
IsPlain (Code.Return n e) = Unit {0}
IsPlain (Code.Jump n way) = Unit {0}

-- the step is such code as a statement of any number
abbrev pub IsPlainStep : Step → Type 0
IsPlainStep s = (n : ℕ) → IsPlain (code_of (stmt n s))

-- what is found right is such a step
abbrev pub GivesPlain : Checked Step → Type 0
GivesPlain c = (s : Step) → c ≡ Right s → IsPlainStep s

pub record ArePlainRules (scope : Scope) (rules : Rules) : Type 0 where
  pub assigned : (names : List LocalName) (at : Place) (op : List ℕ) (a b : Written) → GivesPlain (rules.assigned scope names at op a b)
  pub called : (names : List LocalName) (w : Written) → GivesPlain (rules.called scope names w)
  pub stored : (names : List LocalName) (p : Place) (object : Lval) (t : Ty) (w : Written) → GivesPlain (rules.stored scope names p object t w)
  pub returned : (names : List LocalName) (p : Place) (result : Ty) (w : Written) → GivesPlain (rules.returned scope names p result w)
