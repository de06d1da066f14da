-- believed
-- Statements that call the service that calls back (C99 6.5.2.2), and programs that don't.
use Rattle.std.specs.Prelude.{◌≡◌, ◌==◌, ◌||◌, ℕ, Bool, false, List, Some, slice_get}
use Rattle.mdr_core.specs.declared.code.Stmt.{Stmt}
use Rattle.mdr_core.specs.declared.program.Func.{Func}
use Rattle.mdr_core.specs.declared.program.Program.{Program}
use Rattle.mdr_core.specs.Code.{Called, Code, Codes}
use Rattle.mdr_core.specs.Folds.{codes_of}

-- the service that calls back has the number 15
abbrev pub is_back : Called → Bool
is_back (Called.Direct f) = false
is_back (Called.Through e) = false
is_back (Called.Service n) = n == 15

-- it is called in a statement
abbrev mutual
  pub calls_back : Code → Bool
  calls_back (Code.Declare n i) = false
  calls_back (Code.Text n i bytes) = false
  calls_back (Code.Assign n p e) = false
  calls_back (Code.Call n goal call) = is_back call.callee
  calls_back (Code.If n e one other) = call_back one || call_back other
  calls_back (Code.Loop n e step body) = call_back step || call_back body
  calls_back (Code.Block body) = call_back body
  calls_back (Code.Return n e) = false
  calls_back (Code.Jump n way) = false

  pub call_back : Codes → Bool
  call_back Codes.End = false
  call_back (Codes.Then c cs) = calls_back c || call_back cs

-- no function of the program calls it
abbrev pub CallsNothingBack : Program → Type 0
CallsNothingBack program = (f : ℕ) (func : Func) (body : List Stmt) → slice_get program.funcs f ≡ Some func → func.body ≡ Some body → call_back (codes_of body) ≡ false
