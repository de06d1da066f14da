-- for proofs
-- What is promised of S(t), and of the plan.
use Rattle.std.specs.Prelude.{◌≡◌, ℕ, List, Some}
use Rattle.mdr_core.specs.declared.program.Program.{Program}
use Rattle.mdr_core.specs.declared.types.Ty.TheVariants as type
use Rattle.mdr_core.specs.declared.plan.Key.{Key}
use Rattle.mdr_core.specs.declared.plan.Half.{Half}
use Rattle.mdr_core.specs.declared.plan.Plan.{Plan}
use Rattle.mdr_core.specs.Suited.{IsSuited, key_type}
use Rattle.mdr_slice.specs.declared.halves.Halves.{Halves}
use Rattle.mdr_access.specs.Keys.{CallsUser, HasEach, IsPlan, IsTouched}

pub record KeysAreRight : Type 0 where
  -- what a function of the user half may call, touches what it does itself
  pub grow : (program : Program) (halves : List Half) (t u : ℕ) (k : Key) → CallsUser program halves t u → IsTouched program halves u k → IsTouched program halves t k
  -- no lock, and no array of locks
  pub no_lock : (program : Program) (halves : List Half) (t : ℕ) (k : Key) → IsTouched program halves t k → key_type program k ≡ Some type.Lock → ⊥
  -- the plan suits the program
  pub suits : (program : Program) (halves : Halves) (plan : Plan) → HasEach program halves → IsPlan program halves plan → IsSuited plan program
