-- believed
-- A driver in two halves, and what a call passes to it.
use Rattle.std.specs.Prelude.{ℕ, Bool, true, false, not, List, [], ◌∷◌, Option, Some, None, slice_get, unwrap_or}
use Rattle.mdr_core.specs.declared.plan.Half.{Half}
use Rattle.mdr_core.specs.declared.plan.Half.TheVariants.{Kernel, User}
use Rattle.mdr_core.specs.declared.plan.Key.{Key}
use Rattle.mdr_core.specs.declared.plan.Plan.{Plan}
use Rattle.mdr_core.specs.declared.program.Func.{Func}
use Rattle.mdr_core.specs.declared.program.Param.{Param}
use Rattle.mdr_core.specs.declared.program.Program.{Program}
use Rattle.mdr_core.specs.declared.types.Ann.TheVariants.{Single}
use Rattle.mdr_extents.specs.Reaching.{Root, Roots}
use Rattle.mdr_meaning.specs.declared.wire.Wire.{Wire}
use Rattle.mdr_meaning.specs.declared.wire.Wire.TheVariants as wire
use Rattle.mdr_meaning.specs.Bodies.{kernel_side, user_side}
use Rattle.mdr_meaning.specs.Sides.{Side}

abbrev pub is_user_half : Option Half → Bool
is_user_half None = false
is_user_half (Some Kernel) = false
is_user_half (Some User) = true

abbrev pub is_user : Plan → ℕ → Bool
is_user plan f = is_user_half (slice_get plan.halves f)

-- S(t): the keys of what a function of the user half may touch, with all that it calls in its half
abbrev pub touched_by : Plan → ℕ → List Key
touched_by plan t = unwrap_or (slice_get plan.keys t) []

-- a program with its plan, and the bodies of each half. The user half asks for births and deaths of objects
pub record Driver : Type 0 where
  pub program : Program
  pub plan : Plan
  pub kernel : Side
  pub user : Side

abbrev pub driver_of : Program → Plan → Driver
driver_of program plan = record {
  program = program;
  plan = plan;
  kernel = kernel_side (λ f. not (is_user plan f)) program;
  user = user_side (λ f. not (is_user plan f)) program;
}

-- ---- what is passed

abbrev pub param_roots : List Param → List Wire → List Root
param_roots [] vs = []
param_roots (p ∷ ps) [] = []
param_roots (p ∷ ps) (v ∷ vs) = record { ann = p.ann; value = v } ∷ param_roots ps vs

abbrev pub no_result : Root
no_result = record { ann = Single; value = wire.NoValue }

abbrev pub passed_to : Option Func → List Wire → Roots
passed_to None args = record { values = no_result ∷ []; passed = args }
passed_to (Some func) args = record { values = no_result ∷ param_roots func.params args; passed = args }

abbrev pub given_by : Option Func → List Wire → Wire → Roots
given_by None args v = record { values = record { ann = Single; value = v } ∷ []; passed = args }
given_by (Some func) args v = record { values = record { ann = func.ann; value = v } ∷ []; passed = args }

-- the arguments of a function that is entered
abbrev pub entry_roots : Program → (func : ℕ) → List Wire → Roots
entry_roots program f args = passed_to (slice_get program.funcs f) args

-- the result of a function that was called with these arguments
abbrev pub result_roots : Program → (func : ℕ) → List Wire → Wire → Roots
result_roots program f args v = given_by (slice_get program.funcs f) args v
