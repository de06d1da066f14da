-- for proofs
-- The programs of which a plan is read from its text.
use Rattle.std.specs.Prelude.{◌≡◌, ℕ, ◌^◌, ◌≤◌, List, length, map, Some, slice_get, IsTrue}
use Rattle.mdr_core.specs.declared.plan.Plan.{Plan}
use Rattle.mdr_core.specs.declared.program.Func.{Func}
use Rattle.mdr_core.specs.declared.program.Program.{Program}
use Rattle.mdr_core.specs.Layout.{AreFew}
use Rattle.mdr_lower.specs.Tables.{IsOrderedTable}
use Rattle.mdr_half.specs.Plans.{plan_text}
use Rattle.mdr_slice.specs.declared.halves.Halves.{Halves}
use Rattle.mdr_access.specs.Keys.{HasEach, IsPlan}
use Rattle.mdr_plan.specs.Naming.{is_name}
use Rattle.mdr_plan.specs.Texts.{IsPlanText}
use Rattle.mdr_texts.specs.Canonical.{IsCanonical}
use Rattle.mdr_texts.specs.PlanTexts.{struct_names}

-- identifiers (C99 6.4.2.1), no two of them the same
pub record AreNames (names : List (List ℕ)) : Type 0 where
  pub each : (i : ℕ) (name : List ℕ) → slice_get names i ≡ Some name → IsTrue (is_name name)
  pub once : (i j : ℕ) (name : List ℕ) → slice_get names i ≡ Some name → slice_get names j ≡ Some name → i ≡ j

abbrev pub func_names : Program → List (List ℕ)
func_names program = map (λ (func : Func). func.name) program.funcs

-- what is numbered has numbers of 32 bits, and functions of 64
pub record HasShortNumbers (program : Program) : Type 0 where
  pub structs : length program.structs ≤ 2 ^ 32
  pub fields : AreFew program.structs
  pub globals : length program.globals ≤ 2 ^ 32
  pub types : length program.types ≤ 2 ^ 32
  pub funcs : length program.funcs ≤ 2 ^ 64

-- structs and functions have names of their own, and the type table is in order
pub record IsPlannable (program : Program) : Type 0 where
  pub table : IsOrderedTable program
  pub structs : AreNames (struct_names program)
  pub funcs : AreNames (func_names program)
  pub short : HasShortNumbers program

abbrev pub PlansAreCanonical : Type 0
PlansAreCanonical = (program : Program) (halves : Halves) (plan : Plan) → IsPlannable program → HasEach program halves → IsPlan program halves plan → IsCanonical (struct_names program) plan

abbrev pub PlansAreRead : Type 0
PlansAreRead = (program : Program) (halves : Halves) (plan : Plan) → IsPlannable program → HasEach program halves → IsPlan program halves plan → IsPlanText (plan_text program plan) plan
