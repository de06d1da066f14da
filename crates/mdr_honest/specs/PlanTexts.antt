-- for proofs
-- What a plan's text gives.
use Rattle.std.specs.Prelude.{ℕ, ◌≤◌, List, length}
use Rattle.mdr_core.specs.declared.plan.Plan.{Plan}
use Rattle.mdr_plan.specs.Texts.{IsPlanText}
use Rattle.mdr_check_half.specs.Planned.{IsPlanned}

abbrev pub PlansThatAreReadArePlanned : Type 0
PlansThatAreReadArePlanned = (bytes : List ℕ) (plan : Plan) → IsPlanText bytes plan → IsPlanned plan

-- no more types than the text has bytes
abbrev pub PlansHaveFewTypes : Type 0
PlansHaveFewTypes = (bytes : List ℕ) (plan : Plan) → IsPlanText bytes plan → length plan.types ≤ length bytes
