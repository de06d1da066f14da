-- for proofs
-- What holds of the program of a user half's text.
use Rattle.std.specs.Prelude.{◌≡◌, List}
use Rattle.mdr_core.specs.declared.plan.Plan.{Plan}
use Rattle.mdr_core.specs.declared.program.Program.{Program}
use Rattle.mdr_core.specs.Suited.{IsSuited}
use Rattle.mdr_syntax.specs.declared.tree.Item.{Item}
use Rattle.mdr_faults.specs.Faults.{Right}
use Rattle.mdr_check.specs.Files.{BodyRule}
use Rattle.mdr_check.specs.Uses.{UseRule}
use Rattle.mdr_check_half.specs.HalfPrograms.{half_typed}
use Rattle.mdr_check_half.specs.Planned.{IsPlanned}

-- the plan suits the program that a text has with it
abbrev pub PlansSuitTheirHalves : Type 0
PlansSuitTheirHalves = (body : BodyRule) (uses : UseRule) (plan : Plan) (items : List Item) (program : Program) → IsPlanned plan → half_typed body uses plan items ≡ Right program → IsSuited plan program
