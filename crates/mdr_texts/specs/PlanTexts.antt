-- for proofs
-- The text of a plan.
use Rattle.std.specs.Prelude.{◌≡◌, ℕ, List, map}
use Rattle.mdr_core.specs.declared.plan.Plan.{Plan}
use Rattle.mdr_core.specs.declared.program.Program.{Program}
use Rattle.mdr_core.specs.declared.program.StructDef.{StructDef}
use Rattle.mdr_half.specs.Plans.{plan_text}

abbrev pub struct_names : Program → List (List ℕ)
struct_names program = map (λ (def : StructDef). def.name) program.structs

-- the bytes are the plan's text in each program whose structs have these names
pub record IsTextOf (bytes : List ℕ) (plan : Plan) : Type 0 where
  pub names : List (List ℕ)
  pub text : (program : Program) → struct_names program ≡ names → plan_text program plan ≡ bytes
