-- believed
-- What a source is cut into: its plan, the texts of its halves, and what a report says of it.
use Rattle.std.specs.Prelude.{◌≡◌, ℕ, true, List, ◌++◌}
use Rattle.mdr_core.specs.declared.program.Program.{Program}
use Rattle.mdr_core.specs.declared.plan.Plan.{Plan}
use Rattle.mdr_syntax.specs.declared.tree.Tree.{Tree}
use Rattle.mdr_slice.specs.declared.halves.Halves.{Halves}
use Rattle.mdr_slice.specs.Graph.{AreCallees, AreRoots}
use Rattle.mdr_slice.specs.Halves.{AreHalves}
use Rattle.mdr_access.specs.Keys.{IsPlan}
use Rattle.mdr_half.specs.Halves.{kernel_text, user_text}
use Rattle.mdr_half.specs.Plans.{calls_text, plan_text}
use Rattle.mdr_cut.specs.declared.texts.Texts.{Texts}

-- the plan of a program: its halves are those that its roots give
pub record IsPlanOf (program : Program) (plan : Plan) : Type 0 where
  pub roots : List ℕ
  pub are_roots : AreRoots program roots
  pub halves : Halves
  pub are_halves : AreHalves program roots halves
  pub is_plan : IsPlan program halves plan

-- the texts of a source that has this tree and this program
pub record AreTexts (tree : Tree) (program : Program) (texts : Texts) : Type 0 where
  pub plan : Plan
  pub is_plan : IsPlanOf program plan
  pub kernel_is : texts.kernel ≡ kernel_text plan tree
  pub user_is : texts.user ≡ user_text plan tree
  pub plan_is : texts.plan ≡ plan_text program plan

-- a report: what each function may call, and then the plan
pub record IsReport (program : Program) (text : List ℕ) : Type 0 where
  pub graph : List (List ℕ)
  pub are_callees : AreCallees program true graph
  pub plan : Plan
  pub is_plan : IsPlanOf program plan
  pub text_is : text ≡ calls_text program graph ++ plan_text program plan

-- ---- there is one of each

abbrev pub PlanIsDetermined : Type 0
PlanIsDetermined = (program : Program) (plan other : Plan) → IsPlanOf program plan → IsPlanOf program other → plan ≡ other

abbrev pub TextsAreDetermined : Type 0
TextsAreDetermined = (tree : Tree) (program : Program) (texts others : Texts) → AreTexts tree program texts → AreTexts tree program others → texts ≡ others

abbrev pub ReportIsDetermined : Type 0
ReportIsDetermined = (program : Program) (text other : List ℕ) → IsReport program text → IsReport program other → text ≡ other
