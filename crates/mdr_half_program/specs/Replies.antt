-- for proofs
-- The text that is printed of the user half replies as the whole program does.
use Rattle.std.specs.Prelude.{◌≡◌, ℕ, List}
use Rattle.mdr_access.specs.Keys.{HasEach, IsPlan}
use Rattle.mdr_body.specs.Bodies.{body_rule}
use Rattle.mdr_body.specs.Uses.{first_use}
use Rattle.mdr_check_half.specs.HalfPrograms.{half_typed}
use Rattle.mdr_core.specs.declared.plan.Plan.{Plan}
use Rattle.mdr_core.specs.declared.program.Program.{Program}
use Rattle.mdr_faults.specs.Faults.{Right}
use Rattle.mdr_half_program.specs.Whole.{IsReadOf, IsWhole}
use Rattle.mdr_model.specs.KernelState.{Reading}
use Rattle.mdr_slice.specs.declared.halves.Halves.{Halves}
use Rattle.mdr_split.specs.Law.{IsUserText}
use Rattle.mdr_split.specs.User.{user_reply}
use Rattle.mdr_syntax.specs.declared.tree.Tree.{Tree}
use Rattle.mdr_typing.specs.Profile.{profile_rules}
use Rattle.mdr_watched.specs.Driver.{driver_of}

-- the tree comes with the plan to a program that has the user half's bodies and all headings, and whose user half gives the same replies
pub record RepliesAsTheWhole (plan : Plan) (read : Tree) (program : Program) : Type 0 where
  pub part : Program
  pub typed : half_typed (body_rule profile_rules) first_use plan read.items ≡ Right part
  pub is_text : IsUserText plan program part
  pub replies : (before : List Reading) (last : Reading) → user_reply (driver_of part plan) before last ≡ user_reply (driver_of program plan) before last

-- the user text of a source, read with the source's plan, is one
abbrev pub TheUserTextRepliesAsTheWhole : Type 0
TheUserTextRepliesAsTheWhole = (bytes : List ℕ) (tree read : Tree) (program : Program) (halves : Halves) (plan : Plan)
    → IsWhole bytes tree program → HasEach program halves → IsPlan program halves plan → IsReadOf plan tree read → RepliesAsTheWhole plan read program
