-- for proofs
-- The plans of sources.
use Rattle.std.specs.Prelude.{◌≡◌, ℕ, false, List, Ok}
use Rattle.mdr_core.specs.declared.plan.Plan.{Plan}
use Rattle.mdr_core.specs.declared.program.Program.{Program}
use Rattle.mdr_syntax.specs.declared.token.Token.{Token}
use Rattle.mdr_syntax.specs.declared.tree.Tree.{Tree}
use Rattle.mdr_syntax.specs.Tokens.{tokens_of}
use Rattle.mdr_grammar.specs.Grammar.{Reads}
use Rattle.mdr_faults.specs.Faults.{Right}
use Rattle.mdr_check.specs.Files.{BodyRule}
use Rattle.mdr_check.specs.Uses.{UseRule}
use Rattle.mdr_program.specs.Programs.{typed}
use Rattle.mdr_half.specs.Plans.{plan_text}
use Rattle.mdr_slice.specs.declared.halves.Halves.{Halves}
use Rattle.mdr_access.specs.Keys.{HasEach, IsPlan}
use Rattle.mdr_plan.specs.Naming.{is_name}
use Rattle.mdr_plan.specs.Texts.{IsPlanText}
use Rattle.mdr_type_table.specs.Tabled.{HasFormedPointers}
use Rattle.mdr_type_table.specs.FileNames.{HaveNames, struct_name, func_name}
use Rattle.mdr_honest.specs.Plannable.{HasShortNumbers, IsPlannable}

-- the bytes are a source, and this is its tree
pub record IsSource (bytes : List ℕ) (tree : Tree) : Type 0 where
  pub tokens : List Token
  pub lexed : tokens_of bytes ≡ Ok tokens
  pub read : Reads false tokens tree

pub record HaveIdentifiers (tree : Tree) : Type 0 where
  pub structs : HaveNames struct_name is_name tree.items
  pub funcs : HaveNames func_name is_name tree.items

abbrev pub NamesOfSourcesAreNames : Type 0
NamesOfSourcesAreNames = (bytes : List ℕ) (tree : Tree) → IsSource bytes tree → HaveIdentifiers tree

-- no fault is found in the source, and this is its program
pub record IsProgramOf (body : BodyRule) (uses : UseRule) (bytes : List ℕ) (program : Program) : Type 0 where
  pub tree : Tree
  pub source : IsSource bytes tree
  pub right : typed body uses tree.items ≡ Right program

abbrev pub ProgramsOfSourcesArePlannable : Type 0
ProgramsOfSourcesArePlannable = (body : BodyRule) (uses : UseRule) (bytes : List ℕ) (program : Program) → IsProgramOf body uses bytes program → HasFormedPointers program → HasShortNumbers program → IsPlannable program

abbrev pub PlansOfSourcesAreRead : Type 0
PlansOfSourcesAreRead = (body : BodyRule) (uses : UseRule) (bytes : List ℕ) (program : Program) (halves : Halves) (plan : Plan) → IsProgramOf body uses bytes program → HasFormedPointers program → HasShortNumbers program → HasEach program halves → IsPlan program halves plan → IsPlanText (plan_text program plan) plan
