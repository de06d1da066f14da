-- believed
-- What the texts of a user half and of its plan load, and why texts are refused.
use Rattle.std.specs.Prelude.{◌≡◌, ℕ, Bool, true, List, Ok}
use Rattle.mdr_core.specs.declared.plan.Plan.{Plan}
use Rattle.mdr_core.specs.declared.program.Program.{Program}
use Rattle.mdr_core.specs.Sound.{HasFewNumbers}
use Rattle.mdr_syntax.specs.declared.token.Token.{Token}
use Rattle.mdr_syntax.specs.declared.tree.Tree.{Tree}
use Rattle.mdr_syntax.specs.Tokens.{tokens_of}
use Rattle.mdr_grammar.specs.Grammar.{Reads}
use Rattle.mdr_faults.specs.Faults.{Right}
use Rattle.mdr_check.specs.Uses.{UseRule}
use Rattle.mdr_body.specs.Bodies.{body_rule}
use Rattle.mdr_body.specs.Uses.{first_use}
use Rattle.mdr_typing.specs.Profile.{profile_rules}
use Rattle.mdr_check_half.specs.HalfPrograms.{half_typed}
use Rattle.mdr_plan.specs.Texts.{IsPlanText}

-- the text's tree comes to the program by the rules of types and the plan
pub record IsHalfProgramOf (bytes : List ℕ) (halves : Bool) (uses : UseRule) (plan : Plan) (program : Program) : Type 0 where
  pub tokens : List Token
  pub tree : Tree
  pub lexed : tokens_of bytes ≡ Ok tokens
  pub read : Reads halves tokens tree
  pub typed : half_typed (body_rule profile_rules) uses plan tree.items ≡ Right program

-- the text of a user half comes to this program with the plan, by the rules of types
abbrev pub ComesTo : (user : List ℕ) → Plan → Program → Type 0
ComesTo user plan program = IsHalfProgramOf user true first_use plan program

-- the plan's text is read as this plan, and the user half's text comes, with it, to this program, whose types, globals, structs and functions are few
pub record Loads (user plan_text : List ℕ) (program : Program) (plan : Plan) : Type 0 where
  pub planned : IsPlanText plan_text plan
  pub comes : ComesTo user plan program
  pub numbers : HasFewNumbers program

-- texts that can be loaded
pub record AreLoadable (user plan_text : List ℕ) : Type 0 where
  pub program : Program
  pub plan : Plan
  pub loads : Loads user plan_text program plan

-- why texts are refused: 1 where the plan's is the text of no plan, and else 2 where the user half's comes with the plan to no program
pub data AreRefused (user plan_text : List ℕ) (cause : ℕ) : Type 0 where
  no_plan : cause ≡ 1 → ((plan : Plan) → IsPlanText plan_text plan → ⊥) → AreRefused user plan_text cause
  no_program : (plan : Plan) → cause ≡ 2 → IsPlanText plan_text plan → ((program : Program) → ComesTo user plan program → ⊥) → AreRefused user plan_text cause
