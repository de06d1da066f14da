-- protocol
-- The program of a user half's text, stage by stage.
use Rattle.std.specs.Prelude.{◌≡◌, ℕ, true, List, Option, Some, None}
use Rattle.mdr_core.specs.declared.plan.Plan.{Plan}
use Rattle.mdr_core.specs.declared.program.Program.{Program}
use Rattle.mdr_core.specs.Sound.{HasFewNumbers}
use Rattle.mdr_syntax.specs.declared.token.Token.{Token}
use Rattle.mdr_syntax.specs.declared.tree.Tree.{Tree}
use Rattle.mdr_parse.specs.declared.error.ParseError.{ParseError}
use Rattle.mdr_parse.specs.declared.error.ParseError.TheVariants as parse
use Rattle.mdr_grammar.specs.Grammar.{Reads}
use Rattle.mdr_faults.specs.Faults.{Checked, Right}
use Rattle.mdr_body.specs.Bodies.{body_rule}
use Rattle.mdr_body.specs.Uses.{first_use}
use Rattle.mdr_typing.specs.Profile.{profile_rules}
use Rattle.mdr_check_half.specs.HalfPrograms.{half_typed}
use Rattle.mdr_half_source.specs.Loads.{ComesTo}

-- the program of a tree with a plan, or all faults in it
abbrev pub typed_half : Plan → Tree → Checked Program
typed_half plan tree = half_typed (body_rule profile_rules) first_use plan tree.items

-- no program is right
abbrev pub IsNone : Checked Program → Type 0
IsNone c = (program : Program) → c ≡ Right program → ⊥

abbrev pub Judged : Checked Program → Option Program → Type 0
Judged c (Some program) = c ≡ Right program
Judged c None = IsNone c

-- the tokens are read as a tree of the program
pub record IsRead (plan : Plan) (ts : List Token) (program : Program) : Type 0 where
  pub tree : Tree
  pub reads : Reads true ts tree
  pub right : typed_half plan tree ≡ Right program

abbrev pub Reading : Plan → List Token → Option Program → Type 0
Reading plan ts (Some program) = IsRead plan ts program
Reading plan ts None = (tree : Tree) → Reads true ts tree → IsNone (typed_half plan tree)

-- the tokens are at fault, and not memory
abbrev pub IsFaulty : ParseError → Type 0
IsFaulty (parse.NotInProfile p word) = Unit {0}
IsFaulty (parse.Expected p) = Unit {0}
IsFaulty parse.OutOfMemory = ⊥

-- the bytes come to no program
abbrev pub IsMissing : List ℕ → Plan → Type 0
IsMissing user plan = (program : Program) → ComesTo user plan program → ⊥

abbrev pub Finds : List ℕ → Plan → Option Program → Type 0
Finds user plan (Some program) = ComesTo user plan program
Finds user plan None = IsMissing user plan

-- they come to the program, whose types, globals, structs and functions are few
pub record IsSmall (user : List ℕ) (plan : Plan) (program : Program) : Type 0 where
  pub comes : ComesTo user plan program
  pub numbers : HasFewNumbers program

abbrev pub HasHalf : List ℕ → Plan → Option Program → Type 0
HasHalf user plan (Some program) = IsSmall user plan program
HasHalf user plan None = IsMissing user plan
