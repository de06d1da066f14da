-- for proofs
-- From a source to the program of its user half.
use Rattle.std.specs.Prelude.{◌≡◌, ◌≤◌, ℕ, false, true, List, length, Ok}
use Rattle.mdr_core.specs.declared.plan.Half.TheVariants.{User}
use Rattle.mdr_core.specs.declared.plan.Plan.{Plan}
use Rattle.mdr_core.specs.declared.program.Program.{Program}
use Rattle.mdr_slice.specs.declared.halves.Halves.{Halves}
use Rattle.mdr_access.specs.Keys.{HasEach, IsPlan}
use Rattle.mdr_syntax.specs.declared.token.Token.{Token}
use Rattle.mdr_syntax.specs.declared.tree.Tree.{Tree}
use Rattle.mdr_syntax.specs.Tokens.{tokens_of}
use Rattle.mdr_grammar.specs.Grammar.{Reads}
use Rattle.mdr_faults.specs.Faults.{Right}
use Rattle.mdr_body.specs.Bodies.{body_rule}
use Rattle.mdr_body.specs.Uses.{first_use}
use Rattle.mdr_typing.specs.Profile.{profile_rules}
use Rattle.mdr_program.specs.Programs.{typed}
use Rattle.mdr_half.specs.Halves.{user_text}
use Rattle.mdr_half_program.specs.Reading.{ComesToPart}

-- the bytes are a source in which no fault is found, and these are its tree and its program
pub record IsWhole (bytes : List ℕ) (tree : Tree) (program : Program) : Type 0 where
  pub tokens : List Token
  pub lexed : tokens_of bytes ≡ Ok tokens
  pub reads : Reads false tokens tree
  pub right : typed (body_rule profile_rules) first_use tree.items ≡ Right program
  pub types : length program.types ≤ 4294967296

-- the tree is read of the text that is printed of the user half
pub record IsReadOf (plan : Plan) (tree read : Tree) : Type 0 where
  pub tokens : List Token
  pub lexed : tokens_of (user_text plan tree) ≡ Ok tokens
  pub reads : Reads true tokens read

-- the user text of a source, read with the source's plan, comes to the user half's part of the source's program
abbrev pub TheUserTextGivesItsPart : Type 0
TheUserTextGivesItsPart = (bytes : List ℕ) (tree read : Tree) (program : Program) (halves : Halves) (plan : Plan)
    → IsWhole bytes tree program → HasEach program halves → IsPlan program halves plan → IsReadOf plan tree read → ComesToPart User plan read program
