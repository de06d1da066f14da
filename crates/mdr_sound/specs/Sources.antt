-- for proofs
-- The program of a source in which no fault is found is sound.
use Rattle.std.specs.Prelude.{◌≡◌, ℕ, Bool, List, Ok}
use Rattle.mdr_core.specs.declared.program.Program.{Program}
use Rattle.mdr_core.specs.Sound.{HasFewNumbers, IsSound}
use Rattle.mdr_syntax.specs.declared.token.Token.{Token}
use Rattle.mdr_syntax.specs.declared.tree.Tree.{Tree}
use Rattle.mdr_syntax.specs.Tokens.{tokens_of}
use Rattle.mdr_grammar.specs.Grammar.{Reads}
use Rattle.mdr_faults.specs.Faults.{Right}
use Rattle.mdr_check.specs.Uses.{UseRule}
use Rattle.mdr_body.specs.Bodies.{body_rule}
use Rattle.mdr_lower.specs.Tables.{IsOrderedTable}
use Rattle.mdr_program.specs.Programs.{typed}
use Rattle.mdr_typing.specs.Profile.{profile_rules}

-- the source's tree comes to the program by the rules of types
pub record IsProgramOf (bytes : List ℕ) (halves : Bool) (uses : UseRule) (program : Program) : Type 0 where
  pub tokens : List Token
  pub tree : Tree
  pub lexed : tokens_of bytes ≡ Ok tokens
  pub read : Reads halves tokens tree
  pub typed : typed (body_rule profile_rules) uses tree.items ≡ Right program

-- its type table has each type that occurs, once, in the order of their texts
abbrev pub SourcesHaveOrderedTables : Type 0
SourcesHaveOrderedTables = (bytes : List ℕ) (halves : Bool) (uses : UseRule) (program : Program) → IsProgramOf bytes halves uses program → IsOrderedTable program

-- the program is sound, if its types, globals, structs and functions are few
abbrev pub SourcesAreSound : Type 0
SourcesAreSound = (bytes : List ℕ) (halves : Bool) (uses : UseRule) (program : Program) → IsProgramOf bytes halves uses program → HasFewNumbers program → IsSound program
