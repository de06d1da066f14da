-- for proofs
-- Sources without faults define each function that they declare (C99 6.9, paragraphs 3 and 5).
use Rattle.std.specs.Prelude.{◌≡◌, ℕ, false, List, Ok}
use Rattle.mdr_syntax.specs.declared.token.Token.{Token}
use Rattle.mdr_syntax.specs.declared.tree.Tree.{Tree}
use Rattle.mdr_syntax.specs.Tokens.{tokens_of}
use Rattle.mdr_grammar.specs.Grammar.{Reads}
use Rattle.mdr_faults.specs.Faults.{Right}
use Rattle.mdr_body.specs.Bodies.{body_rule}
use Rattle.mdr_body.specs.Uses.{first_use}
use Rattle.mdr_typing.specs.Profile.{profile_rules}
use Rattle.mdr_check.specs.declared.file.Piece.{Piece}
use Rattle.mdr_check.specs.Whole.{file_pieces}
use Rattle.mdr_program.specs.Programs.{program_of}
use Rattle.mdr_half_program.specs.Bodies.{HaveBodies}

-- each function of a source's program has its body
abbrev pub SourcesHaveBodies : Type 0
SourcesHaveBodies = (bytes : List ℕ) (tokens : List Token) (tree : Tree) (xs : List Piece)
    → tokens_of bytes ≡ Ok tokens → Reads false tokens tree → file_pieces (body_rule profile_rules) first_use tree.items ≡ Right xs → HaveBodies (program_of xs).funcs
