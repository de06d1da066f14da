-- for proofs
-- The types that occur in a half's text.
use Rattle.std.specs.Prelude.{◌≡◌, ◌≤◌, ℕ, false, List, length, map, Ok}
use Rattle.mdr_core.specs.declared.plan.Half.{Half}
use Rattle.mdr_core.specs.declared.plan.Plan.{Plan}
use Rattle.mdr_core.specs.declared.types.Ty.{Ty}
use Rattle.mdr_syntax.specs.declared.token.Token.{Token}
use Rattle.mdr_syntax.specs.declared.tree.Tree.{Tree}
use Rattle.mdr_syntax.specs.Tokens.{tokens_of}
use Rattle.mdr_grammar.specs.Grammar.{Reads}
use Rattle.mdr_faults.specs.Faults.{Right}
use Rattle.mdr_body.specs.Bodies.{body_rule}
use Rattle.mdr_body.specs.Uses.{first_use}
use Rattle.mdr_typing.specs.Profile.{profile_rules}
use Rattle.mdr_check.specs.declared.file.Piece.{Piece}
use Rattle.mdr_check.specs.Files.{BodyRule}
use Rattle.mdr_check.specs.Uses.{UseRule}
use Rattle.mdr_check.specs.Whole.{file_pieces}
use Rattle.mdr_program.specs.Occurring.{occurring}
use Rattle.mdr_program.specs.Orders.{IsAmong}
use Rattle.mdr_program.specs.Parts.{parts_of}
use Rattle.mdr_program.specs.Programs.{program_of}
use Rattle.mdr_half_program.specs.Bodies.{HaveBodies}
use Rattle.mdr_half_program.specs.Pieces.{piece_in}
use Rattle.mdr_half_program.specs.Reading.{HasTypes}

-- each occurs in the whole source
abbrev pub TypesOfHalvesOccur : Type 0
TypesOfHalvesOccur = (body : BodyRule) (uses : UseRule) (half : Half) (plan : Plan) (tree : Tree) (xs : List Piece)
    → file_pieces body uses tree.items ≡ Right xs → HaveBodies (program_of xs).funcs → (t : Ty) → IsAmong t (occurring (parts_of (map (piece_in half plan) xs))) → IsAmong t (occurring (parts_of xs))

-- a plan with the type table of the whole program has each
abbrev pub PlansHaveTheTypes : Type 0
PlansHaveTheTypes = (bytes : List ℕ) (tokens : List Token) (half : Half) (plan : Plan) (tree : Tree) (xs : List Piece)
    → tokens_of bytes ≡ Ok tokens → Reads false tokens tree → file_pieces (body_rule profile_rules) first_use tree.items ≡ Right xs
    → length (program_of xs).types ≤ 4294967296 → plan.types ≡ (program_of xs).types → HasTypes plan (parts_of (map (piece_in half plan) xs))
