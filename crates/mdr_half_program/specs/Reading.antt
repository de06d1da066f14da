-- for proofs
-- The printed text of a half, read with the plan.
use Rattle.std.specs.Prelude.{◌≡◌, true, List, map, Ok}
use Rattle.std.specs.List.{list_all}
use Rattle.mdr_core.specs.declared.plan.Half.{Half}
use Rattle.mdr_core.specs.declared.plan.Half.TheVariants.{User}
use Rattle.mdr_core.specs.declared.plan.Plan.{Plan}
use Rattle.mdr_core.specs.declared.program.Program.{Program}
use Rattle.mdr_core.specs.Suited.{IsSuited}
use Rattle.mdr_syntax.specs.declared.token.Token.{Token}
use Rattle.mdr_syntax.specs.declared.tree.Tree.{Tree}
use Rattle.mdr_syntax.specs.Tokens.{tokens_of}
use Rattle.mdr_grammar.specs.Grammar.{Reads}
use Rattle.mdr_roundtrip.specs.Again.{IsPrintedAsSource}
use Rattle.mdr_faults.specs.Faults.{Right}
use Rattle.mdr_body.specs.Bodies.{body_rule}
use Rattle.mdr_body.specs.Uses.{first_use}
use Rattle.mdr_typing.specs.Profile.{profile_rules}
use Rattle.mdr_check.specs.declared.file.Piece.{Piece}
use Rattle.mdr_check.specs.Whole.{file_pieces}
use Rattle.mdr_program.specs.declared.parts.Parts.{Parts}
use Rattle.mdr_program.specs.Occurring.{occurring}
use Rattle.mdr_program.specs.Parts.{parts_of}
use Rattle.mdr_program.specs.Programs.{program_of}
use Rattle.mdr_check_half.specs.HalfPrograms.{half_typed}
use Rattle.mdr_check_half.specs.Suiting.{has_type}
use Rattle.mdr_half.specs.Halves.{user_text, user_tree}
use Rattle.mdr_half_program.specs.Bodies.{HaveBodies}
use Rattle.mdr_half_program.specs.Pieces.{piece_in}
use Rattle.mdr_half_program.specs.Programs.{IsPartOf}

-- the tree that was read of a half's text comes with the plan to the half's part of the program
pub record ComesToPart (half : Half) (plan : Plan) (read : Tree) (whole : Program) : Type 0 where
  pub part : Program
  pub typed : half_typed (body_rule profile_rules) first_use plan read.items ≡ Right part
  pub is_part : IsPartOf half plan whole part

-- the plan has each type that occurs in the text
abbrev pub HasTypes : Plan → Parts → Type 0
HasTypes plan ps = list_all (λ t. has_type plan.types t) (occurring ps) ≡ true

-- the user half is printed as a source of it, this is the tree that is read of its text, and the plan suits the whole program
abbrev pub PrintedHalvesHaveThePrograms : Type 0
PrintedHalvesHaveThePrograms = (plan : Plan) (tree read : Tree) (tokens : List Token) (xs : List Piece)
    → IsPrintedAsSource true (user_tree plan tree) → tokens_of (user_text plan tree) ≡ Ok tokens → Reads true tokens read
    → file_pieces (body_rule profile_rules) first_use tree.items ≡ Right xs → HaveBodies (program_of xs).funcs → IsSuited plan (program_of xs) → HasTypes plan (parts_of (map (piece_in User plan) xs))
    → ComesToPart User plan read (program_of xs)
