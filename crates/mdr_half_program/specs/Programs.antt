-- for proofs
-- The program of a half's text, beside that of the whole source.
use Rattle.std.specs.Prelude.{◌≡◌, true, List, map}
use Rattle.mdr_core.specs.declared.plan.Half.{Half}
use Rattle.mdr_core.specs.declared.plan.Plan.{Plan}
use Rattle.mdr_core.specs.declared.program.Program.{Program}
use Rattle.mdr_syntax.specs.declared.tree.Tree.{Tree}
use Rattle.mdr_faults.specs.Faults.{Right}
use Rattle.mdr_check.specs.declared.file.Piece.{Piece}
use Rattle.mdr_check.specs.Files.{BodyRule}
use Rattle.mdr_check.specs.Uses.{UseRule}
use Rattle.mdr_check.specs.Whole.{file_pieces}
use Rattle.mdr_program.specs.Parts.{parts_of}
use Rattle.mdr_program.specs.Programs.{program_of}
use Rattle.mdr_check_half.specs.HalfPrograms.{half_typed}
use Rattle.mdr_check_half.specs.Suiting.{suits_text}
use Rattle.mdr_half.specs.Halves.{half_tree}
use Rattle.mdr_half_program.specs.Pieces.{piece_in, unused}
use Rattle.mdr_half_program.specs.Sides.{AreShown}

-- the half's part of a program: types, structs and globals are the same, and functions but for the bodies of the other half
pub record IsPartOf (half : Half) (plan : Plan) (whole part : Program) : Type 0 where
  pub types : part.types ≡ whole.types
  pub structs : part.structs ≡ whole.structs
  pub globals : part.globals ≡ whole.globals
  pub funcs : AreShown half plan whole.funcs part.funcs

-- the half's text with the plan comes to the half's part of the program
pub record HasPart (body : BodyRule) (uses : UseRule) (half : Half) (plan : Plan) (tree : Tree) (whole : Program) : Type 0 where
  pub part : Program
  pub typed : half_typed body uses plan (half_tree half plan tree).items ≡ Right part
  pub is_part : IsPartOf half plan whole part

-- with a plan that has the program's type table and suits the half's text
abbrev pub HalvesHaveThePrograms : Type 0
HalvesHaveThePrograms = (body : BodyRule) (uses : UseRule) (half : Half) (plan : Plan) (tree : Tree) (xs : List Piece)
    → file_pieces body unused tree.items ≡ Right xs → plan.types ≡ (program_of xs).types → suits_text plan (parts_of (map (piece_in half plan) xs)) ≡ true
    → HasPart body uses half plan tree (program_of xs)
