-- for proofs
-- The types of functions in a half's text, beside those of the whole source (C99 6.7, paragraph 4).
use Rattle.std.specs.Prelude.{◌≡◌, List, [], ◌∷◌, map}
use Rattle.mdr_core.specs.declared.plan.Half.{Half}
use Rattle.mdr_core.specs.declared.plan.Plan.{Plan}
use Rattle.mdr_core.specs.declared.program.Func.{Func}
use Rattle.mdr_core.specs.Typing.{function_type}
use Rattle.mdr_syntax.specs.declared.tree.Tree.{Tree}
use Rattle.mdr_faults.specs.Faults.{Right}
use Rattle.mdr_check.specs.declared.file.Piece.{Piece}
use Rattle.mdr_check.specs.Files.{BodyRule}
use Rattle.mdr_check.specs.Uses.{UseRule}
use Rattle.mdr_check.specs.Whole.{file_pieces}
use Rattle.mdr_program.specs.Parts.{parts_of}
use Rattle.mdr_program.specs.Programs.{program_of}
use Rattle.mdr_half_program.specs.Bodies.{HaveBodies}
use Rattle.mdr_half_program.specs.Pieces.{piece_in}

-- as many functions, and each has the same result and parameters of the same types
abbrev pub HaveSameTypes : List Func → List Func → Type 0
HaveSameTypes [] [] = Unit {0}
HaveSameTypes [] (g ∷ gs) = ⊥
HaveSameTypes (f ∷ fs) [] = ⊥
HaveSameTypes (f ∷ fs) (g ∷ gs) = (function_type f ≡ function_type g) × HaveSameTypes fs gs

-- the functions of both halves, in the text of each
abbrev pub FunctionsKeepTheirTypes : Type 0
FunctionsKeepTheirTypes = (body : BodyRule) (uses : UseRule) (half : Half) (plan : Plan) (tree : Tree) (xs : List Piece)
    → file_pieces body uses tree.items ≡ Right xs → HaveBodies (program_of xs).funcs → HaveSameTypes (parts_of xs).funcs (parts_of (map (piece_in half plan) xs)).funcs
