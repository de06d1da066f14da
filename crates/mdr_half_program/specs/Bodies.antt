-- for proofs
-- Sources in which each function that is declared has its body (C99 6.9, paragraph 3).
use Rattle.std.specs.Prelude.{◌≡◌, true, List, [], ◌∷◌, is_some}
use Rattle.mdr_core.specs.declared.program.Func.{Func}
use Rattle.mdr_syntax.specs.declared.tree.Item.{Item}
use Rattle.mdr_faults.specs.Faults.{Right}
use Rattle.mdr_check.specs.declared.file.Piece.{Piece}
use Rattle.mdr_check.specs.Files.{BodyRule}
use Rattle.mdr_check.specs.Uses.{UseRule}
use Rattle.mdr_check.specs.Whole.{file_pieces}
use Rattle.mdr_program.specs.Programs.{program_of}
use Rattle.mdr_half_program.specs.Pieces.{unused}

abbrev pub HaveBodies : List Func → Type 0
HaveBodies [] = Unit {0}
HaveBodies (f ∷ fs) = (is_some f.body ≡ true) × HaveBodies fs

-- what a file without faults comes to doesn't depend on what its bodies use
abbrev pub NoUseIsAskedFor : Type 0
NoUseIsAskedFor = (body : BodyRule) (uses : UseRule) (items : List Item) (xs : List Piece) → file_pieces body uses items ≡ Right xs → file_pieces body unused items ≡ Right xs
