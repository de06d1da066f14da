-- for proofs
-- Sources that define each function that they declare (C99 6.9, paragraphs 3 and 5).
use Rattle.std.specs.Prelude.{◌≡◌, ℕ, true, List, Some, slice_get}
use Rattle.mdr_core.specs.declared.program.Func.{Func}
use Rattle.mdr_core.specs.declared.program.Program.{Program}
use Rattle.mdr_syntax.specs.declared.tree.Item.{Item}
use Rattle.mdr_faults.specs.Faults.{Right}
use Rattle.mdr_headings.specs.Functions.{has_body}
use Rattle.mdr_check.specs.declared.file.Piece.{Piece}
use Rattle.mdr_check.specs.Files.{BodyRule}
use Rattle.mdr_check.specs.Uses.{UseRule}
use Rattle.mdr_check.specs.Whole.{file_pieces}
use Rattle.mdr_program.specs.Programs.{program_of}
use Rattle.mdr_half_program.specs.Bodies.{HaveBodies}

-- one of the items is a body of each function
pub record DefinesAll (items : List Item) (program : Program) : Type 0 where
  pub defines : (f : ℕ) (func : Func) → slice_get program.funcs f ≡ Some func → has_body items func.name ≡ true

-- then each function of the program has it
abbrev pub DefinedFunctionsHaveBodies : Type 0
DefinedFunctionsHaveBodies = (body : BodyRule) (uses : UseRule) (items : List Item) (xs : List Piece) → file_pieces body uses items ≡ Right xs → DefinesAll items (program_of xs) → HaveBodies (program_of xs).funcs
