-- for proofs
-- The headings of functions in the user half's text, beside those of the whole source (C99 6.7, paragraph 4).
use Rattle.std.specs.Prelude.{◌≡◌, ℕ, List, [], ◌∷◌, map}
use Rattle.mdr_core.specs.declared.plan.Half.{Half}
use Rattle.mdr_core.specs.declared.plan.Plan.{Plan}
use Rattle.mdr_core.specs.declared.program.Func.{Func}
use Rattle.mdr_core.specs.declared.program.Param.{Param}
use Rattle.mdr_core.specs.declared.program.Program.{Program}
use Rattle.mdr_core.specs.declared.types.Ann.{Ann}
use Rattle.mdr_core.specs.declared.types.Ty.{Ty}
use Rattle.mdr_syntax.specs.declared.tree.Tree.{Tree}
use Rattle.mdr_faults.specs.Faults.{Right}
use Rattle.mdr_body.specs.Bodies.{body_rule}
use Rattle.mdr_body.specs.Uses.{first_use}
use Rattle.mdr_typing.specs.Profile.{profile_rules}
use Rattle.mdr_check.specs.declared.file.Piece.{Piece}
use Rattle.mdr_check.specs.Files.{BodyRule}
use Rattle.mdr_check.specs.Uses.{UseRule}
use Rattle.mdr_check.specs.Whole.{file_pieces}
use Rattle.mdr_program.specs.Parts.{parts_of}
use Rattle.mdr_program.specs.Programs.{program_of}
use Rattle.mdr_check_half.specs.HalfPrograms.{half_typed}
use Rattle.mdr_half_program.specs.Bodies.{HaveBodies}
use Rattle.mdr_half_program.specs.Pieces.{piece_in}
use Rattle.mdr_half_program.specs.Whole.{IsReadOf, IsWhole}

-- a parameter without its name, which may differ from declaration to declaration (6.7.5.3, paragraph 15)
abbrev pub unnamed : Param → Ty × Ann
unnamed p = (p.ty, p.ann)

-- a function of the same name, with the same result, and parameters of the same types, all annotated alike
pub record HasSameHeading (f g : Func) : Type 0 where
  pub name : g.name ≡ f.name
  pub result : g.result ≡ f.result
  pub annotation : g.ann ≡ f.ann
  pub params : map unnamed g.params ≡ map unnamed f.params

-- as many functions, and each has the same heading
abbrev pub HaveSameHeadings : List Func → List Func → Type 0
HaveSameHeadings [] [] = Unit {0}
HaveSameHeadings [] (g ∷ gs) = ⊥
HaveSameHeadings (f ∷ fs) [] = ⊥
HaveSameHeadings (f ∷ fs) (g ∷ gs) = HasSameHeading f g × HaveSameHeadings fs gs

-- the functions of both halves, in the text of each
abbrev pub FunctionsKeepTheirHeadings : Type 0
FunctionsKeepTheirHeadings = (body : BodyRule) (uses : UseRule) (half : Half) (plan : Plan) (tree : Tree) (xs : List Piece)
    → file_pieces body uses tree.items ≡ Right xs → HaveBodies (program_of xs).funcs → HaveSameHeadings (parts_of xs).funcs (parts_of (map (piece_in half plan) xs)).funcs

-- where the user text of a source, read with a plan, comes to a program, that has the headings of the source's program
abbrev pub TheUserTextKeepsTheHeadings : Type 0
TheUserTextKeepsTheHeadings = (bytes : List ℕ) (tree read : Tree) (program part : Program) (plan : Plan)
    → IsWhole bytes tree program → IsReadOf plan tree read → half_typed (body_rule profile_rules) first_use plan read.items ≡ Right part → HaveSameHeadings program.funcs part.funcs
