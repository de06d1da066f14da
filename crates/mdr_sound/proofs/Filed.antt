-- The program of a file without faults, and the pieces that it is made of.
use Rattle.std.proofs.Common.{◌≡◌, List, [], refl, sym, ap, ◌∙◌, subst}
use Rattle.mdr_core.specs.declared.program.Program.{Program}
use Rattle.mdr_syntax.specs.declared.tree.Item.{Item}
use Rattle.mdr_faults.specs.Faults.{Right, both}
use Rattle.mdr_check.specs.declared.file.Piece.{Piece}
use Rattle.mdr_check.specs.Files.{BodyRule, pieces_behind, known_behind, first_known}
use Rattle.mdr_check.specs.Names.{short_items}
use Rattle.mdr_check.specs.Uses.{UseRule, defined_functions}
use Rattle.mdr_check.specs.Whole.{kept, named, file_pieces}
use Rattle.mdr_program.specs.Parts.{parts_behind, no_parts}
use Rattle.mdr_program.specs.Programs.{made, program_of, program_right, typed}
use Rattle.mdr_sound.proofs.Rights.{after_right, both_right, same_right}
use Rattle.mdr_sound.specs.FileLaws.{TypesOfFilesAreFormed, FilesAreSound}
use Rattle.mdr_sound.specs.Whole.{IsMadeOf}
use Rattle.mdr_sound.proofs.Forming.{types_formed}
use Rattle.mdr_sound.proofs.Sounding.{program_sound}

pub record IsFile (body : BodyRule) (items : List Item) (program : Program) : Type 0 where
  pub pieces : List Piece
  pub right : pieces_behind body (first_known items) [] items ≡ Right pieces
  pub is : program ≡ program_of pieces

pub pieces_right : (body : BodyRule) (uses : UseRule) (items : List Item) (xs : List Piece) → file_pieces body uses items ≡ Right xs → pieces_behind body (first_known items) [] items ≡ Right xs
unfolding file_pieces
pieces_right body uses items xs e =
    let used = defined_functions uses items (known_behind (first_known items) items).functions in
    let a = both_right (short_items items) (both (pieces_behind body (first_known items) [] items) used kept) named xs e in
    let b = both_right (pieces_behind body (first_known items) [] items) used kept a.right a.second in
    b.first ∙ ap Right (same_right b.left a.right b.made ∙ same_right a.right xs a.made)

pub file_of : (body : BodyRule) (uses : UseRule) (items : List Item) (program : Program) → typed body uses items ≡ Right program → IsFile body items program
file_of body uses items program e =
    let a = after_right (file_pieces body uses items) program_right program e in
    record { pieces = a.value; right = pieces_right body uses items a.value a.right; is = sym (same_right (program_of a.value) program a.made) }

made_of : (xs : List Piece) → IsMadeOf (program_of xs) (parts_behind no_parts xs)
unfolding made
made_of xs = record { structs = refl; globals = refl; funcs = refl }

pub file_made : (body : BodyRule) (items : List Item) (program : Program) (f : IsFile body items program) → IsMadeOf program (parts_behind no_parts f.pieces)
file_made body items program f = subst (λ (p : Program). IsMadeOf p (parts_behind no_parts f.pieces)) (sym f.is) (made_of f.pieces)

pub types_of_files : TypesOfFilesAreFormed
types_of_files program rules uses items e ranges proper sound =
    let f = file_of _ uses items program e in
    types_formed program rules items f.pieces f.right (file_made _ items program f) ranges proper sound

pub files_sound : FilesAreSound
files_sound program rules uses items e ranges proper sound all table numbers =
    let f = file_of _ uses items program e in
    program_sound program rules items f.pieces f.right (file_made _ items program f) ranges proper all sound table numbers
