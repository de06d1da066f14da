-- From a source to the program of its user half: all premises together.
use Rattle.std.proofs.Common.{◌≡◌, ◌≤◌, true, List, length, map, subst}
use Rattle.mdr_core.specs.declared.plan.Half.TheVariants.{User}
use Rattle.mdr_core.specs.declared.plan.Plan.{Plan}
use Rattle.mdr_core.specs.declared.program.Program.{Program}
use Rattle.mdr_core.specs.Suited.{IsSuited}
use Rattle.mdr_slice.specs.declared.halves.Halves.{Halves}
use Rattle.mdr_access.specs.Keys.{HasEach, IsPlan}
use Rattle.mdr_access.proofs.KeyLaws.{keys_are_right}
use Rattle.mdr_syntax.specs.declared.tree.Tree.{Tree}
use Rattle.mdr_roundtrip.specs.Again.{IsPrintedAsSource}
use Rattle.mdr_faults.specs.Faults.{Right}
use Rattle.mdr_body.specs.Bodies.{body_rule}
use Rattle.mdr_body.specs.Uses.{first_use}
use Rattle.mdr_typing.specs.Profile.{profile_rules}
use Rattle.mdr_check.specs.declared.file.Piece.{Piece}
use Rattle.mdr_check.specs.Whole.{file_pieces}
use Rattle.mdr_program.specs.Parts.{parts_of}
use Rattle.mdr_program.specs.Programs.{program_of, program_right, typed}
use Rattle.mdr_half.specs.Halves.{user_tree}
use Rattle.mdr_half_program.specs.Bodies.{HaveBodies}
use Rattle.mdr_half_program.specs.Pieces.{piece_in}
use Rattle.mdr_half_program.specs.Reading.{ComesToPart, HasTypes}
use Rattle.mdr_half_program.proofs.Again.{read_again}
use Rattle.mdr_sound.proofs.Rights.{after_right, same_right}
use Rattle.mdr_texts.proofs.HalvesAgain.{half_again}
use Rattle.mdr_half_program.specs.Whole.{IsReadOf, TheUserTextGivesItsPart}
use Rattle.mdr_half_program.proofs.Sourced.{sources_have}
use Rattle.mdr_half_program.proofs.Tabled.{plans_have}

by_pieces : (tree read : Tree) (xs : List Piece) (halves : Halves) (plan : Plan) → IsPrintedAsSource true (user_tree plan tree) → file_pieces (body_rule profile_rules) first_use tree.items ≡ Right xs → HaveBodies (program_of xs).funcs
    → (plan.types ≡ (program_of xs).types → HasTypes plan (parts_of (map (piece_in User plan) xs))) → HasEach (program_of xs) halves → IsPlan (program_of xs) halves plan → IsReadOf plan tree read → ComesToPart User plan read (program_of xs)
by_pieces tree read xs halves plan printed e bodies types each is r =
    let suited : IsSuited plan (program_of xs) = keys_are_right.suits (program_of xs) halves plan each is in
    read_again plan tree read r.tokens xs printed r.lexed r.reads e bodies suited (types suited.types)

-- a tree without faults comes to the program of its pieces
with_pieces : (tree : Tree) (program : Program) (w : Program → Type 0) → ((xs : List Piece) → file_pieces (body_rule profile_rules) first_use tree.items ≡ Right xs → w (program_of xs)) → typed (body_rule profile_rules) first_use tree.items ≡ Right program → w program
with_pieces tree program w h e =
    let a = after_right (file_pieces (body_rule profile_rules) first_use tree.items) program_right program e in
    subst w (same_right (program_of a.value) program a.made) (h a.value a.right)

-- ---- a source
pub user_text_gives : TheUserTextGivesItsPart
user_text_gives bytes tree read program halves plan is each of r =
    with_pieces tree program (λ (p : Program). length p.types ≤ 4294967296 → HasEach p halves → IsPlan p halves plan → ComesToPart User plan read p)
    (λ xs e few each of.
    let bodies = sources_have bytes is.tokens tree xs is.lexed is.reads e in
    by_pieces tree read xs halves plan (half_again bytes is.tokens tree User plan is.lexed is.reads) e bodies (plans_have bytes is.tokens User plan tree xs is.lexed is.reads e few) each of r)
    is.right is.types each of
