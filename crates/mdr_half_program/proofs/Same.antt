-- A half's text declares the same functions first, so they have the same types.
use Rattle.std.proofs.Common.{◌≡◌, List, [], ◌∷◌, map, Result, Ok, sym, ap, ◌∙◌, subst}
use Rattle.mdr_core.specs.declared.plan.Half.{Half}
use Rattle.mdr_core.specs.declared.plan.Plan.{Plan}
use Rattle.mdr_core.specs.declared.program.Func.{Func}
use Rattle.mdr_core.specs.Typing.{function_type}
use Rattle.mdr_syntax.specs.declared.tree.Item.{Item}
use Rattle.mdr_faults.specs.declared.fault.Fault.{Fault}
use Rattle.mdr_faults.specs.Faults.{Right}
use Rattle.mdr_headings.specs.declared.function.Declared.{Declared}
use Rattle.mdr_headings.specs.declared.head.Heading.{Heading}
use Rattle.mdr_check.specs.declared.file.Known.{Known}
use Rattle.mdr_check.specs.declared.file.Piece.{Piece}
use Rattle.mdr_check.specs.Files.{BodyRule, first_known, known_behind}
use Rattle.mdr_check.specs.Uses.{UseRule}
use Rattle.mdr_check.specs.Whole.{file_pieces}
use Rattle.mdr_program.specs.Parts.{parts_of}
use Rattle.mdr_half.specs.Halves.{half_tree, item_in}
use Rattle.mdr_half_program.specs.Pieces.{piece_in}
use Rattle.mdr_half_program.proofs.Bodied.{no_use_asked}
use Rattle.mdr_half_program.proofs.Known.{first_there, known_there}
use Rattle.mdr_half_program.proofs.Pieced.{halves_lead}
use Rattle.mdr_sound.specs.Counting.{AreDeclaredAs, IsDeclaredAs, heading_type}
use Rattle.mdr_sound.proofs.Along.{counted_all}
use Rattle.mdr_sound.proofs.Filed.{pieces_right}
use Rattle.mdr_half_program.specs.SameTypes.{FunctionsKeepTheirTypes, HaveSameTypes}

same_ok : (a b : Heading) → ◌≡◌ {A = Result Heading Fault} (Ok a) (Ok b) → a ≡ b
same_ok a b e = cc

one_same : (d : Declared) (f g : Func) → IsDeclaredAs d f → IsDeclaredAs d g → function_type f ≡ function_type g
one_same d f g a b = a.types ∙ ap heading_type (same_ok a.heading b.heading (sym a.told ∙ b.told)) ∙ sym b.types

all_same : (ds : List Declared) (fs gs : List Func) → AreDeclaredAs ds fs → AreDeclaredAs ds gs → HaveSameTypes fs gs
all_same [] [] [] a b = tt
all_same [] [] (g ∷ gs) a b = absurd b
all_same [] (f ∷ fs) gs a b = absurd a
all_same (d ∷ ds) [] gs a b = absurd a
all_same (d ∷ ds) (f ∷ fs) [] a b = absurd b
all_same (d ∷ ds) (f ∷ fs) (g ∷ gs) a b = (one_same d f g a.0 b.0, all_same ds fs gs a.1 b.1)

-- the functions of a file's parts are those that are known at its end
declared_all : (body : BodyRule) (uses : UseRule) (items : List Item) (xs : List Piece) → file_pieces body uses items ≡ Right xs → AreDeclaredAs (known_behind (first_known items) items).functions (parts_of xs).funcs
declared_all body uses items xs e = (counted_all body items xs (pieces_right body uses items xs e)).functions

-- the same is known at the end of the half's text
known_same : (half : Half) (plan : Plan) (items : List Item) → known_behind (first_known (map (item_in half plan) items)) (map (item_in half plan) items) ≡ known_behind (first_known items) items
known_same half plan items =
    ap (λ (k : Known). known_behind k (map (item_in half plan) items)) (first_there half plan items)
    ∙ known_there half plan items (first_known items)

pub functions_keep : FunctionsKeepTheirTypes
functions_keep body uses half plan tree xs e bodies =
    let there = halves_lead body uses half plan tree xs (no_use_asked body uses tree.items xs e) in
    let other = declared_all body uses (half_tree half plan tree).items (map (piece_in half plan) xs) there in
    all_same (known_behind (first_known tree.items) tree.items).functions (parts_of xs).funcs (parts_of (map (piece_in half plan) xs)).funcs (declared_all body uses tree.items xs e)
    (subst (λ (k : Known). AreDeclaredAs k.functions (parts_of (map (piece_in half plan) xs)).funcs) (known_same half plan tree.items) other)
