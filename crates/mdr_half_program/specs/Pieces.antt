-- for proofs
-- What the items of one half's text come to.
use Rattle.std.specs.Prelude.{◌≡◌, ℕ, Bool, true, false, List, map, None}
use Rattle.mdr_core.specs.declared.plan.Half.{Half}
use Rattle.mdr_core.specs.declared.plan.Plan.{Plan}
use Rattle.mdr_syntax.specs.declared.tree.Tree.{Tree}
use Rattle.mdr_faults.specs.Faults.{Right}
use Rattle.mdr_headings.specs.declared.body.Body.{Body}
use Rattle.mdr_headings.specs.declared.head.Heading.{Heading}
use Rattle.mdr_check.specs.declared.file.Piece.{Piece}
use Rattle.mdr_check.specs.declared.file.Piece.TheVariants as piece
use Rattle.mdr_check.specs.Files.{BodyRule}
use Rattle.mdr_check.specs.Uses.{UseRule}
use Rattle.mdr_check.specs.Whole.{file_pieces}
use Rattle.mdr_half.specs.Halves.{half_of, half_tree, is_same_half}

abbrev pub function_or_prototype : (is_mine : Bool) → List ℕ → Bool → Heading → Body → Piece
function_or_prototype true name is_critical h b = piece.Function name is_critical h b
function_or_prototype false name is_critical h b = piece.Prototype name h

-- a piece in the half's text: of a function of the other half there is a prototype
abbrev pub piece_in : Half → Plan → Piece → Piece
piece_in half plan piece.Nothing = piece.Nothing
piece_in half plan (piece.Struct d) = piece.Struct d
piece_in half plan (piece.Global v) = piece.Global v
piece_in half plan (piece.Prototype name h) = piece.Prototype name h
piece_in half plan (piece.Function name is_critical h b) = function_or_prototype (is_same_half (half_of plan name) half) name is_critical h b

-- nothing is used. What a file comes to doesn't depend on uses: they say where an undefined function is told of
abbrev pub unused : UseRule
unused h body name = None

abbrev pub HalvesHaveThePieces : Type 0
HalvesHaveThePieces = (body : BodyRule) (uses : UseRule) (half : Half) (plan : Plan) (tree : Tree) (xs : List Piece)
    → file_pieces body unused tree.items ≡ Right xs → file_pieces body uses (half_tree half plan tree).items ≡ Right (map (piece_in half plan) xs)
