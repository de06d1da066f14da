-- protocol
-- The bodies of a source's functions as they were written, by the functions' numbers, and what a driver's halves mean by them (C99 6.9.1).
use Rattle.std.specs.Prelude.{ℕ, Bool, true, false, List, [], ◌∷◌, ◌++◌, map, Option, Some, None, slice_get, slice_set}
use Rattle.mdr_core.specs.declared.program.Program.{Program}
use Rattle.mdr_core.specs.Layout.{chosen}
use Rattle.mdr_core.specs.Typing.{slot_of_local, slot_of_param}
use Rattle.mdr_headings.specs.declared.body.Body.{Body}
use Rattle.mdr_headings.specs.declared.head.Heading.{Heading}
use Rattle.mdr_check.specs.declared.file.Piece.{Piece}
use Rattle.mdr_check.specs.declared.file.Piece.TheVariants as piece
use Rattle.mdr_check.specs.Whole.{file_pieces}
use Rattle.mdr_body.specs.Bodies.{body_rule}
use Rattle.mdr_body.specs.Uses.{first_use}
use Rattle.mdr_faults.specs.Faults.{Checked, Right, Wrong}
use Rattle.mdr_syntax.specs.declared.tree.Tree.{Tree}
use Rattle.mdr_typing.specs.Profile.{profile_rules}
use Rattle.mdr_program.specs.declared.parts.Parts.{Parts}
use Rattle.mdr_program.specs.Parts.{behind_piece, marked, no_parts, number_among}
use Rattle.mdr_meaning.specs.Bodies.{known_of}
use Rattle.mdr_rich.specs.Folds.{codes_of}
use Rattle.mdr_rich_sources.specs.Expressions.{RichBody, RichSide}

-- ---- bodies by the numbers of their functions

-- a body behind its heading
abbrev pub written : Heading → Body → RichBody
written h b = record { slots = map slot_of_param (marked b.objects 0 h.params) ++ map slot_of_local b.locals; result = h.result; code = codes_of b.statements }

-- none where a function has no body in the file
abbrev pub Bodies : Type 0
Bodies = List (Option RichBody)

-- a function gets its number by its first declaration
abbrev pub with_prototype : Bodies → Option ℕ → Bodies
with_prototype bs None = bs ++ None ∷ []
with_prototype bs (Some i) = bs

abbrev pub with_body : Bodies → RichBody → Option ℕ → Bodies
with_body bs b None = bs ++ Some b ∷ []
with_body bs b (Some i) = slice_set bs i (Some b)

-- behind one piece of a file, where these are its parts so far
abbrev pub with_piece : Parts → Bodies → Piece → Bodies
with_piece ps bs piece.Nothing = bs
with_piece ps bs (piece.Struct d) = bs
with_piece ps bs (piece.Global v) = bs
with_piece ps bs (piece.Prototype name h) = with_prototype bs (number_among ps.funcs name)
with_piece ps bs (piece.Function name is_critical h b) = with_body bs (written h b) (number_among ps.funcs name)

unfoldable pub bodies_behind : Parts → Bodies → List Piece → Bodies
bodies_behind ps bs [] = bs
bodies_behind ps bs (x ∷ xs) = bodies_behind (behind_piece ps x) (with_piece ps bs x) xs

-- those of a file
abbrev pub bodies_of : List Piece → Bodies
bodies_of xs = bodies_behind no_parts [] xs

-- the pieces of what is right
abbrev pub right_or_none : Checked (List Piece) → List Piece
right_or_none (Right xs) = xs
right_or_none (Wrong f) = []

-- those of a source, by its tree
unfoldable pub tree_bodies : Tree → Bodies
tree_bodies tree = bodies_of (right_or_none (file_pieces (body_rule profile_rules) first_use tree.items))

abbrev pub perhaps : Option (Option RichBody) → Option RichBody
perhaps None = None
perhaps (Some b) = b

unfoldable pub body_at : Bodies → ℕ → Option RichBody
body_at bs f = perhaps (slice_get bs f)

-- ---- sides

-- all bodies are entered
abbrev pub whole_side : Program → Bodies → RichSide
whole_side program bs = record { known = known_of program; own = body_at bs; asks = false }

-- those of the kernel half, where objects are born, or those of the user half, where births and deaths are asked for
abbrev pub kernel_side : (is_kernel : ℕ → Bool) → Program → Bodies → RichSide
kernel_side is_kernel program bs = record { known = known_of program; own = λ f. chosen (is_kernel f) (body_at bs f) None; asks = false }

abbrev pub user_side : (is_kernel : ℕ → Bool) → Program → Bodies → RichSide
user_side is_kernel program bs = record { known = known_of program; own = λ f. chosen (is_kernel f) None (body_at bs f); asks = true }
