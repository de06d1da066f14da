-- believed
-- What a file declares: its structs, globals and functions by their numbers (C99 6.7, 6.9).
use Rattle.std.specs.Prelude.{ℕ, ◌+◌, Bool, false, List, [], ◌∷◌, ◌++◌, length, position, Option, Some, None, slice_get, slice_set}
use Rattle.std.specs.Str.{bytes_eq}
use Rattle.mdr_core.specs.declared.program.Func.{Func}
use Rattle.mdr_core.specs.declared.program.Param.{Param}
use Rattle.mdr_check.specs.declared.file.Piece.{Piece}
use Rattle.mdr_check.specs.declared.file.Piece.TheVariants as piece
use Rattle.mdr_headings.specs.declared.body.Body.{Body}
use Rattle.mdr_headings.specs.declared.head.Heading.{Heading}
use Rattle.mdr_lower.specs.declared.work.Work.{Work}
use Rattle.mdr_lower.specs.Lowering.{lowered}
use Rattle.mdr_program.specs.declared.parts.Parts.{Parts}

-- ---- one function

abbrev pub flagged : Param → Option Bool → Param
flagged p None = p
flagged p (Some is_object) = record p { object = is_object }

-- which of the parameters are objects, the function's body says: parameters from number i on
unfoldable pub marked : List Bool → ℕ → List Param → List Param
marked objects i [] = []
marked objects i (p ∷ ps) = flagged p (slice_get objects i) ∷ marked objects (i + 1) ps

-- a function that has no body in the file: it is of the other half
abbrev pub remote : List ℕ → Heading → Func
remote name h = record { name = name; params = h.params; result = h.result; ann = h.ann; locals = []; critical = false; body = None }

abbrev pub whole_by : List ℕ → Bool → Heading → Body → Work → Func
whole_by name is_critical h b w = record { name = name; params = marked b.objects 0 h.params; result = h.result; ann = h.ann; locals = b.locals ++ w.slots; critical = is_critical; body = Some w.code }

-- a function with its body, which is lowered, with new slots behind its own: the names of its parameters are those that stand before the body (6.9.1, paragraph 5)
abbrev pub whole : List ℕ → Bool → Heading → Body → Func
whole name is_critical h b = whole_by name is_critical h b (lowered (length h.params + length b.locals) b.statements)

-- ---- functions by their numbers

abbrev pub number_among : List Func → List ℕ → Option ℕ
number_among fs name = position (λ f. bytes_eq f.name name) fs

-- a function gets its number by its first declaration. A prototype tells nothing more of one that has a number
abbrev pub declared : List Func → Func → Option ℕ → List Func
declared fs f None = fs ++ f ∷ []
declared fs f (Some i) = fs

-- a body is what counts of all declarations of a function
abbrev pub defined : List Func → Func → Option ℕ → List Func
defined fs f None = fs ++ f ∷ []
defined fs f (Some i) = slice_set fs i f

-- ---- a whole file

abbrev pub behind_piece : Parts → Piece → Parts
behind_piece ps piece.Nothing = ps
behind_piece ps (piece.Struct d) = record ps { structs = ps.structs ++ d ∷ [] }
behind_piece ps (piece.Global v) = record ps { variables = ps.variables ++ v ∷ [] }
behind_piece ps (piece.Prototype name h) = record ps { funcs = declared ps.funcs (remote name h) (number_among ps.funcs name) }
behind_piece ps (piece.Function name is_critical h b) = record ps { funcs = defined ps.funcs (whole name is_critical h b) (number_among ps.funcs name) }

unfoldable pub parts_behind : Parts → List Piece → Parts
parts_behind ps [] = ps
parts_behind ps (x ∷ xs) = parts_behind (behind_piece ps x) xs

abbrev pub no_parts : Parts
no_parts = record { structs = []; variables = []; funcs = [] }

abbrev pub parts_of : List Piece → Parts
parts_of xs = parts_behind no_parts xs
