-- protocol
-- Places in code by numbers: a path of statements that are under way, from the outside in, and which of their lists is.
use Rattle.std.specs.Prelude.{ℕ, zero, suc, List, [], ◌∷◌, Option, Some, None}
use Rattle.mdr_core.specs.Code.{Code, Codes}
use Rattle.mdr_exec.specs.declared.places.Part.{Part}
use Rattle.mdr_exec.specs.declared.places.Part.TheVariants.{One, Other, Body, Step, Inner}
use Rattle.mdr_exec.specs.declared.places.Position.{Position}

-- the statement at an index, and what follows so many
unfoldable pub code_at : Codes → ℕ → Option Code
code_at Codes.End i = None
code_at (Codes.Then c cs) zero = Some c
code_at (Codes.Then c cs) (suc i) = code_at cs i

unfoldable pub behind : Codes → ℕ → Codes
behind cs zero = cs
behind Codes.End (suc i) = Codes.End
behind (Codes.Then c cs) (suc i) = behind cs i

-- the statement that is under way, by one more than its index
abbrev pub code_before : Codes → ℕ → Option Code
code_before cs zero = None
code_before cs (suc i) = code_at cs i

-- a list of a statement; it has none that it doesn't have
abbrev pub list_of : Part → Code → Codes
list_of One (Code.If n e one other) = one
list_of Other (Code.If n e one other) = other
list_of Body (Code.Loop n e step body) = body
list_of Step (Code.Loop n e step body) = step
list_of Inner (Code.Block body) = body
list_of part code = Codes.End

abbrev pub part_of : Part → Option Code → Codes
part_of part None = Codes.End
part_of part (Some code) = list_of part code

-- the list of statements that a path leads to
unfoldable pub inner : List Position → Codes → Codes
inner [] cs = cs
inner (p ∷ ps) cs = inner ps (part_of p.part (code_before cs p.next))
