-- protocol
-- What reading a whole list of tokens ends in.
use Rattle.std.specs.Prelude.{ℕ, suc, ◌≡◌, List, [], ◌∷◌, length, Result, Ok, Err}
use Rattle.mdr_syntax.specs.declared.tree.Item.{Item}
use Rattle.mdr_syntax.specs.declared.tree.Tree.{Tree}
use Rattle.mdr_reader.specs.declared.failure.Failure.{Failure}
use Rattle.mdr_reader.specs.declared.failure.Failure.TheVariants.{Memory, Fault}
use Rattle.mdr_grammar.specs.Front.{Read}

-- a tree, where no token is left
abbrev pub closed : Read (List Item) → Result Tree ℕ
closed (Ok (is, [])) = Ok (record { items = is })
closed (Ok (is, t ∷ ts)) = Err (suc (length ts))
closed (Err left) = Err left

-- what a function returned is how reading ends, unless memory ran out
abbrev pub Ends : Result Tree Failure → Result Tree ℕ → Type 0
Ends (Ok tree) end = end ≡ Ok tree
Ends (Err Memory) end = Unit {0}
Ends (Err (Fault left)) end = end ≡ Err left
