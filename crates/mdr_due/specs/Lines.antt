-- believed
-- The lines that are printed of a file, and of a script that is refused.
use Rattle.std.specs.Prelude.{ℕ, List, [], ◌∷◌, ◌++◌, codes, decimal}

abbrev pub newline : List ℕ
newline = 10 ∷ []

-- what there is to say of a file
unfoldable pub file_line : List ℕ → List ℕ → List ℕ
file_line what name = what ++ (name ++ newline)

-- a script that is refused: the line and the kind
unfoldable pub script_line : ℕ → List ℕ → List ℕ
script_line line kind = codes "script refused " ++ (decimal line ++ (codes " " ++ (kind ++ newline)))
