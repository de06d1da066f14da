-- protocol
-- The line that tells of three texts that are refused.
use Rattle.std.specs.Prelude.{ℕ, List, ◌++◌, codes, decimal}
use Rattle.mdr_halves.specs.declared.mismatch.Mismatch.{Mismatch}
use Rattle.mdr_halves.specs.declared.mismatch.Which.{Which}
use Rattle.mdr_halves.specs.declared.mismatch.Which.TheVariants as which

-- the letter of a text
abbrev pub letter : Which → List ℕ
letter which.Kernel = codes "K"
letter which.User = codes "U"
letter which.Plan = codes "P"

unfoldable pub mismatch_line : Mismatch → List ℕ
mismatch_line m = codes "halves refused " ++ (letter m.text ++ (codes " " ++ (decimal m.line ++ codes "\n")))
