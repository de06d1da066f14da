-- protocol
-- The line that is printed where the words are none of the program's.
use Rattle.std.specs.Prelude.{ℕ, List, codes}

unfoldable pub usage_line : List ℕ
usage_line = codes "usage: split FILE, report FILE, run whole FILE SCRIPT, run split FILE SCRIPT, run halves K U PLAN SCRIPT, gen SEED SIZE\n"
