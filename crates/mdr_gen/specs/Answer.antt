-- protocol
-- What is printed of a run of a seed's driver and script.
use Rattle.std.specs.Prelude.{ℕ, List, ◌++◌, codes, decimal}
use Rattle.mdr_gen.specs.declared.answer.Counts.{Counts}

abbrev pub count_line : (word : List ℕ) → ℕ → List ℕ
count_line word n = word ++ (decimal n ++ codes "\n")

-- the seed and the number of lines
unfoldable pub seed_line : (seed size : ℕ) → List ℕ
seed_line seed size = codes "gen " ++ (decimal seed ++ count_line (codes " ") size)

unfoldable pub count_lines : Counts → List ℕ
count_lines counts = count_line (codes "ticks ") counts.ticks ++ (count_line (codes "messages ") counts.messages ++ count_line (codes "live ") counts.live)

abbrev pub answer_text : (seed size : ℕ) → Counts → List ℕ
answer_text seed size counts = seed_line seed size ++ count_lines counts
