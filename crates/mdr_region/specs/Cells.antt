-- protocol
-- Cells in one list.
use Rattle.std.specs.Prelude.{ℕ, ◌+◌, cond, nat_lt, List, ◌++◌, length, take, drop, slice_set}
use Rattle.mdr_core.specs.declared.value.Value.{Value}

-- the cells of a block
abbrev pub cells_of : ℕ → ℕ → List Value → List Value
cells_of start n values = take n (drop start values)

-- with others from a place on
abbrev pub written : ℕ → List Value → List Value → List Value
written start first values = take start values ++ (first ++ drop (start + length first) values)

-- another value in one cell of n from the start on, and nothing past them
abbrev pub put_cell : ℕ → ℕ → ℕ → Value → List Value → List Value
put_cell start n index v values = cond (nat_lt index n) (slice_set values (start + index) v) values
