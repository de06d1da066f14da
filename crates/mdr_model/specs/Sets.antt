-- believed
-- Sets of cells: rising lists of cells, and the same as runs of cells of one block that follow one another.
use Rattle.std.specs.Prelude.{ℕ, zero, suc, ◌+◌, Bool, true, cond, ◌&&◌, ◌||◌, List, [], ◌∷◌, ◌++◌, Option, Some, None, ◌==◌, nat_lt, nat_le}
use Rattle.std.specs.List.{list_any}
use Rattle.mdr_model.specs.declared.message.SetRun.{SetRun}
use Rattle.mdr_model.specs.Memory.{Cell}

abbrev pub is_same_cell : Cell → Cell → Bool
is_same_cell c d = c.serial == d.serial && c.index == d.index

unfoldable pub is_in : List Cell → Cell → Bool
is_in cells c = list_any (is_same_cell c) cells

-- as many cells of a block as said, from an index
unfoldable pub cells_from : ℕ → ℕ → ℕ → List Cell
cells_from serial index zero = []
cells_from serial index (suc n) = record { serial = serial; index = index } ∷ cells_from serial (suc index) n

abbrev pub cells_of_run : SetRun → List Cell
cells_of_run r = cells_from r.serial r.first r.len

-- the cells that runs name
unfoldable pub cells_of_runs : List SetRun → List Cell
cells_of_runs [] = []
cells_of_runs (r ∷ rs) = cells_of_run r ++ cells_of_runs rs

-- a cell before runs: it joins the first where that begins right behind it
abbrev pub begins_behind : Cell → SetRun → Bool
begins_behind c r = r.serial == c.serial && r.first == suc c.index

abbrev pub joined : Cell → List SetRun → List SetRun
joined c [] = record { serial = c.serial; first = c.index; len = 1 } ∷ []
joined c (r ∷ rs) =
    cond (begins_behind c r)
    (record { serial = c.serial; first = c.index; len = suc r.len } ∷ rs)
    (record { serial = c.serial; first = c.index; len = 1 } ∷ r ∷ rs)

-- a rising list of cells as runs, each as long as can be
unfoldable pub runs_of_cells : List Cell → List SetRun
runs_of_cells [] = []
runs_of_cells (c ∷ cs) = joined c (runs_of_cells cs)

-- a run begins after the beginning of the one before it, and not before its end
abbrev pub follows : SetRun → SetRun → Bool
follows r s = nat_lt r.serial s.serial || (r.serial == s.serial && nat_lt r.first s.first && nat_le (r.first + r.len) s.first)

abbrev pub follows_maybe : Option SetRun → SetRun → Bool
follows_maybe None s = true
follows_maybe (Some r) s = follows r s

-- each run follows the one before it
unfoldable pub rises_after : Option SetRun → List SetRun → Bool
rises_after before [] = true
rises_after before (r ∷ rs) = follows_maybe before r && rises_after (Some r) rs
