-- believed
-- Which cells a function of the user half sees: those that pointers lead to.
use Rattle.std.specs.Prelude.{ℕ, suc, ◌+◌, nat_lt, Bool, false, List, [], ◌∷◌, ◌++◌, filter, length, Option, Some, None, option_map, slice_get, Result, Ok, Err}
use Rattle.mdr_core.specs.declared.plan.Key.{Key}
use Rattle.mdr_core.specs.declared.plan.Key.TheVariants as key
use Rattle.mdr_core.specs.declared.program.Program.{Program}
use Rattle.mdr_core.specs.declared.types.Ann.{Ann}
use Rattle.mdr_core.specs.Layout.{field_start}
use Rattle.mdr_meaning.specs.declared.wire.Wire.{Wire}
use Rattle.mdr_model.specs.declared.memory.Cell.{Cell}
use Rattle.mdr_model.specs.declared.memory.MemoryBlock.{MemoryBlock}
use Rattle.mdr_model.specs.declared.message.New.{New}
use Rattle.mdr_model.specs.Memory.{Memory, born_at, cell_at}
use Rattle.mdr_model.specs.Sets.{cells_from}
use Rattle.mdr_paths.specs.Paths.{Graph, Path, visible_set}
use Rattle.mdr_extents.specs.Around.{ann_of, key_of, struct_start}
use Rattle.mdr_extents.specs.CellOrder.{cells}
use Rattle.mdr_extents.specs.Extent.{Extent, Elements, Fails, Siblings, cells_in, extent, has_failed, is_touched, none}

-- ---- the cells of a memory

abbrev pub cells_of_block : MemoryBlock → List Cell
cells_of_block b = cells_from b.born.serial 0 (length b.cells)

unfoldable pub all_cells : Memory → List Cell
all_cells [] = []
all_cells (b ∷ m) = cells_of_block b ++ all_cells m

-- what a function is called with, or what one gave: each pointer with its annotation, and the values that were passed for the parameters
pub record Root : Type 0 where
  pub ann : Ann
  pub value : Wire

pub record Roots : Type 0 where
  -- a result comes first, and then the arguments: a number in this list is an argument's number, where a result counts as 0
  pub values : List Root
  pub passed : List Wire

-- the number of the first that fails, with one more before it
abbrev pub or_later : Extent → Option ℕ → Option ℕ
or_later Fails later = Some 0
or_later (Elements n) later = option_map (λ k. suc k) later

-- ---- the graph: a pointer in a cell leads to the cells of its extent

module _ (program : Program) (touched : List Key) (m : Memory) where
  abbrev pub counts_in : (index : ℕ) → Option New → Bool
  counts_in index None = false
  counts_in index (Some block) = is_touched program touched block index

  -- a live cell with its key in the set
  abbrev pub counts : Cell → Bool
  counts c = counts_in c.index (born_at m c.serial)

  -- the fields of the same struct
  abbrev pub siblings_in : New → (index : ℕ) → Key → Siblings
  siblings_in block index (key.Field s f) n = cell_at m (record { serial = block.serial; index = struct_start program block index + field_start program.structs s n })
  siblings_in block index (key.Global g) n = None
  siblings_in block index (key.Elem ty) n = None

  abbrev pub extent_by : New → (index : ℕ) → Option Key → Wire → Extent
  extent_by block index None v = none
  extent_by block index (Some k) v = extent program touched m (siblings_in block index k) (ann_of program k) v

  abbrev pub extent_held : Cell → Option New → Option Wire → Extent
  extent_held c None held = none
  extent_held c (Some block) None = none
  extent_held c (Some block) (Some v) = extent_by block c.index (key_of program block c.index) v

  -- the extent of the pointer in a cell
  unfoldable pub extent_at : Cell → Extent
  extent_at c = extent_held c (born_at m c.serial) (cell_at m c)

  abbrev pub cells_led : Option Wire → Extent → List Cell
  cells_led None e = []
  cells_led (Some v) e = cells_in program touched m v e

  unfoldable pub graph : Graph cells
  graph = record { all = all_cells m; counts = counts; edges = λ c. cells_led (cell_at m c) (extent_at c); failing = λ c. has_failed (extent_at c) }

  -- ---- roots

  -- the cells of globals, whose serials are their numbers
  abbrev pub global_cells : List Cell
  global_cells = filter (λ (c : Cell). nat_lt c.serial (length program.globals)) (all_cells m)

  abbrev pub passed_to : List Wire → Siblings
  passed_to passed n = slice_get passed n

  unfoldable pub root_extent : List Wire → Root → Extent
  root_extent passed r = extent program touched m (passed_to passed) r.ann r.value

  unfoldable pub root_cells : List Wire → List Root → List Cell
  root_cells passed [] = []
  root_cells passed (r ∷ rs) = cells_in program touched m r.value (root_extent passed r) ++ root_cells passed rs

  -- where the set begins: the cells of globals, of the set that is given, and of the extents of what is passed
  abbrev pub beginning : (known : List Cell) → Roots → List Cell
  beginning known roots = global_cells ++ (known ++ root_cells roots.passed roots.values)

  -- a cell is visible where a list of cells leads to it from one of these, each with its key in the set, each next one in the extent of the pointer in the one before
  abbrev pub IsVisible : (known : List Cell) → Roots → Cell → Type 0
  IsVisible known roots c = Path graph (beginning known roots) c

  -- ---- what fails

  -- the number of the first of these that fails
  unfoldable pub first_failing : List Wire → List Root → Option ℕ
  first_failing passed [] = None
  first_failing passed (r ∷ rs) = or_later (root_extent passed r) (first_failing passed rs)

-- the pointer that fails: an argument by its number, or the one in a cell
pub data Failing : Type 0 where
  Argument : (number : ℕ) → Failing
  At : (cell : Cell) → Failing

abbrev pub at_cell : Result (List Cell) Cell → Result (List Cell) Failing
at_cell (Ok set) = Ok set
at_cell (Err c) = Err (At c)

abbrev pub unless_argument : Option ℕ → Result (List Cell) Failing → Result (List Cell) Failing
unless_argument None rest = rest
unless_argument (Some n) rest = Err (Argument n)

-- the visible cells, by rounds, or the pointer that fails first: an argument, else the one in the first cell
unfoldable pub visible : Program → (touched : List Key) → Memory → (known : List Cell) → Roots → Result (List Cell) Failing
visible program touched m known roots =
    unless_argument (first_failing program touched m roots.passed roots.values) (at_cell (visible_set (graph program touched m) (beginning program touched m known roots)))

-- the cells of a block with a key in the set: what a block that is born adds
unfoldable pub own_cells : Program → (touched : List Key) → MemoryBlock → List Cell
own_cells program touched b = filter (λ (c : Cell). is_touched program touched b.born c.index) (cells_of_block b)
