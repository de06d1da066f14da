-- believed
-- A memory is the list of its live blocks (C99 6.2.4): what was born and has not died.
use Rattle.std.specs.Prelude.{ℕ, ◌+◌, Bool, true, false, cond, List, [], ◌∷◌, map, length, Option, Some, None, Result, Ok, Err, ◌==◌, nat_lt, is_some, slice_get, slice_set}
use Rattle.mdr_core.specs.declared.types.Ty.{Ty}
use Rattle.mdr_core.specs.declared.types.Ty.TheVariants as ty
use Rattle.mdr_core.specs.declared.stop.StopKind.{StopKind}
use Rattle.mdr_core.specs.declared.stop.StopKind.TheVariants as stop
use Rattle.mdr_core.specs.declared.program.Program.{Program}
pub use Rattle.mdr_model.specs.declared.memory.MemoryBlock.{MemoryBlock}
pub use Rattle.mdr_model.specs.declared.memory.Cell.{Cell}
use Rattle.mdr_meaning.specs.declared.wire.Wire.{Wire}
use Rattle.mdr_meaning.specs.declared.wire.Wire.TheVariants as wire
use Rattle.mdr_meaning.specs.declared.wire.WireView.{WireView}
use Rattle.mdr_model.specs.declared.message.New.{New}
use Rattle.mdr_core.specs.Layout.{Leaf, repeated, cells_at, zero_value}
use Rattle.mdr_meaning.specs.Values.{wire_of}
use Rattle.mdr_model.specs.Values.{names_block}

-- ---- the cells of a block

-- those of its elements, one element after another, each with its type
unfoldable pub leaves_of : Program → New → List Leaf
leaves_of program n = repeated n.count (cells_at program n.ty)

abbrev pub size_of : Program → New → ℕ
size_of program n = length (leaves_of program n)

abbrev pub leaf_at : Program → New → ℕ → Option Leaf
leaf_at program n index = slice_get (leaves_of program n) index

abbrev pub is_lock_type : Ty → Bool
is_lock_type ty.Lock = true
is_lock_type _ = false

abbrev pub is_lock_leaf : Option Leaf → Bool
is_lock_leaf None = false
is_lock_leaf (Some leaf) = is_lock_type leaf.type

-- ---- blocks and cells, which are declared in the code

abbrev pub Memory : Type 0
Memory = List MemoryBlock

-- how the blocks were born, in order
abbrev pub births : Memory → List New
births m = map (λ b. b.born) m

-- the block with a serial, as it was born, where it is live
unfoldable pub born_at : Memory → ℕ → Option New
born_at [] serial = None
born_at (b ∷ m) serial = cond (b.born.serial == serial) (Some b.born) (born_at m serial)

unfoldable pub is_live : Memory → ℕ → Bool
is_live m serial = is_some (born_at m serial)

-- what a cell holds, where its block is live and has it
unfoldable pub cell_at : Memory → Cell → Option Wire
cell_at [] c = None
cell_at (b ∷ m) c = cond (b.born.serial == c.serial) (slice_get b.cells c.index) (cell_at m c)

-- the memory with another value in one cell
unfoldable pub put : Memory → Cell → Wire → Memory
put [] c v = []
put (b ∷ m) c v =
    cond (b.born.serial == c.serial) (record b { cells = slice_set b.cells c.index v } ∷ m) (b ∷ put m c v)

-- ---- births and deaths

-- a block as it is born: zero in each cell (C99 6.7.8, paragraph 10)
abbrev pub zero_of : Leaf → Wire
zero_of leaf = wire_of (zero_value leaf.type)

abbrev pub zero_block : Program → New → MemoryBlock
zero_block program n = record { born = n; cells = map zero_of (leaves_of program n) }

-- a pointer to the block with this serial becomes a dead one
abbrev pub swept : ℕ → Wire → Wire
swept serial v = cond (names_block serial v) wire.Dead v

-- the block dies, and each pointer to it becomes a dead one
abbrev pub swept_block : ℕ → MemoryBlock → MemoryBlock
swept_block serial b = record b { cells = map (swept serial) b.cells }

unfoldable pub killed : ℕ → Memory → Memory
killed serial [] = []
killed serial (b ∷ m) = cond (b.born.serial == serial) (killed serial m) (swept_block serial b ∷ killed serial m)

-- a value as it is read, sent and kept: a pointer whose block is not live is a dead one
abbrev pub normal_if : Bool → WireView → Wire
normal_if true p = wire.Ptr p
normal_if false p = wire.Dead

unfoldable pub normal : Memory → Wire → Wire
normal m (wire.Ptr p) = normal_if (is_live m p.serial) p
normal m (wire.Int k n) = wire.Int k n
normal m wire.Null = wire.Null
normal m wire.Dead = wire.Dead
normal m (wire.Fn f) = wire.Fn f
normal m (wire.Lock s) = wire.Lock s
normal m wire.NoValue = wire.NoValue

-- ---- accesses

-- the cell that is loaded or stored. Only scalars are loaded and stored, and a scalar has one cell: for those it is where the pointer points
abbrev pub cell_of : WireView → Cell
cell_of p = record { serial = p.serial; index = p.first + p.index }

-- the tests of an access in their order: the block lives, the index is in range (C99 6.5.6), the cell may be touched
abbrev pub reached_by : (is_alive is_inside is_allowed : Bool) → Cell → Result Cell StopKind
reached_by false is_inside is_allowed c = Err stop.Dead
reached_by true false is_allowed c = Err stop.Bounds
reached_by true true false c = Err stop.Annotation
reached_by true true true c = Ok c

-- the cell that an access through a pointer touches, or the stop; only pointers are ever used so
unfoldable pub reached : (Cell → Bool) → Memory → Wire → Result Cell StopKind
reached allowed m (wire.Ptr p) = reached_by (is_live m p.serial) (nat_lt p.index p.count) (allowed (cell_of p)) (cell_of p)
reached allowed m wire.Dead = Err stop.Dead
reached allowed m _ = Err stop.Null

-- a dead pointer is not loaded
abbrev pub loaded_value : Wire → Result Wire StopKind
loaded_value wire.Dead = Err stop.Dead
loaded_value v = Ok v

abbrev pub loaded_cell : Option Wire → Result Wire StopKind
loaded_cell None = Err stop.Dead
loaded_cell (Some v) = loaded_value v

abbrev pub loaded_from : Memory → Result Cell StopKind → Result Wire StopKind
loaded_from m (Err kind) = Err kind
loaded_from m (Ok c) = loaded_cell (cell_at m c)

-- what is loaded through a pointer, or the stop
unfoldable pub loaded : (Cell → Bool) → Memory → Wire → Result Wire StopKind
loaded allowed m p = loaded_from m (reached allowed m p)

abbrev pub stored_into : Memory → Wire → Result Cell StopKind → Result Memory StopKind
stored_into m v (Err kind) = Err kind
stored_into m v (Ok c) = Ok (put m c (normal m v))

-- the memory after a store through a pointer, or the stop
unfoldable pub stored : (Cell → Bool) → Memory → Wire → Wire → Result Memory StopKind
stored allowed m p v = stored_into m v (reached allowed m p)

-- code of the kernel half may touch each cell
abbrev pub everywhere : Cell → Bool
everywhere c = true
