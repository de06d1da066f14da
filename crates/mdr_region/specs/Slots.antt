-- protocol
-- Rows in their slots: where each block lies, and how it was born.
use Rattle.std.specs.Prelude.{ℕ, ◌+◌, Bool, false, cond, ◌==◌, List, [], ◌∷◌, map, Option, Some, None, slice_index_or, slice_set}
use Rattle.mdr_core.specs.declared.value.Block.{Block}
use Rattle.mdr_core.specs.declared.value.Value.{Value}
use Rattle.mdr_core.specs.declared.value.Value.TheVariants as value
use Rattle.mdr_mem.specs.declared.rows.Held.{Held}
use Rattle.mdr_mem.specs.Rows.{Slots}
use Rattle.mdr_region.specs.declared.slots.Row.{Row}
use Rattle.mdr_region.specs.Layout.{Mark}
use Rattle.mdr_region.specs.Blocks.{IsBlock}
use Rattle.mdr_region.specs.Cells.{cells_of}

abbrev pub RowSlots : Type 0
RowSlots = List (Option Row)

abbrev pub row_in : RowSlots → ℕ → Option Row
row_in slots slot = slice_index_or slots slot None

-- a handle's slot has the row of its block
abbrev pub has_serial : Option Row → ℕ → Bool
has_serial None serial = false
has_serial (Some r) serial = r.born.serial == serial

abbrev pub is_there : RowSlots → Block → Bool
is_there slots b = has_serial (row_in slots b.slot) b.serial

-- a value as it is now: a pointer whose block has no row in its slot is a dead one
unfoldable pub current_at : RowSlots → Value → Value
current_at slots (value.Ptr p) = cond (is_there slots p.block) (value.Ptr p) value.Dead
current_at slots (value.Int k n) = value.Int k n
current_at slots value.Null = value.Null
current_at slots value.Dead = value.Dead
current_at slots (value.Fn f) = value.Fn f
current_at slots (value.Lock s) = value.Lock s
current_at slots value.NoValue = value.NoValue

-- a row with its cells, which is what a slot of the plain memory holds
abbrev pub held_as : List Value → Option Row → Option Held
held_as values None = None
held_as values (Some r) = Some (record { born = r.born; cells = cells_of r.start r.cells values })

abbrev pub held_slots : List Value → RowSlots → Slots
held_slots values slots = map (held_as values) slots

-- the row's block lies where it says
abbrev pub Lies : List Mark → Option Row → Type 0
Lies marks None = Unit {0}
Lies marks (Some r) = IsBlock marks r.born.serial r.start r.cells

-- values that are put into cells one after another, each as a function makes it
unfoldable pub settled : (Value → Value) → ℕ → List Value → List Value → List Value
settled f start [] values = values
settled f start (v ∷ vs) values = settled f (start + 1) vs (slice_set values start (f v))
