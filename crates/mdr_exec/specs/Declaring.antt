-- protocol
-- Parameters and locals as the code finds them.
use Rattle.std.specs.Prelude.{◌≡◌, ℕ, Bool, true, false, Option, Some, None, slice_get}
use Rattle.mdr_core.specs.declared.program.Program.{Program}
use Rattle.mdr_core.specs.declared.types.Ty.{Ty}
use Rattle.mdr_core.specs.Code.{Code}
use Rattle.mdr_core.specs.Typing.{Slot}
use Rattle.mdr_meaning.specs.declared.shape.Shape64.{Shape64}
use Rattle.mdr_meaning.specs.Lives.{shape_of}
use Rattle.mdr_meaning.specs.Sides.{Side}
use Rattle.mdr_meaning.specs.Walk.{Accesses}
use Rattle.mdr_events.specs.Steps.{Came, Goes}
use Rattle.mdr_exec.specs.declared.frame.Machine.{Machine}
use Rattle.mdr_exec.specs.declared.slots.Declared.{Declared}
use Rattle.mdr_exec.specs.Executing.{Executes, Knows}
use Rattle.mdr_exec.specs.Holding.{slots_by}

abbrev pub slot_as : Declared → Slot
slot_as d = record { ty = d.ty.now; count = d.count; array = d.array; object = d.object; is_local = d.is_local }

-- a parameter or local of a function
abbrev pub slot_in : Program → (func : ℕ) → (i : ℕ) → Option Slot
slot_in program f i = slice_get (slots_by (slice_get program.funcs f)) i

abbrev pub HasSlot : Program → Machine → (i : ℕ) → Slot → Type 0
HasSlot program m i s = slot_in program m.top.func i ≡ Some s

-- ---- what a declaration comes to, and the machine and the memory then

module _ {M : Type 0} (a : Accesses M) (m : Machine) (memory : M) (i : ℕ) where
  -- a slot that the function doesn't have
  abbrev pub DeclaresNothing : Machine → M → Type 0
  DeclaresNothing m' memory' = (program : Program) (side : Side) (n : ℕ) → slot_in program m.top.func i ≡ None → Executes a side program m memory (Code.Declare n i) Goes m' memory'

  -- a slot of this type that is no object
  abbrev pub DeclaresSlot : Ty → Machine → M → Type 0
  DeclaresSlot ty m' memory' =
      (program : Program) (side : Side) (n : ℕ) (s : Slot) → HasSlot program m i s → s.object ≡ false → s.ty ≡ ty → Executes a side program m memory (Code.Declare n i) Goes m' memory'

  -- one that is an object of this shape, where births are asked for or not
  abbrev pub DeclaresObject : Shape64 → (asks : Bool) → Came → Machine → M → Type 0
  DeclaresObject shape asks came m' memory' =
      (program : Program) (side : Side) (n : ℕ) (s : Slot) → HasSlot program m i s → s.object ≡ true → side.asks ≡ asks → shape ≡ shape_of side.known s
      → Executes a side program m memory (Code.Declare n i) came m' memory'

  -- any slot of a program
  abbrev pub Declares : Program → (asks : Bool) → Came → Machine → M → Type 0
  Declares program asks came m' memory' = (side : Side) (n : ℕ) → Knows side program → side.asks ≡ asks → Executes a side program m memory (Code.Declare n i) came m' memory'
