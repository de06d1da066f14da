-- protocol
-- Values that are stored.
use Rattle.std.specs.Prelude.{◌≡◌, ℕ, List, Option, Some, None, Result}
use Rattle.mdr_core.specs.declared.program.Program.{Program}
use Rattle.mdr_core.specs.declared.stop.StopKind.{StopKind}
use Rattle.mdr_core.specs.declared.value.Value.{Value}
use Rattle.mdr_core.specs.Code.{Lvalue}
use Rattle.mdr_meaning.specs.declared.wire.Wire.{Wire}
use Rattle.mdr_meaning.specs.Bodies.{known_of}
use Rattle.mdr_meaning.specs.Sides.{Locals}
use Rattle.mdr_meaning.specs.Walk.{Accesses}
use Rattle.mdr_events.specs.Outcomes.{when_made}
use Rattle.mdr_events.specs.Values.{wires_of}
use Rattle.mdr_exec.specs.Effects.{did, put_of, stored_by}

-- the locals with these values in their slots
abbrev pub with_slots : List Value → List Wire → Locals
with_slots slots born = record { slots = wires_of slots; born = born }

-- the slot that an lvalue is
abbrev pub slot_named : Lvalue → Option ℕ
slot_named (Lvalue.Slot i) = Some i
slot_named p = None

-- the locals with these objects too
abbrev pub locals_of : (slots born : List Value) → Locals
locals_of slots born = with_slots slots (wires_of born)

-- a value is stored where a place was found, whatever the locals are
abbrev pub Stores : {M : Type 0} → Accesses M → (found : Result Wire StopKind) → Wire → M → Result (Unit {0}) StopKind → M → Type 0
Stores a found v m r m' = (l : Locals) → stored_by a found v l m ≡ did (when_made r l) m'

-- a value is put where an lvalue says: what is made of the locals with the slots that are there then, and the memory
abbrev pub Puts : {M : Type 0} → Accesses M → Program → Lvalue → Wire → List Value → M → (Locals → Result Locals StopKind) → List Value → M → Type 0
Puts a program p v slots m made slots' m' = (born : List Wire) → put_of a (known_of program) p v (with_slots slots born) m ≡ did (made (with_slots slots' born)) m'
