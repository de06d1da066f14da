-- protocol
-- What a step comes to that leaves a block or a function.
use Rattle.std.specs.Prelude.{◌≡◌, Bool, true, false, List, [], ◌∷◌, ◌++◌, Option, Some, None}
use Rattle.mdr_core.specs.declared.place.At.{At}
use Rattle.mdr_core.specs.declared.program.Program.{Program}
use Rattle.mdr_core.specs.declared.value.Value.{Value}
use Rattle.mdr_meaning.specs.declared.wire.Wire.{Wire}
use Rattle.mdr_meaning.specs.Lives.{asked_for}
use Rattle.mdr_meaning.specs.Sides.{Flow, Returns, Side, in_here}
use Rattle.mdr_meaning.specs.Values.{wire_of}
use Rattle.mdr_meaning.specs.Walk.{Accesses}
use Rattle.mdr_events.specs.Steps.{Came, Goes, Asks, Ended}
use Rattle.mdr_events.specs.Values.{wires_of}
use Rattle.mdr_exec.specs.declared.frame.Machine.{Machine}
use Rattle.mdr_exec.specs.declared.leave.Ending.{Ending}
use Rattle.mdr_exec.specs.declared.leave.Ending.TheVariants as ending
use Rattle.mdr_exec.specs.declared.places.Position.{Position}
use Rattle.mdr_exec.specs.declared.unwind.Left.{Left}
use Rattle.mdr_exec.specs.declared.unwind.Left.TheVariants as left
use Rattle.mdr_exec.specs.Closing.{DiesAt, Finishes}
use Rattle.mdr_exec.specs.Executing.{AsksAs, HoldsSame, StepsTo}
use Rattle.mdr_exec.specs.Holding.{held_of}
use Rattle.mdr_exec.specs.Leaving.{here_in}

abbrev pub left_came : Left → At → Came
left_came left.Goes at = Goes
left_came (left.Asks ps) at = Asks (asked_for 14 at (wires_of ps) [] [])
left_came (left.Ended v) at = Ended (wire_of v)

-- what was asked to die, if anything
abbrev pub left_of : Option (List Value) → Left
left_of None = left.Goes
left_of (Some ps) = left.Asks ps

-- a return takes the objects of its blocks along, and a loop's step has none of its own
abbrev pub dies_in : Ending → Flow → List Wire → Bool
dies_in ending.Stepped flow inner = false
dies_in end (Returns v) inner = false
dies_in end flow [] = false
dies_in end flow (p ∷ ps) = true

-- the machine in a list of the statement at a position of its block
abbrev pub inside : Machine → Position → Machine
inside m p = record {
  side = m.side;
  front = m.front;
  top = record { func = m.top.func; depth = m.top.depth; path = m.top.path ++ p ∷ []; next = m.top.next; slots = m.top.slots; born = m.top.born };
  below = m.below;
  used = m.used;
}

-- ---- steps that leave a block or a function, on a side that asks as the machine does

module _ {M : Type 0} (a : Accesses M) (side : Side) (program : Program) (m : Machine) (memory : M) where
  abbrev pub LeavesBy : (At → Came) → Machine → M → Type 0
  LeavesBy came m' memory' = AsksAs side m → StepsTo a side program m memory (came (in_here (here_in program m) 0)) m' memory'

-- the objects of what is left die, by whether deaths are asked for
abbrev pub Dies : {M : Type 0} → Accesses M → Machine → M → Flow → ((asks : Bool) → At → Came) → Machine → M → Type 0
Dies a m memory flow came m' memory' = (program : Program) (side : Side) → DiesAt flow (held_of program m).items → LeavesBy a side program m memory (came side.asks) m' memory'

-- a machine holds the work that it held
abbrev pub StillHolds : Machine → Machine → Type 0
StillHolds m m' = (program : Program) (side : Side) → HoldsSame side program m m'

-- the function that was started last ended with a value
abbrev pub EndsWith : Machine → Wire → Machine → Type 0
EndsWith m v m' = (program : Program) (side : Side) → Finishes side (held_of program m) v (held_of program m')
