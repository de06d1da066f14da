-- protocol
-- What a machine stands at, and what its steps come to.
use Rattle.std.specs.Prelude.{◌≡◌, ◌-◌, ℕ, List, Option, Some, Result, Ok}
use Rattle.mdr_core.specs.declared.plan.Half.{Half}
use Rattle.mdr_core.specs.declared.place.At.{At}
use Rattle.mdr_core.specs.declared.program.Program.{Program}
use Rattle.mdr_core.specs.declared.stop.StopKind.{StopKind}
use Rattle.mdr_core.specs.Code.{Code, Codes, Goal, Lvalue, Term}
use Rattle.mdr_meaning.specs.declared.wire.Wire.{Wire}
use Rattle.mdr_meaning.specs.Bodies.{known_of}
use Rattle.mdr_meaning.specs.Sides.{Side, in_here}
use Rattle.mdr_meaning.specs.Walk.{Accesses}
use Rattle.mdr_events.specs.declared.event.Event.{Event}
use Rattle.mdr_events.specs.Going.{RanTo}
use Rattle.mdr_events.specs.Held.{Comes}
use Rattle.mdr_events.specs.Steps.{Came, IsSame, Steps, Ticks}
use Rattle.mdr_events.specs.Values.{wires_of}
use Rattle.mdr_exec.specs.declared.frame.Machine.{Machine}
use Rattle.mdr_exec.specs.declared.turn.Stepped.{Stepped}
use Rattle.mdr_exec.specs.Closing.{asks_on}
use Rattle.mdr_exec.specs.Evaluation.{value_of}
use Rattle.mdr_exec.specs.Going.{SteppedTo}
use Rattle.mdr_exec.specs.Halves.{side_in}
use Rattle.mdr_exec.specs.Holding.{block_of, front_in, held_of}
use Rattle.mdr_exec.specs.Leaving.{here_in}
use Rattle.mdr_exec.specs.Places.{code_at}

-- ---- what a machine stands at

-- the statement that comes next in its innermost block
abbrev pub next_in : Program → Machine → Option Code
next_in program m = code_at (block_of program m.top) m.top.next

abbrev pub StandsAt : Program → Machine → Code → Type 0
StandsAt program m code = next_in program m ≡ Some code

-- the side knows the program's types and objects
abbrev pub Knows : Side → Program → Type 0
Knows side program = side.known ≡ known_of program

-- it asks for births and deaths where the machine does
abbrev pub AsksAs : Side → Machine → Type 0
AsksAs side m = side.asks ≡ asks_on m.side

-- two machines hold the same work
abbrev pub HoldsSame : Side → Program → Machine → Machine → Type 0
HoldsSame side program m m' = IsSame side (held_of program m) (held_of program m')

-- ---- steps on a side: what they come to, and the machine and the memory then

module _ {M : Type 0} (a : Accesses M) (side : Side) (program : Program) (m : Machine) (memory : M) where
  -- one that takes no tick
  abbrev pub StepsTo : Came → Machine → M → Type 0
  StepsTo came m' memory' = Steps a side (held_of program m) memory came (held_of program m') memory'

  -- one that takes a tick
  abbrev pub TicksTo : Came → Machine → M → Type 0
  TicksTo came m' memory' = Ticks a side (held_of program m) memory came (held_of program m') memory'

  -- one that is taken while so many ticks are left
  abbrev pub TurnsTo : (ticks : ℕ) → Stepped → Machine → M → Type 0
  TurnsTo ticks stepped m' memory' = SteppedTo a side (held_of program m) memory ticks stepped (held_of program m') memory'

  -- a statement is executed, where the machine stands at it
  abbrev pub Executes : Code → Came → Machine → M → Type 0
  Executes code came m' memory' = StandsAt program m code → TicksTo came m' memory'

  -- the value of a call goes where its statement says
  abbrev pub KeepsAs : (number : ℕ) → Goal → Wire → Came → Machine → M → Type 0
  KeepsAs n goal v came m' memory' = front_in program m.top m.front ≡ Comes n goal v → StepsTo came m' memory'

-- ---- steps on each side that knows the program, by what they come to at the statement's place

module _ {M : Type 0} (a : Accesses M) (program : Program) (m : Machine) (memory : M) where
  -- the value of an expression in the function that runs
  abbrev pub value_in : Term → Result Wire StopKind
  value_in e = value_of a memory (known_of program) (wires_of m.top.slots) e

  -- a statement begins on each side, whatever its number is and whichever program the side knows
  abbrev pub BeginsOnEach : (ℕ → Code) → (At → Came) → Machine → M → Type 0
  BeginsOnEach code came m' memory' = (side : Side) (n : ℕ) → Executes a side program m memory (code n) (came (in_here (here_in program m) n)) m' memory'

  -- a statement begins, whatever its number is
  abbrev pub Begins : (ℕ → Code) → (At → Came) → Machine → M → Type 0
  Begins code came m' memory' = (side : Side) (n : ℕ) → Knows side program → Executes a side program m memory (code n) (came (in_here (here_in program m) n)) m' memory'

  -- an `if` with this test begins
  abbrev pub BeginsIf : Term → (At → Came) → Machine → M → Type 0
  BeginsIf e came m' memory' =
      (side : Side) (n : ℕ) (one other : Codes) → Knows side program → Executes a side program m memory (Code.If n e one other) (came (in_here (here_in program m) n)) m' memory'

  -- a loop with this test begins
  abbrev pub BeginsLoop : Term → (At → Came) → Machine → M → Type 0
  BeginsLoop e came m' memory' =
      (side : Side) (n : ℕ) (step body : Codes) → Knows side program → Executes a side program m memory (Code.Loop n e step body) (came (in_here (here_in program m) n)) m' memory'

  -- an assignment begins whose right side has this value
  abbrev pub BeginsAssigning : Lvalue → Wire → (At → Came) → Machine → M → Type 0
  BeginsAssigning p v came m' memory' =
      (side : Side) (n : ℕ) (e : Term) → Ok v ≡ value_in e → Knows side program → Executes a side program m memory (Code.Assign n p e) (came (in_here (here_in program m) n)) m' memory'

  -- a statement begins whose place is known
  abbrev pub BeginsAt : At → (ℕ → Code) → Came → Machine → M → Type 0
  BeginsAt at code came m' memory' = (side : Side) (n : ℕ) → at ≡ in_here (here_in program m) n → Knows side program → Executes a side program m memory (code n) came m' memory'

  -- the value of a call goes where its statement says
  abbrev pub Keeps : Goal → Wire → (At → Came) → Machine → M → Type 0
  Keeps goal v came m' memory' = (side : Side) (n : ℕ) → Knows side program → KeepsAs a side program m memory n goal v (came (in_here (here_in program m) n)) m' memory'

-- ---- steps on the machine's own side

module _ {M : Type 0} (a : Accesses M) (halves : List Half) (program : Program) (m : Machine) (memory : M) where
  abbrev pub ExecutesOwn : Code → Came → Machine → M → Type 0
  ExecutesOwn code came m' memory' = Executes a (side_in m.side halves program) program m memory code came m' memory'

  abbrev pub TurnsOwn : (ticks : ℕ) → Stepped → Machine → M → Type 0
  TurnsOwn ticks stepped m' memory' = TurnsTo a (side_in m.side halves program) program m memory ticks stepped m' memory'

  -- a run comes to an event, with the ticks left that the machine didn't use
  abbrev pub RunsOwn : (ticks : ℕ) → Event → Machine → M → Type 0
  RunsOwn ticks e m' memory' = RanTo a (side_in m.side halves program) (held_of program m) memory ticks e (held_of program m') memory' (ticks - m'.used)
