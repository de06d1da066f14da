-- protocol
-- Which code runs on a side: that of one half, or all of it.
use Rattle.std.specs.Prelude.{◌≡◌, ℕ, suc, Bool, true, false, not, List, Option, Some, None, Result, Ok, Err, slice_get}
use Rattle.mdr_core.specs.declared.plan.Half.{Half}
use Rattle.mdr_core.specs.declared.plan.Half.TheVariants as half
use Rattle.mdr_core.specs.declared.program.Program.{Program}
use Rattle.mdr_core.specs.declared.stop.StopKind.{StopKind}
use Rattle.mdr_core.specs.declared.place.At.{At}
use Rattle.mdr_core.specs.Code.{Called, CallOf, Code, Goal, Term}
use Rattle.mdr_core.specs.Layout.{chosen}
use Rattle.mdr_core.specs.Services.{Service, Kzalloc, Kcalloc, Printk, Deliver}
use Rattle.mdr_meaning.specs.Bodies.{body_of, known_of, whole_side, kernel_side, user_side}
use Rattle.mdr_meaning.specs.Sides.{Body, Here, Side}
use Rattle.mdr_events.specs.Events.{asked_as}
use Rattle.mdr_events.specs.Held.{Held, WaitsValue}
use Rattle.mdr_events.specs.Steps.{holds}
use Rattle.mdr_events.specs.Values.{wires_of}
use Rattle.mdr_exec.specs.declared.calling.Calling.{Calling as Doing}
use Rattle.mdr_exec.specs.declared.calling.Calling.TheVariants as doing
use Rattle.mdr_exec.specs.declared.calling.Calls.{Calls}
use Rattle.mdr_exec.specs.declared.calling.Taking.{Taking}
use Rattle.mdr_exec.specs.declared.calling.Taking.TheVariants as taking
use Rattle.mdr_exec.specs.declared.frame.Machine.{Machine}
use Rattle.mdr_exec.specs.declared.frame.Side.{Side as Which}
use Rattle.mdr_exec.specs.declared.frame.Side.TheVariants as which
use Rattle.mdr_meaning.specs.Walk.{Accesses}
use Rattle.mdr_exec.specs.Calling.{Calling, Entering, Crossing, Asking, called_of, called_through}
use Rattle.mdr_exec.specs.Closing.{asks_on}
use Rattle.mdr_exec.specs.Found.{body_codes}
use Rattle.mdr_exec.specs.Holding.{block_of, goal_at, held_of, number_at, result_by, slots_by}
use Rattle.mdr_exec.specs.Leaving.{here_in}
use Rattle.mdr_exec.specs.Places.{behind, code_at}
use Rattle.mdr_exec.specs.StatementSteps.{calling}
use Rattle.mdr_exec.specs.Storing.{with_slots}

-- ---- sides

abbrev pub is_kernel_half : Option Half → Bool
is_kernel_half (Some half.Kernel) = true
is_kernel_half (Some half.User) = false
is_kernel_half None = false

abbrev pub is_kernel : List Half → ℕ → Bool
is_kernel halves f = is_kernel_half (slice_get halves f)

-- whether code of a function runs on a side, by its half
abbrev pub is_own : Which → (kernel : Bool) → Bool
is_own which.Whole kernel = true
is_own which.Kernel kernel = kernel
is_own which.User kernel = not kernel

-- the side of a machine
abbrev pub side_in : Which → List Half → Program → Side
side_in s halves program = record { known = known_of program; own = λ f. chosen (is_own s (is_kernel halves f)) (body_of program f) None; asks = asks_on s }

-- it enters the bodies that the meaning of its half enters
pub record AreSides (halves : List Half) (program : Program) : Type 0 where
  pub whole : side_in which.Whole halves program ≡ whole_side program
  pub kernel : side_in which.Kernel halves program ≡ kernel_side (is_kernel halves) program
  pub user : side_in which.User halves program ≡ user_side (is_kernel halves) program

abbrev pub SidesAreHalves : Type 0
SidesAreHalves = (halves : List Half) (program : Program) → AreSides halves program

-- ---- calls

-- the body of a function that has one
abbrev pub body_in : Program → ℕ → Body
body_in program f = record { slots = slots_by (slice_get program.funcs f); result = result_by (slice_get program.funcs f); code = body_codes program f }

abbrev pub calling_as : Program → Doing → Calling
calling_as program (doing.Entering f args) = Entering f (wires_of args) (body_in program f)
calling_as program (doing.Crossing f args) = Crossing f (wires_of args)
calling_as program (doing.Asking asked) = Asking (asked_as asked)

abbrev pub called_as : Program → Result Doing StopKind → Result Calling StopKind
called_as program (Ok c) = Ok (calling_as program c)
called_as program (Err kind) = Err kind

abbrev pub side_at : Calls → Side
side_at c = side_in c.machine.now.side c.halves.now c.program.now

abbrev pub here_at : Calls → Here
here_at c = here_in c.program.now c.machine.now

-- a call over a memory: through a pointer, of a service, or any
module _ {M : Type 0} (a : Accesses M) (c : Calls) (m : M) where
  abbrev pub called_through_at : CallOf → Term → Result Calling StopKind
  called_through_at form e = called_through a (side_at c) (here_at c) m form (wires_of c.machine.now.top.slots) e

  abbrev pub called_at : At → CallOf → Called → Result Calling StopKind
  called_at at form callee = called_of a (side_at c) (here_at c) m at form (wires_of c.machine.now.top.slots) callee

-- what is asked for besides the arguments
abbrev pub taking_by : Option Service → Taking
taking_by (Some Kzalloc) = taking.Object
taking_by (Some Kcalloc) = taking.Objects
taking_by (Some Printk) = taking.Text
taking_by (Some Deliver) = taking.Bytes
taking_by _ = taking.Arguments

-- a call that comes next is made, and this is held then
abbrev pub HoldsCall : Program → Machine → Calling → Held → Type 0
HoldsCall program m c held =
    (n : ℕ) (goal : Goal) (form : CallOf) → code_at (block_of program m.top) m.top.next ≡ Some (Code.Call n goal form)
    → held ≡ calling (here_in program m) (with_slots m.top.slots (wires_of m.top.born)) (behind (block_of program m.top) (suc m.top.next)) (held_of program m).items n goal (Ok c)

-- its value is asked for, behind it
abbrev pub awaits : Program → Machine → Held
awaits program m =
    holds (WaitsValue (number_at (code_at (block_of program m.top) m.top.next)) (goal_at (code_at (block_of program m.top) m.top.next)))
    (here_in program m) (with_slots m.top.slots (wires_of m.top.born)) (behind (block_of program m.top) (suc m.top.next)) (held_of program m).items
