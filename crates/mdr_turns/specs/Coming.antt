-- protocol
-- What the steps of the code come to.
use Rattle.std.specs.Prelude.{◌≡◌, ℕ, List, drop, map}
use Rattle.mdr_core.specs.declared.place.At.{At}
use Rattle.mdr_events.specs.declared.event.Crossing.{Crossing}
use Rattle.mdr_events.specs.Values.{wires_of}
use Rattle.mdr_meaning.specs.declared.shape.Shape64.{Shape64}
use Rattle.mdr_meaning.specs.declared.wire.Wire.{Wire}
use Rattle.mdr_meaning.specs.Lives.{asked_for}
use Rattle.mdr_meaning.specs.Tree.{Asked}
use Rattle.mdr_model.specs.declared.command.Command.{Command}
use Rattle.mdr_model.specs.declared.memory.Cell.{Cell}
use Rattle.mdr_model.specs.declared.outcome.End.{End}
use Rattle.mdr_model.specs.declared.reply.Down.{Down as Downcall}
use Rattle.mdr_model.specs.Memory.{normal}
use Rattle.mdr_plain.specs.Scripts.{begin, returned}
use Rattle.mdr_plain.specs.Running.{Went as AnyWent, Gave, interrupts}
use Rattle.mdr_plain.specs.World.{World, Ran, Ended, Work}
use Rattle.mdr_split.specs.Kernel.{called, calls, continued, kernel_tree, runs_kernel, serviced, split_by, split_commands, then_split, went}
use Rattle.mdr_split.specs.State.{Kernel, Open, Rest, Commanded as ByCommand, Down, Pending, Over, Waits}
use Rattle.mdr_turns.specs.declared.state.Active.{Active}
use Rattle.mdr_turns.specs.declared.state.Behind.{Behind}
use Rattle.mdr_turns.specs.declared.state.Between.{Between}
use Rattle.mdr_turns.specs.declared.state.Callee.{Callee}
use Rattle.mdr_turns.specs.declared.state.Commanded.{Commanded}
use Rattle.mdr_turns.specs.declared.state.Commanded.TheVariants as commanded
use Rattle.mdr_turns.specs.declared.state.Ledger.{Ledger}
use Rattle.mdr_turns.specs.declared.state.Pending.{Pending as CodePending}
use Rattle.mdr_turns.specs.declared.state.Pending.TheVariants as pending
use Rattle.mdr_turns.specs.declared.state.Wait.{Wait}
use Rattle.mdr_turns.specs.declared.state.Waiting.{Waiting}
use Rattle.mdr_turns.specs.States.{IsBetween, StandsFor, kernel_at, kernel_in, kernel_of, kernel_with, next_of, open_of, rest_of, upcall_of}
use Rattle.mdr_watch.specs.declared.watch.Watch.{Watch}
use Rattle.mdr_watch.specs.Leaving.{with_views}
use Rattle.mdr_watched.specs.Driver.{Driver, is_user}
use Rattle.mdr_watched.specs.Watched.{held, kernel_of as kernel_code_of, serves}
use Rattle.mdr_whole.specs.declared.paused.Went.{Went}
use Rattle.mdr_whole.specs.Pausing.{went_as}

-- a state of the run is that of a world, in which there may be other sets: of these nothing is shown
pub record IsLeft (w left : World) : Type 0 where
  pub views : List (List Cell)
  pub world : w ≡ with_views views left

-- the run is over, in this world
pub record IsOver (end : End) (left : World) (p : Pending) : Type 0 where
  pub kernel : Kernel
  pub is : p ≡ Over end kernel
  pub world : IsLeft kernel.world left

-- the code's state is the definition's, for a script
abbrev pub ComesTo : Driver → CodePending → (script : List Command) → Pending → Type 0
ComesTo d (pending.Over end w) script p = IsOver end w.world p
ComesTo d (pending.Waits m w) script p = p ≡ Waits m (kernel_of w) (open_of w) (rest_of d w.behind.frames) (drop w.behind.done script)

-- it is one of the run of this driver
abbrev pub KeptFor : Watch → CodePending → Type 0
KeptFor watch (pending.Over end w) = w.program ≡ watch.program.now
KeptFor watch (pending.Waits m w) = StandsFor watch w

-- what a command comes to, before commands that are still to begin
abbrev pub CommandedTo : Driver → Commanded → (script : List Command) → (go : Kernel → Pending) → Pending → Type 0
CommandedTo d (commanded.Goes b) script go p = p ≡ go (kernel_at b)
CommandedTo d (commanded.Rests r) script go p = ComesTo d r script p

abbrev pub CommandedFor : Watch → Commanded → Type 0
CommandedFor watch (commanded.Goes b) = IsBetween watch b
CommandedFor watch (commanded.Rests r) = KeptFor watch r

-- ---- an open upcall, in a script

-- what this gives of an upcall that is active, and of one that waits
abbrev pub from_active : Driver → Active → (script : List Command) → (next : Kernel → Open → Rest → List Command → Pending) → Pending
from_active d a script next = next (kernel_in a) (upcall_of a.open) (rest_of d a.behind.frames) (drop a.behind.done script)

abbrev pub from_waiting : Driver → Waiting → (script : List Command) → (next : Kernel → Open → Rest → List Command → Pending) → Pending
from_waiting d w script next = next (kernel_of w) (open_of w) (rest_of d w.behind.frames) (drop w.behind.done script)

-- it asks for a service, which is done as where there is one memory
abbrev pub asks : Driver → Active → Asked → (script : List Command) → Pending
asks d a asked script = from_active d a script (serviced d asked (serves d (held d) a.open.func asked a.guarded.world))

-- a command begins between two upcalls, before these that are left
abbrev pub commanded_at : Driver → Command → Between → (left : List Command) → (go : Kernel → Pending) → Pending
commanded_at d command b left go = split_by (begin (kernel_code_of d) (is_user d.plan) command b.world.world) d left (kernel_at b) go

-- ---- code of the kernel half

-- what code of the kernel half came to in a world
abbrev pub came : Driver → Went → World → AnyWent
came d g w = went_as d.program d.kernel g w

-- a command calls a function of it
abbrev pub enters : Driver → (func : ℕ) (args : List Wire) → World → AnyWent
enters d func args w = runs_kernel d (kernel_tree d func args 0 w) w

-- what follows it where user code of an upcall called it, at a statement and with these arguments
abbrev pub down_goes : Driver → At → (func : ℕ) (args : List Wire) → AnyWent → Kernel → Open → Rest → List Command → Pending
down_goes d at func args g k upcall rest script = went d (Down at func args upcall rest) g k (λ k'. split_commands d script k') script

-- a function of the kernel half is called so, in this world
abbrev pub down_begins : Driver → World → At → (func : ℕ) (args : List Wire) (depth : ℕ) → Kernel → Open → Rest → List Command → Pending
down_begins d w at func args depth = down_goes d at func args (runs_kernel d (kernel_tree d func args depth w) w)

-- and by a reply, with its arguments as they are now
abbrev pub goes_down : Driver → Active → Downcall → (script : List Command) → Pending
goes_down d a down script =
    from_active d a script (down_begins d a.guarded.world down.at down.func (map (normal a.guarded.world.memory) down.args) down.depth)

-- ---- an upcall returns

-- its result is noted, and then the interrupt rule is tried
abbrev pub gives : Driver → Wire → World → Work
gives d v w = returned (interrupts (kernel_code_of d)) (Ended v w)

-- code that waits goes on with it
abbrev pub resumes : Driver → Wait → Wire → World → AnyWent
resumes d x v w = runs_kernel d (next_of d x v) w

-- what called it goes on, in a script
abbrev pub returns : Driver → Wire → Kernel → Behind → (script : List Command) → Pending
returns d v k behind script = continued d v k (rest_of d behind.frames) (drop behind.done script)

-- ---- whatever the script is

-- it comes to this of each script
abbrev pub ComesAlways : Driver → CodePending → (next : List Command → Pending) → Type 0
ComesAlways d p next = (script : List Command) → ComesTo d p script (next script)

-- it comes to this of what is kept, in whatever world, of what follows the innermost upcall, and of each script behind the commands that have begun
abbrev pub ComesWith : Driver → CodePending → Ledger → Behind → (next : Kernel → Rest → List Command → Pending) → Type 0
ComesWith d p ledger behind next = (script : List Command) (before : World) → ComesTo d p script (next (kernel_with ledger before) (rest_of d behind.frames) (drop behind.done script))

-- so an upcall goes on that is active, and one that waits
abbrev pub ActiveGoesOn : Driver → CodePending → Active → (next : Kernel → Open → Rest → List Command → Pending) → Type 0
ActiveGoesOn d p a next = ComesWith d p a.ledger a.behind (λ k rest script. next k (upcall_of a.open) rest script)

abbrev pub WaitingGoesOn : Driver → CodePending → Waiting → (next : Kernel → Open → Rest → List Command → Pending) → Type 0
WaitingGoesOn d p w next = ComesWith d p w.ledger w.behind (λ k rest script. next k (open_of w) rest script)

-- its question had these results
abbrev pub IsServed : Driver → CodePending → Active → Asked → (results : List Wire) → Type 0
IsServed d p a asked results = ActiveGoesOn d p a (serviced d asked (Ended results a.guarded.world))

-- an upcall is told that was opened so, and an upcall begins in a world
abbrev pub TellsCall : Driver → CodePending → Callee → Work → Ledger → Behind → Type 0
TellsCall d p c work ledger behind = ComesWith d p ledger behind (called d c.func c.depth (wires_of c.args.now) work)

abbrev pub BeginsCall : Driver → CodePending → Callee → World → Ledger → Behind → Type 0
BeginsCall d p c w ledger behind = ComesWith d p ledger behind (calls d c.func c.depth (wires_of c.args.now) w)

-- so does one that code of the kernel half calls, with its arguments as they are now
abbrev pub PassesOn : Driver → CodePending → Crossing → World → Ledger → Behind → Type 0
PassesOn d p c w ledger behind = ComesWith d p ledger behind (calls d c.func c.depth (map (normal w.memory) (wires_of c.args)) w)

-- code of the kernel half that user code called so came to this
abbrev pub DownGoes : Driver → CodePending → Active → Crossing → AnyWent → Type 0
DownGoes d p a c g = ActiveGoesOn d p a (down_goes d c.at c.func (wires_of c.args) g)

abbrev pub DownGave : Driver → CodePending → Active → Crossing → Ran Wire → Type 0
DownGave d p a c ran = DownGoes d p a c (Gave ran)

-- user code calls code of the kernel half so
abbrev pub DownBegins : Driver → CodePending → Active → Crossing → Type 0
DownBegins d p a c = ActiveGoesOn d p a (down_begins d a.guarded.world c.at c.func (wires_of c.args) c.depth)

-- what called an upcall went on with its result
abbrev pub ReturnsTo : Driver → CodePending → Wire → Kernel → Behind → (script : List Command) → Type 0
ReturnsTo d p v k behind script = ComesTo d p script (returns d v k behind script)

-- so many commands have begun, of which the last came to this; the script went on, where it does
abbrev pub ScriptGoesOn : Driver → CodePending → Commanded → (begun : ℕ) → (script : List Command) → Type 0
ScriptGoesOn d r c begun script = (p : Pending) → CommandedTo d c script (λ k. split_commands d (drop begun script) k) p → ComesTo d r script p

-- a command's upcall gave this in a world, as the last of so many, and the script goes on
abbrev pub NotesIn : Driver → CodePending → Wire → World → Ledger → (begun : ℕ) → (script : List Command) → Type 0
NotesIn d p v w ledger begun script =
    (before : World) → ComesTo d p script (then_split (gives d v w) (kernel_with ledger before) (λ k. split_commands d (drop begun script) k))

-- code goes on with it that a command called, as the last of so many
abbrev pub ResumesIn : Driver → CodePending → Wait → Wire → World → Ledger → (begun : ℕ) → (script : List Command) → Type 0
ResumesIn d p x v w ledger begun script =
    (before : World) → ComesTo d p script (went d ByCommand (resumes d x v w) (kernel_with ledger before) (λ k. split_commands d (drop begun script) k) (drop begun script))

-- code that the last of so many commands called came to this, and the run rests
abbrev pub RestsBack : Driver → CodePending → Ledger → (begun : ℕ) → AnyWent → Type 0
RestsBack d p ledger begun g = (script : List Command) (before : World) (go : Kernel → Pending) → ComesTo d p script (went d ByCommand g (kernel_with ledger before) go (drop begun script))

-- a command comes to this of each script, and of whatever goes on behind it
abbrev pub LeadsTo : Driver → Commanded → (next : List Command → (Kernel → Pending) → Pending) → Type 0
LeadsTo d c next = (script : List Command) (go : Kernel → Pending) → CommandedTo d c script go (next script go)

-- it comes to what follows work of the kernel half, with what is kept
abbrev pub LeadsOn : Driver → Commanded → Ledger → Work → Type 0
LeadsOn d c ledger work = (script : List Command) (before : World) (go : Kernel → Pending) → CommandedTo d c script go (then_split work (kernel_with ledger before) go)

-- and to what follows code of the kernel half that it called, as the last of so many
abbrev pub LeadsBack : Driver → Commanded → Ledger → (begun : ℕ) → AnyWent → Type 0
LeadsBack d c ledger begun g = (script : List Command) (before : World) (go : Kernel → Pending) → CommandedTo d c script go (went d ByCommand g (kernel_with ledger before) go (drop begun script))

-- this holds of each service with this number that is asked for with these arguments
abbrev pub OfEachAsked : (service : ℕ) → (args : List Wire) → (holds : Asked → Type 0) → Type 0
OfEachAsked service args holds = (at : At) (shapes : List Shape64) (bytes : List ℕ) → holds (asked_for service at args shapes bytes)
