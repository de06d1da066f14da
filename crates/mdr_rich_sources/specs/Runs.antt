-- protocol
-- The watched run of a driver and a script, over any meaning of its functions: what each of its halves' functions is started as.
use Rattle.std.specs.Prelude.{ℕ, zero, suc, Bool, true, false, not, List, [], map, Option, Some, None}
use Rattle.mdr_core.specs.declared.place.At.{At}
use Rattle.mdr_core.specs.declared.plan.Plan.{Plan}
use Rattle.mdr_core.specs.declared.program.Program.{Program}
use Rattle.mdr_core.specs.declared.stop.StopKind.TheVariants as stop
use Rattle.mdr_core.specs.Layout.{chosen}
use Rattle.mdr_bound.specs.declared.bound.Bound.{Bound}
use Rattle.mdr_extents.specs.Reaching.{visible}
use Rattle.mdr_meaning.specs.declared.wire.Wire.{Wire}
use Rattle.mdr_meaning.specs.Bodies.{known_of}
use Rattle.mdr_meaning.specs.Tree.{Asked, Tree}
use Rattle.mdr_meaning.specs.Values.{wire_of}
use Rattle.mdr_model.specs.declared.command.Command.{Command}
use Rattle.mdr_model.specs.declared.command.Command.TheVariants as command
use Rattle.mdr_model.specs.declared.memory.Cell.{Cell}
use Rattle.mdr_model.specs.Memory.{normal}
use Rattle.mdr_plain.specs.declared.outcome.Happened.TheVariants as happened
use Rattle.mdr_plain.specs.Atomic.{is_atomic}
use Rattle.mdr_plain.specs.Gate.{due}
use Rattle.mdr_plain.specs.Running.{Before, Crossing, Setting, handling, in_kernel, interrupted, nothing, run}
use Rattle.mdr_plain.specs.Scripts.{Beginning, Did, Enters, Finish, Opens, begun, commands, first_world, idled, poked, returned, showed}
use Rattle.mdr_plain.specs.Services.{served}
use Rattle.mdr_plain.specs.Storage.{accesses, next_serial}
use Rattle.mdr_plain.specs.World.{World, Ran, Ended, Stopped, Work, after, done, noted}
use Rattle.mdr_rich_sources.specs.Functions.{rich_started}
use Rattle.mdr_rich_sources.specs.Bodies.{Bodies, kernel_side, user_side}
use Rattle.mdr_watched.specs.Driver.{entry_roots, is_user, result_roots, touched_by}
use Rattle.mdr_watched.specs.Views.{gained, may_touch, opened, renewed, taken, top}
use Rattle.mdr_watched.specs.Watched.{closing}

-- the tree of a function that is started, with fuel, its arguments, so many active before it, over what lies below
abbrev pub Starts : Type 0
Starts = (fuel func : ℕ) (args : List Wire) (depth : ℕ) (below : Tree) → Tree

-- a program with its plan, and what the functions of each half are started as
pub record Meant : Type 0 where
  pub program : Program
  pub plan : Plan
  pub kernel : Starts
  pub user : Starts

-- ---- code of the kernel half

pub record MeantCode : Type 0 where
  pub program : Program
  pub starts : Starts
  pub setting : Setting

abbrev pub calls : MeantCode → Before → (func : ℕ) (args : List Wire) (depth : ℕ) → World → Ran Wire
calls kernel before f args d w = run kernel.setting before (kernel.starts (suc w.clock.rest) f args d Tree.Idle) w

-- a handler runs to its end, with nothing tried before its ticks
abbrev pub handles : MeantCode → (depth : ℕ) → Option ℕ → World → Work
handles kernel d None w = done w
handles kernel d (Some f) w = after (calls kernel nothing f [] d (interrupted f w)) (λ v w'. done (handling false w'))

unfoldable pub interrupts : MeantCode → Before
interrupts kernel d w = handles kernel d (due w) w

abbrev pub kernel_with : Meant → Crossing → MeantCode
kernel_with d crosses = record { program = d.program; starts = d.kernel; setting = in_kernel d.program crosses }

-- code that may not wait
abbrev pub may_not : Crossing
may_not at f args depth w = Stopped stop.Atomic (Some at) w

abbrev pub kernel_of : Meant → MeantCode
kernel_of d = kernel_with d may_not

-- ---- an upcall of function t

module _ (d : Meant) (t : ℕ) where
  -- a function of the kernel half gave a result to user code: the set is taken anew
  abbrev pub returns_to : At → (func : ℕ) (args : List Wire) → Wire → World → Ran Wire
  returns_to at f args v w = taken (visible d.program (touched_by d.plan t) w.memory (top w.views) (result_roots d.program f args v)) at w (λ set. Ended v (renewed set w))

  -- a downcall runs in place
  abbrev pub downcall : (crosses : Crossing) → At → (func : ℕ) (args : List Wire) (depth : ℕ) → World → Ran Wire
  downcall crosses at f args depth w =
      after (calls (kernel_with d crosses) (interrupts (kernel_of d)) f (map (normal w.memory) args) depth w) (λ v w'. returns_to at f (map (normal w.memory) args) v w')

  -- a service that user code asks for: what is born joins the set
  abbrev pub serves : Asked → World → Ran (List Wire)
  serves asked w = after (served d.program asked w) (λ results w'. Ended results (gained d.program (touched_by d.plan t) (next_serial w) w'))

  abbrev pub in_user : (crosses : Crossing) → Setting
  in_user crosses = record { accesses = accesses d.program may_touch; serves = serves; crosses = downcall crosses }

-- where code of the kernel half calls back so
module _ (d : Meant) (crosses : Crossing) where
  abbrev pub entered : (func : ℕ) (args : List Wire) (depth : ℕ) → List Cell → World → Ran Wire
  entered f args depth set w = closing (run (in_user d f crosses) nothing (d.user (suc w.clock.rest) f args depth Tree.Idle) (opened set w))

  -- its set is taken from its arguments and the globals
  unfoldable pub upcall : (func : ℕ) (args : List Wire) (depth : ℕ) → World → Ran Wire
  upcall f args depth w = taken (visible d.program (touched_by d.plan f) w.memory [] (entry_roots d.program f args)) (record { func = f; stmt = 0 }) w (λ set. entered f args depth set w)

-- code of the kernel half calls back, where it may wait; room for 256 within one another is always enough
unfoldable pub calls_back : Meant → (room : ℕ) → Crossing
calls_back d zero at f args depth w = Stopped stop.Depth (Some at) w
calls_back d (suc room) at f args depth w = chosen (is_atomic w) (Stopped stop.Atomic (Some at) w) (upcall d (calls_back d room) f (map (normal w.memory) args) depth w)

-- ---- scripts

abbrev pub called_by : (is_user : Bool) → (func : ℕ) (args : List Wire) → World → Beginning
called_by true f args w = Opens f args w
called_by false f args w = Enters f args w

unfoldable pub begins : MeantCode → (is_user : ℕ → Bool) → Command → World → Beginning
begins kernel is_user (command.Call f args) w = called_by (is_user f) f (map wire_of args) (begun kernel.program f args w)
begins kernel is_user (command.Idle n) w = Did (idled (interrupts kernel) n w)
begins kernel is_user (command.Show g) w = Did (done (showed kernel.program g w))
begins kernel is_user (command.Poke serial index n) w = Did (done (poked serial index n w))
begins kernel is_user (command.Say text) w = Did (done (noted (happened.Say text) w))

abbrev pub in_place : MeantCode → (enters upcall : (func : ℕ) (args : List Wire) → World → Ran Wire) → Beginning → Work
in_place kernel enters upcall (Did work) = work
in_place kernel enters upcall (Enters f args w) = returned (interrupts kernel) (enters f args w)
in_place kernel enters upcall (Opens f args w) = returned (interrupts kernel) (upcall f args w)

abbrev pub does_with : Meant → Crossing → Command → World → Work
does_with d crosses c w =
    in_place (kernel_of d) (λ f args w'. calls (kernel_with d crosses) (interrupts (kernel_of d)) f args 0 w') (λ f args w'. upcall d crosses f args 0 w')
    (begins (kernel_of d) (is_user d.plan) c w)

-- the run of a script under a budget of ticks
unfoldable pub watched_by : Meant → Bound → (budget : ℕ) → Finish
watched_by d script budget = commands (does_with d (calls_back d 256)) script.commands (first_world (known_of d.program) script budget)

-- ---- by the bodies as they were written

abbrev pub meant_by : Program → Plan → Bodies → Meant
meant_by program plan bs = record {
  program = program;
  plan = plan;
  kernel = rich_started (kernel_side (λ f. not (is_user plan f)) program bs);
  user = rich_started (user_side (λ f. not (is_user plan f)) program bs);
}

abbrev pub written_run : Program → Plan → Bodies → Bound → (budget : ℕ) → Finish
written_run program plan bs script budget = watched_by (meant_by program plan bs) script budget
