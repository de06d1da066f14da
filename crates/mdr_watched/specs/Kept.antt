-- for proofs
-- Where annotations are kept and no interrupt meets user code.
use Rattle.std.specs.Prelude.{◌≡◌, ℕ, [], Option, Some, None}
use Rattle.mdr_core.specs.declared.plan.Plan.{Plan}
use Rattle.mdr_core.specs.declared.program.Program.{Program}
use Rattle.mdr_core.specs.declared.stop.StopKind.TheVariants as stop
use Rattle.mdr_core.specs.Layout.{chosen}
use Rattle.mdr_model.specs.declared.outcome.End.TheVariants as ends
use Rattle.mdr_plain.specs.Gate.{are_none, due}
use Rattle.mdr_plain.specs.Running.{Before, KernelCode, interrupts}
use Rattle.mdr_plain.specs.Scripts.{Finish, commands, first_world}
use Rattle.mdr_plain.specs.World.{World, Stopped, Work, done}
use Rattle.mdr_bound.specs.declared.bound.Bound.{Bound}
use Rattle.mdr_watched.specs.Driver.{Driver, driver_of}
use Rattle.mdr_watched.specs.Watched.{Tries, does, kernel_of}

-- the interrupt that the plain rule takes now, which doesn't ask whether user code is active
abbrev pub due_plainly : World → Option ℕ
due_plainly w = due (record w { views = [] })

-- an interrupt that meets user code ends the run
abbrev pub unless_due : Option ℕ → World → Work
unless_due None w = done w
unless_due (Some handler) w = Stopped stop.Annotation None w

-- in user code a function of the user half is active
abbrev pub meets_user : Before
meets_user depth w = unless_due (due_plainly w) w

-- in kernel code one is where an upcall is open
abbrev pub meets_none : KernelCode → Before
meets_none kernel depth w = chosen (are_none w.views) (interrupts kernel depth w) (unless_due (due_plainly w) w)

-- the plain rule is tried before each tick
abbrev pub free : Driver → Tries
free d = record { kernel = meets_none (kernel_of d); user = meets_user }

-- the run in which interrupts come by the plain rule, while the visible sets are followed: it ends where a stop comes, where user code leaves its set, where a pointer fails, and where an interrupt is taken while a function of the user half is active
unfoldable pub followed_of : Driver → Bound → (budget : ℕ) → Finish
followed_of d script budget = commands (does d (free d)) script.commands (first_world d.kernel.known script budget)

-- none of these comes
abbrev pub KeptOf : Driver → Bound → (budget : ℕ) → Type 0
KeptOf d script budget = (followed_of d script budget).end ≡ ends.Ok

abbrev pub Kept : Program → Plan → Bound → (budget : ℕ) → Type 0
Kept program plan script budget = KeptOf (driver_of program plan) script budget
