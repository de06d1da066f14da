-- believed
-- The watched meaning of a driver and a script: on one memory, while user code is held to the cells that its annotations let it touch.
use Rattle.std.specs.Prelude.{ℕ, zero, suc, List, [], map, Some}
use Rattle.mdr_core.specs.declared.place.At.{At}
use Rattle.mdr_core.specs.declared.plan.Key.{Key}
use Rattle.mdr_core.specs.declared.plan.Plan.{Plan}
use Rattle.mdr_core.specs.declared.program.Program.{Program}
use Rattle.mdr_core.specs.declared.stop.StopKind.TheVariants as stop
use Rattle.mdr_core.specs.Layout.{chosen}
use Rattle.mdr_extents.specs.Reaching.{visible}
use Rattle.mdr_meaning.specs.declared.wire.Wire.{Wire}
use Rattle.mdr_meaning.specs.Bodies.{started}
use Rattle.mdr_meaning.specs.Tree.{Asked, Tree}
use Rattle.mdr_model.specs.declared.command.Command.{Command}
use Rattle.mdr_model.specs.declared.memory.Cell.{Cell}
use Rattle.mdr_model.specs.Memory.{normal}
use Rattle.mdr_bound.specs.declared.bound.Bound.{Bound}
use Rattle.mdr_plain.specs.Atomic.{is_atomic}
use Rattle.mdr_plain.specs.Running.{Before, Crossing, KernelCode, Setting, call, in_kernel, interrupts, nothing, run}
use Rattle.mdr_plain.specs.Scripts.{Finish, begin, commands, first_world, in_place}
use Rattle.mdr_plain.specs.Services.{served}
use Rattle.mdr_plain.specs.Storage.{accesses, next_serial}
use Rattle.mdr_plain.specs.World.{World, Ran, Ended, Stopped, Work, after}
use Rattle.mdr_watched.specs.Driver.{Driver, driver_of, entry_roots, is_user, result_roots, touched_by}
use Rattle.mdr_watched.specs.Views.{closed, gained, may_touch, opened, renewed, taken, top}

-- what is tried before the ticks of kernel code, and before those of user code
pub record Tries : Type 0 where
  pub kernel : Before
  pub user : Before

-- code of the kernel half, which calls functions of the user half so
abbrev pub kernel_with : Driver → Crossing → KernelCode
kernel_with d crosses = record { program = d.program; side = d.kernel; setting = in_kernel d.program crosses }

-- code that may not wait
abbrev pub may_not : Crossing
may_not at f args depth w = Stopped stop.Atomic (Some at) w

-- code of handlers, which may not
abbrev pub kernel_of : Driver → KernelCode
kernel_of d = kernel_with d may_not

-- the interrupt rule is tried before the ticks of kernel code alone
abbrev pub held : Driver → Tries
held d = record { kernel = interrupts (kernel_of d); user = nothing }

-- an upcall of function t
module _ (d : Driver) (tries : Tries) (t : ℕ) where
  abbrev pub touched : List Key
  touched = touched_by d.plan t

  -- a function of the kernel half gave a result to user code: the set is taken anew, from the old one and the result. A failing pointer stops the calling statement
  abbrev pub returns_to : At → (func : ℕ) (args : List Wire) → Wire → World → Ran Wire
  returns_to at f args v w = taken (visible d.program touched w.memory (top w.views) (result_roots d.program f args v)) at w (λ set. Ended v (renewed set w))

  -- what is passed to the other half: a pointer to a dead block counts as a dead one
  abbrev pub sent : List Wire → World → List Wire
  sent args w = map (normal w.memory) args

  -- a downcall runs in place
  abbrev pub downcall : (crosses : Crossing) → At → (func : ℕ) (args : List Wire) (depth : ℕ) → World → Ran Wire
  downcall crosses at f args depth w = after (call (kernel_with d crosses) tries.kernel f (sent args w) depth w) (λ v w'. returns_to at f (sent args w) v w')

  -- a service that user code asks for: what is born joins the set
  abbrev pub serves : Asked → World → Ran (List Wire)
  serves asked w = after (served d.program asked w) (λ results w'. Ended results (gained d.program touched (next_serial w) w'))

  abbrev pub in_user : (crosses : Crossing) → Setting
  in_user crosses = record { accesses = accesses d.program may_touch; serves = serves; crosses = downcall crosses }

-- where an upcall ended
abbrev pub closing : Ran Wire → Ran Wire
closing (Ended v w) = Ended v (closed w)
closing (Stopped kind at w) = Stopped kind at w

-- where code of the kernel half calls back so
module _ (d : Driver) (tries : Tries) (crosses : Crossing) where
  -- a function of the user half runs, with so many active before it and the set that it began with
  abbrev pub entered : (func : ℕ) (args : List Wire) (depth : ℕ) → List Cell → World → Ran Wire
  entered f args depth set w = closing (run (in_user d tries f crosses) tries.user (started d.user (suc w.clock.rest) f args depth Tree.Idle) (opened set w))

  -- it is called: its set is taken, from its arguments and the globals. A failing pointer is told of the function as a whole
  unfoldable pub upcall : (func : ℕ) (args : List Wire) (depth : ℕ) → World → Ran Wire
  upcall f args depth w = taken (visible d.program (touched_by d.plan f) w.memory [] (entry_roots d.program f args)) (record { func = f; stmt = 0 }) w (λ set. entered f args depth set w)

  -- what a command does
  abbrev pub does_with : Command → World → Work
  does_with c w =
      in_place (kernel_of d) (λ f args w'. call (kernel_with d crosses) tries.kernel f args 0 w') (λ f args w'. upcall f args 0 w')
      (begin (kernel_of d) (is_user d.plan) c w)

-- code of the kernel half calls back, where it may wait: an upcall, with its arguments as they are now. There is room for so many within one another, and each has more functions active than the one around it, so room for 256 is always enough
unfoldable pub calls_back : Driver → Tries → (room : ℕ) → Crossing
calls_back d tries zero at f args depth w = Stopped stop.Depth (Some at) w
calls_back d tries (suc room) at f args depth w = chosen (is_atomic w) (Stopped stop.Atomic (Some at) w) (upcall d tries (calls_back d tries room) f (map (normal w.memory) args) depth w)

abbrev pub backs : Driver → Tries → Crossing
backs d tries = calls_back d tries 256

abbrev pub does : Driver → Tries → Command → World → Work
does d tries c w = does_with d tries (backs d tries) c w

-- the run of a script under a budget of ticks
unfoldable pub watched_of : Driver → Bound → (budget : ℕ) → Finish
watched_of d script budget = commands (does d (held d)) script.commands (first_world d.kernel.known script budget)

abbrev pub watched : Program → Plan → Bound → (budget : ℕ) → Finish
watched program plan script budget = watched_of (driver_of program plan) script budget
