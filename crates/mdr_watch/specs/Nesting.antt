-- protocol
-- Upcalls within one another: the code of the kernel half that user code calls, and what it does where it calls back.
use Rattle.std.specs.Prelude.{◌≡◌, suc, List, map}
use Rattle.mdr_events.specs.declared.event.Crossing.{Crossing}
use Rattle.mdr_events.specs.Values.{wires_of}
use Rattle.mdr_meaning.specs.declared.wire.Wire.{Wire}
use Rattle.mdr_meaning.specs.Bodies.{started}
use Rattle.mdr_meaning.specs.Tree.{Tree}
use Rattle.mdr_model.specs.declared.memory.Cell.{Cell}
use Rattle.mdr_model.specs.Memory.{normal}
use Rattle.mdr_plain.specs.Running.{Before, Setting, call, in_kernel, interrupts, nothing, run}
use Rattle.mdr_plain.specs.World.{World, Ran, Ended, after}
use Rattle.mdr_runs.specs.Pausing.{finishes}
use Rattle.mdr_watched.specs.Watched.{entered, held, kernel_of, kernel_with, upcall}
use Rattle.mdr_whole.specs.declared.paused.Went.{Went}
use Rattle.mdr_watch.specs.declared.watch.Activation.{Activation}
use Rattle.mdr_watch.specs.Watching.{around_user, backs_in, came_below, driver_in, user_side}

-- ---- code of the kernel half

-- what stands around it, and what is tried before its ticks
abbrev pub around_kernel : Activation → Setting
around_kernel a = in_kernel a.upcall.watch.program.now (backs_in a)

abbrev pub tried_below : Activation → Before
tried_below a = interrupts (kernel_of (driver_in a.upcall.watch))

-- a function of it is called with these arguments
abbrev pub called_in : Activation → Crossing → World → Ran Wire
called_in a c w = call (kernel_with (driver_in a.upcall.watch) (backs_in a)) (tried_below a) c.func (wires_of c.args) c.depth w

-- what all of it comes to where it came so far
abbrev pub ends_below : Activation → Went → World → Ran Wire
ends_below a g w = finishes (around_kernel a) (tried_below a) (came_below a.upcall.watch g w)

-- it calls back
abbrev pub calls_back_in : Activation → Crossing → World → Ran Wire
calls_back_in a c w = backs_in a c.at c.func (wires_of c.args) c.depth w

-- a call with its arguments as they are in a world
pub record IsSent (c : Crossing) (w : World) (sent : Crossing) : Type 0 where
  pub at : sent.at ≡ c.at
  pub func : sent.func ≡ c.func
  pub args : wires_of sent.args ≡ map (normal w.memory) (wires_of c.args)
  pub depth : sent.depth ≡ c.depth

-- ---- upcalls

-- one is called, runs with the set that it begins with, and runs where it is open
abbrev pub upcalls_in : Activation → (args : List Wire) → World → Ran Wire
upcalls_in a args w = upcall (driver_in a.upcall.watch) (held (driver_in a.upcall.watch)) (backs_in a) a.upcall.func args a.depth w

abbrev pub entered_in : Activation → (args : List Wire) → List Cell → World → Ran Wire
entered_in a args set w = entered (driver_in a.upcall.watch) (held (driver_in a.upcall.watch)) (backs_in a) a.upcall.func args a.depth set w

abbrev pub runs_in : Activation → (args : List Wire) → World → Ran Wire
runs_in a args w = run (around_user a) nothing (started (user_side a.upcall) (suc w.clock.rest) a.upcall.func args a.depth Tree.Idle) w

-- the call of its function in the other half, and what is passed on of what that gave
pub record IsElsewhere (a : Activation) (passed : List Wire) (c : Crossing) : Type 0 where
  pub at : c.at ≡ record { func = a.upcall.func; stmt = 0 }
  pub func : c.func ≡ a.upcall.func
  pub args : wires_of c.args ≡ passed
  pub depth : c.depth ≡ a.depth

abbrev pub passes_on : Ran Wire → Ran Wire
passes_on ran = after ran (λ v w. Ended (normal w.memory v) w)
