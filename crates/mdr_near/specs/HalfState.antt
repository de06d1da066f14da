-- protocol
-- What a kernel half holds.
use Rattle.std.specs.Prelude.{◌≡◌, ℕ, ◌+◌, Bool, List, length}
use Rattle.mdr_core.specs.declared.plan.Plan.{Plan}
use Rattle.mdr_core.specs.declared.program.Program.{Program}
use Rattle.mdr_exchanges.specs.Runs.{answers_of, run_over}
use Rattle.mdr_model.specs.Memory.{Memory}
use Rattle.mdr_outside.specs.declared.far.Exchange.{Exchange}
use Rattle.mdr_bound.specs.declared.bound.Bound.{Bound}
use Rattle.mdr_region.specs.Layout.{places_of}
use Rattle.mdr_split.specs.AnyAnswers.{kernel_in}
use Rattle.mdr_watched.specs.Driver.{Driver, driver_of}

-- its program and plan, whether it had no run, and what the run left: the memory, the count of messages, and the used places of the memory with their top
pub record HalfState : Type 0 where
  pub program : Program
  pub plan : Plan
  pub is_fresh : Bool
  pub memory : Memory
  pub messages : ℕ
  pub layout : ℕ × ℕ

-- the driver that it runs
abbrev pub driver_held : HalfState → Driver
driver_held h = driver_of h.program h.plan

-- what a run leaves: the memory as it is then and its layout, and the count of the messages sent and got
pub record IsLeft (d : Driver) (script : Bound) (budget : ℕ) (es : List Exchange) (h : HalfState) : Type 0 where
  pub cells : h.memory ≡ (kernel_in (run_over d script budget es).pending).world.memory
  pub laid : h.layout ≡ places_of (kernel_in (run_over d script budget es).pending).world.lives
  pub count : h.messages ≡ length es + length (answers_of es)
