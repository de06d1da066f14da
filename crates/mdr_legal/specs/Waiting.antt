-- protocol
-- Where the kernel half waits, as far as an answer is judged by it.
use Rattle.std.specs.Prelude.{◌≡◌, ℕ, zero, suc, false, List, [], ◌∷◌, length, Option, None, slice_get}
use Rattle.mdr_core.specs.declared.refusal.RefuseKind.TheVariants as refusal
use Rattle.mdr_core.specs.Services.{service_numbered}
use Rattle.mdr_device.specs.Machines.{made}
use Rattle.mdr_legal.specs.declared.standing.Standing.{Standing}
use Rattle.mdr_model.specs.declared.memory.Cell.{Cell}
use Rattle.mdr_meaning.specs.Tree.{Asked}
use Rattle.mdr_model.specs.declared.message.Fault.{Fault}
use Rattle.mdr_model.specs.declared.message.Run.{Run}
use Rattle.mdr_model.specs.declared.reply.Down.{Down}
use Rattle.mdr_model.specs.declared.reply.Reply.{Reply}
use Rattle.mdr_model.specs.Faults.{first_fault, unless}
use Rattle.mdr_model.specs.Memory.{Memory}
use Rattle.mdr_split.specs.Fits.{fits}
use Rattle.mdr_split.specs.Legal.{args_fault, fault_of, has_down_stub, kernel_places, params_of, reply_runs_fault, service_fault, terms_fault}
use Rattle.mdr_split.specs.Services.{Terms}
use Rattle.mdr_split.specs.State.{Kernel, Noted, Open}
use Rattle.mdr_watched.specs.Driver.{Driver, driver_of}
use Rattle.mdr_watched.specs.Views.{top}

-- the kernel half is in this state, and this upcall is open
pub record IsWhere (s : Standing) (k : Kernel) (upcall : Open) : Type 0 where
  pub memory : k.world.memory ≡ s.memory.now
  pub agreed : k.agreed ≡ s.agreed.now
  pub view : top k.world.views ≡ s.view.now
  pub exchanges : k.exchanges ≡ s.exchanges
  pub ticks : k.world.clock.ticks ≡ s.ticks
  pub rest : k.world.clock.rest ≡ s.rest
  pub calls : k.world.kept.calls ≡ s.calls
  pub below : length k.world.views ≡ suc s.below
  pub func : upcall.func ≡ s.func
  pub depth : upcall.depth ≡ s.depth
  pub entered : upcall.entered ≡ s.entered.now

-- ---- a state with no more in it than an answer is judged by

-- so many sets, of which no answer is judged by any cell
abbrev pub sets_below : ℕ → List (List Cell)
sets_below zero = []
sets_below (suc n) = [] ∷ sets_below n

abbrev pub kernel_with : (memory agreed : Memory) → (view : List Cell) → (below exchanges ticks rest calls : ℕ) → Kernel
kernel_with memory agreed view below exchanges ticks rest calls = record {
  world = record {
    memory = memory;
    lives = [];
    views = view ∷ sets_below below;
    clock = record { ticks = ticks; rest = rest; device = made [] [] };
    kept = record { events = []; calls = calls; handler = None; in_handler = false; allocations = 0; fails = [] };
  };
  agreed = agreed;
  exchanges = exchanges;
}

abbrev pub driver_at : Standing → Driver
driver_at s = driver_of s.program.now s.plan.now

abbrev pub kernel_at : Standing → Kernel
kernel_at s = kernel_with s.memory.now s.agreed.now s.view.now s.below s.exchanges s.ticks s.rest s.calls

abbrev pub open_at : Standing → Open
open_at s = record { func = s.func; depth = s.depth; entered = s.entered.now }

-- ---- what an answer is judged by in it

abbrev pub fault_at : Standing → Reply → Option Fault
fault_at s reply = fault_of (driver_at s) (kernel_at s) (open_at s) Noted reply

abbrev pub runs_fault_at : Standing → List Run → Option Fault
runs_fault_at s runs = reply_runs_fault (driver_at s) (kernel_at s) runs

-- the fault of a downcall behind its depth
abbrev pub stub_fault_at : Standing → Down → Option Fault
stub_fault_at s down =
    first_fault (
    unless (has_down_stub (driver_at s) down.func) refusal.NoStub 0
    ∷ args_fault (fits (kernel_places (driver_at s) (kernel_at s))) 0 (params_of (slice_get s.program.now.funcs down.func)) down.args
    ∷ runs_fault_at s down.runs
    ∷ [])

-- the fault of a question with these terms
abbrev pub terms_fault_at : Standing → (service : ℕ) → Terms → Asked → Option Fault
terms_fault_at s service terms asked = terms_fault (driver_at s) (kernel_at s) (open_at s) (service_numbered service) terms asked

abbrev pub service_fault_at : Standing → Asked → Option Fault
service_fault_at s asked = service_fault (driver_at s) (kernel_at s) (open_at s) asked
