-- believed
-- How code runs in a world, and how interrupts are taken.
use Rattle.std.specs.Prelude.{ℕ, zero, suc, true, false, Bool, List, [], Option, Some, None, Result, Ok, Err}
use Rattle.mdr_core.specs.declared.place.At.{At}
use Rattle.mdr_core.specs.declared.program.Program.{Program}
use Rattle.mdr_core.specs.declared.stop.StopKind.{StopKind}
use Rattle.mdr_core.specs.declared.stop.StopKind.TheVariants as stop
use Rattle.mdr_meaning.specs.declared.wire.Wire.{Wire}
use Rattle.mdr_meaning.specs.declared.wire.Wire.TheVariants as wire
use Rattle.mdr_meaning.specs.Bodies.{started}
use Rattle.mdr_meaning.specs.Cut.{cut}
use Rattle.mdr_meaning.specs.Sides.{Side}
use Rattle.mdr_meaning.specs.Tree.{Asked, Tree}
use Rattle.mdr_meaning.specs.Walk.{Accesses}
use Rattle.mdr_model.specs.declared.memory.Cell.{Cell}
use Rattle.mdr_model.specs.Memory.{normal}
use Rattle.mdr_plain.specs.declared.outcome.Happened.TheVariants as happened
use Rattle.mdr_plain.specs.Gate.{due}
use Rattle.mdr_plain.specs.Services.{served}
use Rattle.mdr_plain.specs.Storage.{accesses}
use Rattle.mdr_plain.specs.World.{World, Ran, Ended, Stopped, Work, advanced, after, done, then, given, noted, ticked}

-- what is tried before a tick, with so many functions active
abbrev pub Before : Type 0
Before = (depth : ℕ) → World → Work

abbrev pub nothing : Before
nothing depth w = done w

-- a call of a function of the other half, with so many functions active before it
abbrev pub Crossing : Type 0
Crossing = (at : At) (func : ℕ) (args : List Wire) (depth : ℕ) → World → Ran Wire

-- what stands around code: its accesses to memory, the services, the other half
pub record Setting : Type 0 where
  pub accesses : Accesses World
  pub serves : Asked → World → Ran (List Wire)
  pub crosses : Crossing

-- what a tree does: the one way in which code runs, of either half and in every mode
unfoldable pub run : Setting → Before → Tree → World → Ran Wire
run s before Tree.Idle w = Ended wire.NoValue w
run s before (Tree.Waits k) w = Ended wire.NoValue w
run s before (Tree.Done v t) w = Ended (normal w.memory v) w
run s before (Tree.Stop kind at) w = Stopped kind (Some at) w
run s before (Tree.Tick at d t) w = then (before d w) (λ w'. ticked (Some at) w' (λ w''. run s before t w''))
run s before (Tree.Load at p k) w = given (s.accesses.load w p) at w (λ v. run s before (k v) w)
run s before (Tree.Store at p v t) w = given (s.accesses.store w p v) at w (λ w'. run s before t w')
run s before (Tree.Read at p n k) w = given (s.accesses.read w p n) at w (λ bytes. run s before (k bytes) w)
run s before (Tree.Fresh at v k) w = given (s.accesses.fresh w v) at w (λ x. run s before (k x) w)
run s before (Tree.Birth at shapes k) w = run s before (k (s.accesses.birth w shapes).pointers) (s.accesses.birth w shapes).memory
run s before (Tree.Death at ps t) w = run s before t (s.accesses.death w ps)
run s before (Tree.Ask a k) w = after (s.serves a w) (λ results w'. run s before (k results) w')
run s before (Tree.Cross at f args d k) w = after (s.crosses at f args d w) (λ v w'. run s before (k v) w')

-- ---- up to the next call of the other half

-- code ended or stopped the run, or it calls the other half, with what follows the result
pub data Went : Type 0 where
  Gave : (ran : Ran Wire) → Went
  Calls : (at : At) (func : ℕ) (args : List Wire) (depth : ℕ) (next : Wire → Tree) (world : World) → Went

-- what an access or a service gives, what comes after work, and after a tick, as where code runs to its end
abbrev pub gave_given : {A : Type 0} → Result A StopKind → At → World → (A → Went) → Went
gave_given (Ok x) at w go = go x
gave_given (Err kind) at w go = Gave (Stopped kind (Some at) w)

abbrev pub gave_after : {A : Type 0} → Ran A → (A → World → Went) → Went
gave_after (Ended x w) go = go x w
gave_after (Stopped kind at w) go = Gave (Stopped kind at w)

abbrev pub gave_counted : (rest : ℕ) → At → World → (World → Went) → Went
gave_counted zero at w go = Gave (Stopped stop.Ticks (Some at) w)
gave_counted (suc n) at w go = go (record w { clock = advanced 1 w.clock })

-- what follows the result of the other half counts as far as the ticks that are left let it go
unfoldable pub goes : Accesses World → (Asked → World → Ran (List Wire)) → Before → Tree → World → Went
goes a serves before Tree.Idle w = Gave (Ended wire.NoValue w)
goes a serves before (Tree.Waits k) w = Gave (Ended wire.NoValue w)
goes a serves before (Tree.Done v t) w = Gave (Ended (normal w.memory v) w)
goes a serves before (Tree.Stop kind at) w = Gave (Stopped kind (Some at) w)
goes a serves before (Tree.Tick at d t) w = gave_after (before d w) (λ x w'. gave_counted w'.clock.rest at w' (λ w''. goes a serves before t w''))
goes a serves before (Tree.Load at p k) w = gave_given (a.load w p) at w (λ v. goes a serves before (k v) w)
goes a serves before (Tree.Store at p v t) w = gave_given (a.store w p v) at w (λ w'. goes a serves before t w')
goes a serves before (Tree.Read at p n k) w = gave_given (a.read w p n) at w (λ bytes. goes a serves before (k bytes) w)
goes a serves before (Tree.Fresh at v k) w = gave_given (a.fresh w v) at w (λ x. goes a serves before (k x) w)
goes a serves before (Tree.Birth at shapes k) w = goes a serves before (k (a.birth w shapes).pointers) (a.birth w shapes).memory
goes a serves before (Tree.Death at ps t) w = goes a serves before t (a.death w ps)
goes a serves before (Tree.Ask asked k) w = gave_after (serves asked w) (λ results w'. goes a serves before (k results) w')
goes a serves before (Tree.Cross at f args d k) w = Calls at f args d (λ v. cut w.clock.rest (k v)) w

-- ---- kernel code

-- code of the kernel half may touch each cell
abbrev pub all_cells : World → Cell → Bool
all_cells w c = true

abbrev pub in_kernel : Program → Crossing → Setting
in_kernel program crosses = record { accesses = accesses program all_cells; serves = served program; crosses = crosses }

-- code that interrupts are taken in: the driver's program, the bodies that are entered, and what stands around them
pub record KernelCode : Type 0 where
  pub program : Program
  pub side : Side
  pub setting : Setting

-- a function is called, with so many active before it
unfoldable pub call : KernelCode → Before → (func : ℕ) (args : List Wire) (depth : ℕ) → World → Ran Wire
call kernel before f args d w = run kernel.setting before (started kernel.side (suc w.clock.rest) f args d Tree.Idle) w

-- ---- interrupts

abbrev pub handling : Bool → World → World
handling now w = record w { kept = record w.kept { in_handler = now } }

abbrev pub interrupted : (handler : ℕ) → World → World
interrupted f w = handling true (noted (happened.Irq f) w)

-- a handler runs to its end, with nothing tried before its ticks. It is one more active function, and no call
abbrev pub handled : KernelCode → (depth : ℕ) → Option ℕ → World → Work
handled kernel d None w = done w
handled kernel d (Some f) w = after (call kernel nothing f [] d (interrupted f w)) (λ v w'. done (handling false w'))

-- the interrupt rule is tried: where an interrupt is due, its handler runs
unfoldable pub interrupts : KernelCode → Before
interrupts kernel d w = handled kernel d (due w) w
