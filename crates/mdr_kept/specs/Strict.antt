-- for proofs
-- A followed run that also ends where the halves could be told from one piece of code.
use Rattle.std.specs.Prelude.{ℕ, zero, suc, Bool, true, false, not, ◌||◌, List, [], ◌∷◌, map, Option, Some, None}
use Rattle.mdr_core.specs.declared.place.At.{At}
use Rattle.mdr_core.specs.declared.stop.StopKind.TheVariants as stop
use Rattle.mdr_core.specs.Layout.{chosen}
use Rattle.mdr_extents.specs.Reaching.{visible}
use Rattle.mdr_meaning.specs.declared.wire.Wire.{Wire}
use Rattle.mdr_meaning.specs.declared.wire.Wire.TheVariants as wire
use Rattle.mdr_meaning.specs.Bodies.{started}
use Rattle.mdr_meaning.specs.Tree.{Asked, Tree}
use Rattle.mdr_meaning.specs.Values.{wire_of}
use Rattle.mdr_model.specs.declared.command.Command.{Command}
use Rattle.mdr_model.specs.declared.command.Command.TheVariants as command
use Rattle.mdr_model.specs.declared.memory.Cell.{Cell}
use Rattle.mdr_model.specs.Memory.{Memory, is_live, normal}
use Rattle.mdr_plain.specs.Atomic.{is_atomic}
use Rattle.mdr_plain.specs.Gate.{are_none, due}
use Rattle.mdr_plain.specs.Running.{Before, Crossing, Setting, handling, in_kernel, interrupted, nothing}
use Rattle.mdr_plain.specs.declared.outcome.Happened.TheVariants as happened
use Rattle.mdr_plain.specs.Scripts.{Finish, begun, commands, first_world, idled, poked, returned, showed}
use Rattle.mdr_plain.specs.Services.{served}
use Rattle.mdr_plain.specs.Storage.{accesses, next_serial}
use Rattle.mdr_plain.specs.World.{World, Ran, Ended, Stopped, Work, after, done, given, noted, then, ticked}
use Rattle.mdr_bound.specs.declared.bound.Bound.{Bound}
use Rattle.mdr_watched.specs.Driver.{Driver, entry_roots, is_user, touched_by}
use Rattle.mdr_watched.specs.Kept.{due_plainly, free, meets_user, unless_due}
use Rattle.mdr_watched.specs.Views.{gained, may_touch, opened, taken}
use Rattle.mdr_watched.specs.Watched.{closing, may_not, returns_to}

-- work, unless a test holds: then the run ends, at this place if any
abbrev pub unless : {A : Type 0} → Bool → Option At → World → Ran A → Ran A
unless true at w work = Stopped stop.Annotation at w
unless false at w work = work

-- ---- what is passed is alive

-- a pointer whose block has died. The token of a dead pointer is none
abbrev pub is_gone : Memory → Wire → Bool
is_gone m (wire.Ptr p) = not (is_live m p.serial)
is_gone m _ = false

abbrev pub is_any_gone : Memory → List Wire → Bool
is_any_gone m [] = false
is_any_gone m (v ∷ vs) = is_gone m v || is_any_gone m vs

abbrev pub now : World → List Wire → List Wire
now w args = map (normal w.memory) args

-- how code runs (`run`), but the run ends where a function gives a pointer to a block that has died
unfoldable pub run_alive : Setting → Before → Tree → World → Ran Wire
run_alive s before Tree.Idle w = Ended wire.NoValue w
run_alive s before (Tree.Waits k) w = Ended wire.NoValue w
run_alive s before (Tree.Done v t) w = unless (is_gone w.memory v) None w (Ended v w)
run_alive s before (Tree.Stop kind at) w = Stopped kind (Some at) w
run_alive s before (Tree.Tick at d t) w = then (before d w) (λ w'. ticked (Some at) w' (λ w''. run_alive s before t w''))
run_alive s before (Tree.Load at p k) w = given (s.accesses.load w p) at w (λ v. run_alive s before (k v) w)
run_alive s before (Tree.Store at p v t) w = given (s.accesses.store w p v) at w (λ w'. run_alive s before t w')
run_alive s before (Tree.Read at p n k) w = given (s.accesses.read w p n) at w (λ bytes. run_alive s before (k bytes) w)
run_alive s before (Tree.Fresh at v k) w = given (s.accesses.fresh w v) at w (λ x. run_alive s before (k x) w)
run_alive s before (Tree.Birth at shapes k) w = run_alive s before (k (s.accesses.birth w shapes).pointers) (s.accesses.birth w shapes).memory
run_alive s before (Tree.Death at ps t) w = run_alive s before t (s.accesses.death w ps)
run_alive s before (Tree.Ask a k) w = after (s.serves a w) (λ results w'. run_alive s before (k results) w')
run_alive s before (Tree.Cross at f args d k) w = after (s.crosses at f args d w) (λ v w'. run_alive s before (k v) w')

-- ---- kernel code

module _ (d : Driver) where
  -- a function of the kernel half, which calls functions of the user half so
  abbrev pub call_alive : Crossing → Before → (func : ℕ) (args : List Wire) (depth : ℕ) → World → Ran Wire
  call_alive crosses before f args depth w = run_alive (in_kernel d.program crosses) before (started d.kernel (suc w.clock.rest) f args depth Tree.Idle) w

  -- handlers may call none
  abbrev pub handled_alive : (depth : ℕ) → Option ℕ → World → Work
  handled_alive depth None w = done w
  handled_alive depth (Some f) w = after (call_alive may_not nothing f [] depth (interrupted f w)) (λ v w'. done (handling false w'))

  -- interrupts come by the plain rule, and one that meets user code ends the run
  abbrev pub tries : Before
  tries depth w = chosen (are_none w.views) (handled_alive depth (due w) w) (unless_due (due_plainly w) w)

-- ---- user code passes nothing dead down

module _ (d : Driver) (t : ℕ) where
  abbrev pub asks : Asked → World → Ran (List Wire)
  asks asked w =
      unless (is_any_gone w.memory asked.args) (Some asked.at) w
      (after (served d.program asked w) (λ results w'. Ended results (gained d.program (touched_by d.plan t) (next_serial w) w')))

  abbrev pub goes_down : (crosses : Crossing) → At → (func : ℕ) (args : List Wire) (depth : ℕ) → World → Ran Wire
  goes_down crosses at f args depth w =
      unless (is_any_gone w.memory args) (Some at) w
      (after (call_alive d crosses (tries d) f (now w args) depth w) (λ v w'. returns_to d (free d) t at f (now w args) v w'))

  abbrev pub in_user : (crosses : Crossing) → Setting
  in_user crosses = record { accesses = accesses d.program may_touch; serves = asks; crosses = goes_down crosses }

-- where code of the kernel half calls back so
module _ (d : Driver) (crosses : Crossing) where
  abbrev pub entered : (func : ℕ) (args : List Wire) (depth : ℕ) → List Cell → World → Ran Wire
  entered f args depth set w = closing (run_alive (in_user d f crosses) meets_user (started d.user (suc w.clock.rest) f args depth Tree.Idle) (opened set w))

  abbrev pub upcall : (func : ℕ) (args : List Wire) (depth : ℕ) → World → Ran Wire
  upcall f args depth w = taken (visible d.program (touched_by d.plan f) w.memory [] (entry_roots d.program f args)) (record { func = f; stmt = 0 }) w (λ set. entered f args depth set w)

-- ---- kernel code passes nothing dead up

-- it calls back (`calls_back`), where it may wait, with room for so many within one another
unfoldable pub goes_up : Driver → (room : ℕ) → Crossing
goes_up d zero at f args depth w = Stopped stop.Depth (Some at) w
goes_up d (suc room) at f args depth w =
    chosen (is_atomic w) (Stopped stop.Atomic (Some at) w)
    (unless (is_any_gone w.memory args) (Some at) w (upcall d (goes_up d room) f (now w args) depth w))

-- ---- commands

module _ (d : Driver) where
  abbrev pub ups : Crossing
  ups = goes_up d 256

  abbrev pub called : (is_user : Bool) (func : ℕ) (args : List Wire) → World → Ran Wire
  called true f args w = upcall d ups f args 0 w
  called false f args w = call_alive d ups (tries d) f args 0 w

  abbrev pub does : Command → World → Work
  does (command.Call f args) w = returned (tries d) (called (is_user d.plan f) f (map wire_of args) (begun d.program f args w))
  does (command.Idle n) w = idled (tries d) n w
  does (command.Show g) w = done (showed d.program g w)
  does (command.Poke serial index n) w = done (poked serial index n w)
  does (command.Say text) w = done (noted (happened.Say text) w)

-- the followed run (`followed_of`), which ends too where a pointer to a block that has died is passed: by user code to kernel code or with a question, by kernel code to user code, and where a function gives one
unfoldable pub strict_of : Driver → Bound → (budget : ℕ) → Finish
strict_of d script budget = commands (does d) script.commands (first_world d.kernel.known script budget)
