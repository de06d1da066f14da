-- protocol
-- What the states of the code mean.
use Rattle.std.specs.Prelude.{◌≡◌, ◌≤◌, ℕ, suc, List, [], ◌∷◌, length}
use Rattle.mdr_core.specs.declared.program.Program.{Program}
use Rattle.mdr_events.specs.Values.{wires_of}
use Rattle.mdr_meaning.specs.declared.wire.Wire.{Wire}
use Rattle.mdr_meaning.specs.Tree.{Tree}
use Rattle.mdr_model.specs.declared.message.Message.{Message}
use Rattle.mdr_model.specs.declared.message.Message.TheVariants as message
use Rattle.mdr_model.specs.declared.message.Told.{Told}
use Rattle.mdr_model.specs.Copies.{agreed_after, put_runs, tells}
use Rattle.mdr_model.specs.declared.message.Run.{Run}
use Rattle.mdr_model.specs.Legal.{IsContained}
use Rattle.mdr_plain.specs.World.{World}
use Rattle.mdr_slice.specs.Calls.{names_of}
use Rattle.mdr_split.specs.State.{Kernel, Open, Base, Commanded, Down, Rest, Noted, Resumes}
use Rattle.mdr_turns.specs.declared.state.Active.{Active}
use Rattle.mdr_turns.specs.declared.state.Base.{Base as CodeBase}
use Rattle.mdr_turns.specs.declared.state.Base.TheVariants as began
use Rattle.mdr_turns.specs.declared.state.Behind.{Behind}
use Rattle.mdr_turns.specs.declared.state.Between.{Between}
use Rattle.mdr_turns.specs.declared.state.Callee.{Callee}
use Rattle.mdr_turns.specs.declared.state.Frame.{Frame}
use Rattle.mdr_turns.specs.declared.state.Innermost.{Innermost}
use Rattle.mdr_turns.specs.declared.state.Innermost.TheVariants as innermost
use Rattle.mdr_turns.specs.declared.state.Ledger.{Ledger}
use Rattle.mdr_turns.specs.declared.state.Open.{Open as CodeOpen}
use Rattle.mdr_turns.specs.declared.state.Seen.{Seen}
use Rattle.mdr_turns.specs.declared.state.Wait.{Wait}
use Rattle.mdr_turns.specs.declared.state.Waiting.{Waiting}
use Rattle.mdr_turns.specs.declared.state.Within.{Within}
use Rattle.mdr_watch.specs.declared.watch.Watch.{Watch}
use Rattle.mdr_watched.specs.Driver.{Driver}
use Rattle.mdr_watched.specs.Views.{top}
use Rattle.mdr_whole.specs.Pausing.{IsPaused, awaited}

-- ---- meanings

-- a state of the run, with what is kept beside it
abbrev pub kernel_with : Ledger → World → Kernel
kernel_with l w = record { world = w; agreed = l.agreed; exchanges = l.exchanges }

-- the kernel half while no function of the user half is active, while one is, and while it waits
abbrev pub kernel_at : Between → Kernel
kernel_at b = kernel_with b.ledger b.world.world

abbrev pub kernel_in : Active → Kernel
kernel_in a = kernel_with a.ledger a.guarded.world

abbrev pub kernel_of : Waiting → Kernel
kernel_of w = kernel_with w.ledger w.seen.guarded.world

abbrev pub upcall_of : CodeOpen → Open
upcall_of o = record { func = o.func; depth = o.depth; entered = o.entered }

abbrev pub open_of : Waiting → Open
open_of w = upcall_of w.open

-- where code of the kernel half began, before what follows the upcall below
abbrev pub base_of : CodeBase → Rest → Base
base_of began.Commanded rest = Commanded
base_of (began.Down c o) rest = Down c.at c.func (wires_of c.args) (upcall_of o) rest

-- what follows the result for which code waits
abbrev pub next_of : Driver → Wait → Wire → Tree
next_of d x v = awaited d.program d.kernel x.paused x.rest v

-- what follows the return of an upcall, where this code waits, the innermost first
abbrev pub rest_of : Driver → List Frame → Rest
rest_of d [] = Noted
rest_of d (x ∷ below) = Resumes (next_of d x.wait) (base_of x.base (rest_of d below))

-- how many commands of the script have begun
abbrev pub begun_of : Waiting → ℕ
begun_of w = w.behind.done

-- ---- what holds of them

-- what is seen is that of the state
pub record IsSeen (s : Seen) : Type 0 where
  pub memory : s.memory ≡ s.guarded.world.memory
  pub view : s.view ≡ top s.guarded.world.views
  pub ticks : s.tally.ticks ≡ s.guarded.world.clock.ticks
  pub rest : s.tally.rest ≡ s.guarded.world.clock.rest
  pub calls : s.tally.calls ≡ s.guarded.world.kept.calls
  pub below : suc s.tally.below ≡ length s.guarded.world.views

-- each machine waits for what the user half gives
abbrev pub ArePaused : Program → List Frame → Type 0
ArePaused program [] = Unit {0}
ArePaused program (x ∷ below) = IsPaused program x.wait.paused × ArePaused program below

-- how many upcalls are open below the innermost: none below one in which code waits that a command called
abbrev pub more_below : CodeBase → ℕ → ℕ
more_below began.Commanded n = 0
more_below (began.Down c o) n = suc n

abbrev pub upcalls_below : List Frame → ℕ
upcalls_below [] = 0
upcalls_below (x ∷ below) = more_below x.base (upcalls_below below)

-- no more ticks are left than when each called back
abbrev pub AreSpent : (rest : ℕ) → List Frame → Type 0
AreSpent rest [] = Unit {0}
AreSpent rest (x ∷ below) = (rest ≤ x.wait.rest) × AreSpent rest below

-- in this world code waits so behind the innermost upcall, and each upcall has its set
pub record IsBehind (program : Program) (w : World) (b : Behind) : Type 0 where
  pub paused : ArePaused program b.frames
  pub sets : length w.views ≡ suc (upcalls_below b.frames)
  pub spent : AreSpent w.clock.rest b.frames

-- the kernel half waits in the run of this driver
pub record StandsFor (watch : Watch) (w : Waiting) : Type 0 where
  pub same : w.seen.guarded.program ≡ watch.program.now
  pub passes : w.ledger.passes ≡ names_of watch.program.now
  pub seen : IsSeen w.seen
  pub behind : IsBehind watch.program.now w.seen.guarded.world w.behind

-- it stands so between two upcalls
pub record IsBetween (watch : Watch) (b : Between) : Type 0 where
  pub same : b.world.program ≡ watch.program.now
  pub passes : b.ledger.passes ≡ names_of watch.program.now
  pub alone : b.world.world.views ≡ []

-- and in one
pub record IsActive (watch : Watch) (a : Active) : Type 0 where
  pub same : a.guarded.program ≡ watch.program.now
  pub passes : a.ledger.passes ≡ names_of watch.program.now
  pub behind : IsBehind watch.program.now a.guarded.world a.behind

-- its own code is at work in one
pub record IsWithin (watch : Watch) (x : Within) : Type 0 where
  pub same : x.guarded.program ≡ watch.program.now
  pub passes : x.ledger.passes ≡ names_of watch.program.now

-- ---- what changes

-- from one state to the other memory changes in cells alone that user code may touch, and in no lock; no block is born, dies or becomes another
abbrev pub ChangesVisible : Driver → (before after : Kernel) → Type 0
ChangesVisible d before after = IsContained d.program before.world.memory after.world.memory (top before.world.views)

-- ---- what is kept

-- what a message with these values tells of what is seen, and what it tells without the cells that user code may touch
abbrev pub told_by : Program → Seen → (values : List Wire) → Ledger → Told
told_by program s values l = tells program s.view values l.agreed s.memory

abbrev pub told_unseen : Program → Seen → (values : List Wire) → Ledger → Told
told_unseen program s values l = tells program [] values l.agreed s.memory

-- the message of an upcall, and those with the result of a downcall and with the results of a service
abbrev pub call_of : Program → Callee → Seen → Ledger → Message
call_of program c s l =
    let args : List Wire = wires_of c.args.now in
    message.Call (record { func = c.func; depth = c.depth; rest = s.tally.rest; args = args; told = told_by program s args l })

abbrev pub back_of : Program → Wire → Seen → Ledger → Message
back_of program v s l = message.Back (record { rest = s.tally.rest; result = v; told = told_by program s (v ∷ []) l })

abbrev pub answer_of : Program → (results : List Wire) → Seen → Ledger → Message
answer_of program results s l =
    let told : Told = told_unseen program s results l in
    message.Answer (record { results = results; deaths = told.deaths; news = told.news })

-- an upcall begins, in which no object was born
abbrev pub begins : (func depth : ℕ) → Open
begins func depth = record { func = func; depth = depth; entered = [] }

-- the innermost code that waits, if any does, and what follows the upcall below it, where so many commands have begun
abbrev pub innermost_of : List Frame → (begun : ℕ) → Innermost
innermost_of [] n = innermost.Nothing n
innermost_of (x ∷ below) n = innermost.Over x (record { frames = below; done = n })

-- code of the kernel half waits over the code that waited so far
abbrev pub waits_over : Frame → Behind → Behind
waits_over x b = record { frames = x ∷ b.frames; done = b.done }

-- a message was sent that told this
abbrev pub sent_with : Program → Told → Ledger → Ledger
sent_with program told l = record { agreed = agreed_after program told l.agreed; exchanges = suc l.exchanges; passes = l.passes }

-- runs were stored in the agreed copy
abbrev pub agreed_with : List Run → Ledger → Ledger
agreed_with runs l = record { agreed = put_runs runs l.agreed; exchanges = l.exchanges; passes = l.passes }
