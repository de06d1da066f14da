-- believed
-- The law: a split run with an honest far side is the watched run on one memory.
use Rattle.std.specs.Prelude.{◌≡◌, ℕ, ◌+◌, ◌*◌, ◌≤◌, true, not, List, [], ◌∷◌, ◌++◌, Some, Ok, slice_get, is_some}
use Rattle.std.specs.Option.{option_map}
use Rattle.mdr_access.specs.Keys.{IsPlan}
use Rattle.mdr_core.specs.declared.plan.Plan.{Plan}
use Rattle.mdr_core.specs.declared.program.Func.{Func}
use Rattle.mdr_core.specs.declared.program.Program.{Program}
use Rattle.mdr_core.specs.Backs.{CallsNothingBack}
use Rattle.mdr_core.specs.Sound.{IsSound}
use Rattle.mdr_core.specs.Typing.{function_type}
use Rattle.mdr_holds.specs.Laws.{IsScript}
use Rattle.mdr_meaning.specs.Fuel.{IsUserPart}
use Rattle.mdr_model.specs.declared.message.Message.{Message}
use Rattle.mdr_model.specs.declared.outcome.End.{End}
use Rattle.mdr_model.specs.KernelState.{Reading}
use Rattle.mdr_model.specs.Law.{IsOwn, read}
use Rattle.mdr_plain.specs.Outcome.{outcome_of}
use Rattle.mdr_plain.specs.Scripts.{finish}
use Rattle.mdr_bound.specs.declared.bound.Bound.{Bound}
use Rattle.mdr_slice.specs.declared.halves.Halves.{Halves}
use Rattle.mdr_slice.specs.Graph.{AreRoots}
use Rattle.mdr_slice.specs.Halves.{AreHalves}
use Rattle.mdr_split.specs.Kernel.{split_run}
use Rattle.mdr_split.specs.State.{Kernel, Over}
use Rattle.mdr_split.specs.User.{user_reply}
use Rattle.mdr_watched.specs.Driver.{Driver, driver_of, is_user}
use Rattle.mdr_watched.specs.Watched.{watched_of}

-- ---- what is asked of a driver

abbrev pub HaveBodies : Program → Type 0
HaveBodies program = (f : ℕ) (func : Func) → slice_get program.funcs f ≡ Some func → is_some func.body ≡ true

-- the plan of a program: its halves are those that its roots give
pub record IsPlanOf (program : Program) (plan : Plan) : Type 0 where
  pub roots : List ℕ
  pub are_roots : AreRoots program roots
  pub halves : Halves
  pub are_halves : AreHalves program roots halves
  pub is_plan : IsPlan program halves plan

-- ---- an honest far side

-- each answer is the user half's reply to the messages sent so far
abbrev pub IsHonest : Driver → (before sent answers : List Message) → Type 0
IsHonest d before sent [] = Unit {0}
IsHonest d before [] (a ∷ answers) = ⊥
IsHonest d before (m ∷ sent) (a ∷ answers) = (a ≡ user_reply d (read before) (Ok m)) × IsHonest d (before ++ m ∷ []) sent answers

-- ---- the law

-- a run that is over ends in the very state in which the watched run ends, so with its outcome; it refuses nothing, and has at most 8 messages for each tick and 6 for each command that called a function: each message sent was answered. Where nothing is called back 4 are enough for a tick
pub record IsWatched (d : Driver) (script : Bound) (budget : ℕ) (end : End) (k : Kernel) : Type 0 where
  pub world : k.world ≡ (watched_of d script budget).world
  pub outcome : outcome_of d.program (finish end k.world) ≡ outcome_of d.program (watched_of d script budget)
  pub own : IsOwn end
  pub messages : 2 * k.exchanges ≤ 8 * k.world.clock.ticks + 6 * k.world.kept.calls
  pub fewer : CallsNothingBack d.program → 2 * k.exchanges ≤ 4 * k.world.clock.ticks + 6 * k.world.kept.calls

-- whatever honest answers come, and there are some with which the run is over
pub record IsOneMemory (d : Driver) (script : Bound) (budget : ℕ) : Type 0 where
  pub same :
      (answers : List Message) (end : End) (k : Kernel)
      → IsHonest d [] (split_run d script budget (read answers)).sent answers
      → (split_run d script budget (read answers)).pending ≡ Over end k
      → IsWatched d script budget end k
  pub ends :
      (answers : List Message) × (end : End) × (k : Kernel)
      × IsHonest d [] (split_run d script budget (read answers)).sent answers
      × ((split_run d script budget (read answers)).pending ≡ Over end k)

-- the law for every sound program in which each function has a body, with its plan, every script whose commands fit it and every budget
abbrev pub SplitIsOneMemory : Type 0
SplitIsOneMemory =
    (program : Program) (plan : Plan) (script : Bound) (budget : ℕ) → IsSound program → HaveBodies program → IsPlanOf program plan → IsScript program script
    → IsOneMemory (driver_of program plan) script budget

-- ---- what the user half knows

-- a program that has the user half's bodies and all headings, as the user half's text has them: what bodies it has for the other functions, if any, is no matter
pub record IsUserText (plan : Plan) (program text : Program) : Type 0 where
  pub part : IsUserPart (λ f. not (is_user plan f)) program text
  pub heads : (f : ℕ) → option_map function_type (slice_get text.funcs f) ≡ option_map function_type (slice_get program.funcs f)

-- the user half's reply is the same with its own text alone
abbrev pub RepliesNeedTheUserText : Type 0
RepliesNeedTheUserText =
    (program text : Program) (plan : Plan) → IsUserText plan program text → (before : List Reading) (last : Reading)
    → user_reply (driver_of text plan) before last ≡ user_reply (driver_of program plan) before last
