-- protocol
-- What stays while statements of integers are done.
use Rattle.std.specs.Prelude.{◌≡◌}
use Rattle.mdr_core.specs.declared.program.Program.{Program}
use Rattle.mdr_meaning.specs.Bodies.{known_of}
use Rattle.mdr_meaning.specs.Sides.{Side}
use Rattle.mdr_meaning.specs.Walk.{Accesses}
use Rattle.mdr_events.specs.Running.{RunsTo}
use Rattle.mdr_events.specs.Steps.{Goes, Ticks}
use Rattle.mdr_exec.specs.declared.frame.Machine.{Machine}
use Rattle.mdr_exec.specs.Holding.{block_of, held_of}
use Rattle.std.specs.Prelude.{ℕ}

-- nothing comes before the statements that follow, if nothing did, on the same side
pub record IsAsBefore (m m' : Machine) : Type 0 where
  pub front : m'.front ≡ m.front
  pub side : m'.side ≡ m.side

-- and the machine is in the same list of statements
pub record IsInList (program : Program) (m m' : Machine) : Type 0 where
  pub as_before : IsAsBefore m m'
  pub block : block_of program m'.top ≡ block_of program m.top

module _ {M : Type 0} (a : Accesses M) (program : Program) (m : Machine) (memory : M) where
  -- a statement was done
  abbrev pub TakesTick : Machine → M → Type 0
  TakesTick m' memory' = (side : Side) → side.known ≡ known_of program → Ticks a side (held_of program m) memory Goes (held_of program m') memory'

  -- several were, and so many ticks are left
  abbrev pub RunsOn : (ticks : ℕ) → Machine → M → (left : ℕ) → Type 0
  RunsOn ticks m' memory' left = (side : Side) → side.known ≡ known_of program → RunsTo a side (held_of program m) memory ticks Goes (held_of program m') memory' left
