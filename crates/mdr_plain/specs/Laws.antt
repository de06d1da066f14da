-- protocol
-- What holds of every run's parts.
use Rattle.std.specs.Prelude.{◌≡◌, ◌↔◌, ◌<◌, ◌≤◌, ℕ, true, List, [], ◌∷◌, ◌++◌, length, Some}
use Rattle.mdr_core.specs.declared.program.Program.{Program}
use Rattle.mdr_meaning.specs.declared.wire.Wire.{Wire}
use Rattle.mdr_meaning.specs.declared.wire.Wire.TheVariants as wire
use Rattle.mdr_meaning.specs.Bodies.{started}
use Rattle.mdr_meaning.specs.Sides.{Side}
use Rattle.mdr_meaning.specs.Tree.{Tree}
use Rattle.mdr_meaning.specs.Walk.{Reached, Walked, walk}
use Rattle.mdr_meaning.specs.declared.wire.WireView.{WireView}
use Rattle.mdr_model.specs.declared.memory.Cell.{Cell}
use Rattle.mdr_model.specs.Memory.{Memory, cell_at, is_live, normal}
use Rattle.mdr_bound.specs.declared.bound.Bound.{Bound}
use Rattle.mdr_plain.specs.Gate.{Gate, due}
use Rattle.mdr_plain.specs.Outcome.{first_serials, met_in, shown_blocks}
use Rattle.mdr_plain.specs.Plain.{never, plain_of, whole}
use Rattle.mdr_plain.specs.Scripts.{block_cells}
use Rattle.mdr_plain.specs.Running.{Before, Setting, in_kernel, interrupts, run}
use Rattle.mdr_plain.specs.World.{World, Ran, Ended, Stopped, after, left, then, ticked}

-- an interrupt is due exactly where the gate is open
abbrev pub InterruptsAreGated : Type 0
InterruptsAreGated = (w : World) (handler : ℕ) → (due w ≡ Some handler) ↔ Gate w handler

-- what follows an event that a walk without ticks reaches
abbrev pub follows : Setting → Before → Reached → World → Ran Wire
follows s before Reached.Idles w = Ended wire.NoValue w
follows s before (Reached.Opens k) w = Ended wire.NoValue w
follows s before (Reached.Ended v t) w = Ended (normal w.memory v) w
follows s before (Reached.Stopped kind at) w = Stopped kind (Some at) w
follows s before (Reached.Needs at d t) w = then (before d w) (λ w'. ticked (Some at) w' (λ w''. run s before t w''))
follows s before (Reached.Asks a k) w = after (s.serves a w) (λ results w'. run s before (k results) w')
follows s before (Reached.Crosses at f args d k) w = after (s.crosses at f args d w) (λ v w'. run s before (k v) w')

abbrev pub follows_walk : Setting → Before → Walked World → Ran Wire
follows_walk s before walked = follows s before walked.reached walked.memory

-- what code does is its walk to the next event, and what follows that
abbrev pub RunsAreWalks : Type 0
RunsAreWalks = (s : Setting) (before : Before) (t : Tree) (w : World) → run s before t w ≡ follows_walk s before (walk s.accesses 0 t w)

-- in a plain run there is no visible set at any end, so no interrupt ever waits for a function of the user half
abbrev pub PlainRunsAreAlone : Type 0
PlainRunsAreAlone = (program : Program) (side : Side) (script : Bound) (budget : ℕ) → (plain_of program side script budget).world.views ≡ []

-- what is tried before a tick gives no tick back
abbrev pub GivesNoTicks : Before → Type 0
GivesNoTicks before = (d : ℕ) (w : World) → (left (before d w)).clock.rest ≤ w.clock.rest

-- a called function's tree with any fuel above the ticks that are left runs alike; and interrupts give no ticks back
pub record RunsNeedTicksAlone : Type 0 where
  pub runs : (program : Program) (before : Before) → GivesNoTicks before
      → (side : Side) (n m func : ℕ) (args : List Wire) (depth : ℕ) (below : Tree) (w : World) → w.clock.rest < n → w.clock.rest < m
      → run (in_kernel program never) before (started side n func args depth below) w ≡ run (in_kernel program never) before (started side m func args depth below) w
  pub interrupted : (program : Program) (side : Side) → GivesNoTicks (interrupts (whole program side))

-- ---- objects

-- the blocks that were met, and behind them those that the cells of objects name, each where it is met first
abbrev pub met_by : Memory → List ℕ → (objects : List ℕ) → List ℕ
met_by m met [] = met
met_by m met (n ∷ ns) = met_by m (met_in met (block_cells m n)) ns

-- the list is the globals, and behind them the blocks that the cells of its own objects name, in their order
abbrev pub NamesItself : Program → Memory → List ℕ → Type 0
NamesItself program m objects = objects ≡ met_by m (first_serials (length program.globals)) objects

-- where the globals live and no cell names a dead block, the objects that are shown are the least list that names itself
pub record ObjectsAreLeast : Type 0 where
  pub closed : (program : Program) (m : Memory)
      → ((g : ℕ) → g < length program.globals → is_live m g ≡ true)
      → ((c : Cell) (p : WireView) → cell_at m c ≡ Some (wire.Ptr p) → is_live m p.serial ≡ true)
      → NamesItself program m (shown_blocks program m)
  -- each such list begins with them
  pub least : (program : Program) (m : Memory) (others : List ℕ) → NamesItself program m others → (rest : List ℕ) × (others ≡ shown_blocks program m ++ rest)
