-- protocol
-- Steps of held work: what a walk of its tree comes to, and the work that is held then.
use Rattle.std.specs.Prelude.{◌≡◌, ℕ, suc, ◌≤◌, List, [], ◌∷◌, Result, Ok, Err}
use Rattle.mdr_core.specs.declared.stop.StopKind.{StopKind}
use Rattle.mdr_core.specs.declared.place.At.{At}
use Rattle.mdr_core.specs.Code.{Codes}
use Rattle.mdr_meaning.specs.declared.wire.Wire.{Wire}
use Rattle.mdr_meaning.specs.Sides.{Side, Here, Locals, Flow, Ends}
use Rattle.mdr_meaning.specs.Tree.{Asked, Tree}
use Rattle.mdr_meaning.specs.Walk.{Reached, Accesses, Walked, walked, walk}
use Rattle.mdr_events.specs.Held.{Front, Runs, Unwinds, Item, Held, tree}
use Rattle.mdr_events.specs.Ready.{IsOpen, IsReady, takes_answers, takes_value}

-- ---- work that is held

abbrev pub holds : Front → Here → Locals → Codes → List Item → Held
holds front here l ahead items = record { frame = record { here = here; locals = l; ahead = ahead }; front = front; items = items }

-- a statement that ended so is followed by the next one, or its block is left
abbrev pub front_after : Flow → Front
front_after Ends = Runs
front_after flow = Unwinds flow

-- how a statement ends, and the locals then
pub record Left : Type 0 where
  pub flow : Flow
  pub locals : Locals

abbrev pub holds_after : Left → Here → Codes → List Item → Held
holds_after left here ahead items = holds (front_after left.flow) here left.locals ahead items

-- ---- what a step comes to

pub data Came : Type 0 where
  -- the next step
  Goes : Came
  -- the function that was started last ended, and the work that it was started over is held
  Ended : (value : Wire) → Came
  Stopped : (kind : StopKind) (at : At) → Came
  Asks : (asked : Asked) → Came
  Crosses : (at : At) (func : ℕ) (args : List Wire) (depth : ℕ) → Came

-- what follows the answers of a question that is open
abbrev pub child : Tree → List Wire → Tree
child (Tree.Waits k) vs = k vs
child t vs = Tree.Idle

-- what a walk gives that came to this, with n ticks left and r in the tree
abbrev pub after : {M : Type 0} → Accesses M → Side → (fuel : ℕ) → Came → Held → M → (n r : ℕ) → Walked M
after a side f Goes h m n r = walk a n (tree side f h r) m
after a side f (Ended v) h m n r = walked (Reached.Ended v (tree side f h r)) m n
after a side f (Stopped kind at) h m n r = walked (Reached.Stopped kind at) m n
after a side f (Asks asked) h m n r = walked (Reached.Asks asked (child (tree side f h r))) m n
after a side f (Crosses at func args depth) h m n r = walked (Reached.Crosses at func args depth (λ v. child (tree side f h r) (v ∷ []))) m n

-- what it leaves: work that goes on, or that waits for the answers. Nothing goes on behind a stop, and behind an end what was there before the start does
abbrev pub Leaves : Came → Held → Type 0
Leaves Goes h = IsReady h
Leaves (Ended v) h = Unit {0}
Leaves (Stopped kind at) h = Unit {0}
Leaves (Asks asked) h = IsOpen (takes_answers asked) h
Leaves (Crosses at func args depth) h = IsOpen takes_value h

-- a result that goes on, or stops
abbrev pub came_by : {A : Type 0} → At → Result A StopKind → Came
came_by at (Ok x) = Goes
came_by at (Err kind) = Stopped kind at

-- the work that is held behind a statement that ended or stopped
abbrev pub held_after : Result Left StopKind → Here → Codes → List Item → Held
held_after (Ok left) here more items = holds_after left here more items
held_after (Err kind) here more items = holds Runs here (record { slots = []; born = [] }) more items

-- ---- steps, for every number of ticks, and every fuel that goes as far

-- two kinds of held work stand for one tree, and the second is ready where the first is
pub record IsSame (side : Side) (h h' : Held) : Type 0 where
  pub by : (f r : ℕ) → tree side f h r ≡ tree side f h' r
  pub ready : IsReady h → IsReady h'

-- a step that takes no tick
pub record Steps {M : Type 0} (a : Accesses M) (side : Side) (h : Held) (m : M) (came : Came) (h' : Held) (m' : M) : Type 0 where
  pub by : (f n r : ℕ) → r ≤ f → walk a n (tree side f h r) m ≡ after a side f came h' m' n r
  pub leaves : IsReady h → Leaves came h'

-- one that takes a tick
pub record Ticks {M : Type 0} (a : Accesses M) (side : Side) (h : Held) (m : M) (came : Came) (h' : Held) (m' : M) : Type 0 where
  pub by : (f n r : ℕ) → suc r ≤ f → walk a (suc n) (tree side f h (suc r)) m ≡ after a side f came h' m' n r
  pub leaves : IsReady h → Leaves came h'
