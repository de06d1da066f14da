-- protocol
-- Held work is started, answered and run: what a run of several steps comes to, for every number of ticks.
use Rattle.std.specs.Prelude.{◌≡◌, ℕ, suc, ◌+◌, ◌≤◌, Bool, true, false, List, [], ◌∷◌, Some}
use Rattle.mdr_core.specs.declared.place.At.{At}
use Rattle.mdr_core.specs.Code.{Code, Codes}
use Rattle.mdr_meaning.specs.declared.wire.Wire.{Wire}
use Rattle.mdr_meaning.specs.Bodies.{started}
use Rattle.mdr_meaning.specs.Cut.{cut}
use Rattle.mdr_meaning.specs.Lives.{object_params}
use Rattle.mdr_meaning.specs.Sides.{Body, Side, Here, Locals, framed, in_here}
use Rattle.mdr_meaning.specs.Tree.{Tree}
use Rattle.mdr_meaning.specs.Values.{first_of}
use Rattle.mdr_meaning.specs.Walk.{Accesses, walk}
use Rattle.mdr_events.specs.Held.{Front, Runs, Unwinds, Comes, Enters, Fills, Born, WaitsValue, WaitsParams, WaitsObject, WaitsDeath, Item, Base, Held, tree}
use Rattle.mdr_events.specs.Ready.{IsReady, is_waiting}
use Rattle.mdr_events.specs.Steps.{holds, child, Came, Goes, Leaves, after, IsSame, Steps, Ticks}

-- ---- a function is started over whatever is held

abbrev pub started_over : Held → (func : ℕ) → Body → (args : List Wire) → (depth : ℕ) → Held
started_over h func body args depth =
    holds Enters (record { func = func; depth = suc depth; slots = body.slots; result = body.result }) (record { slots = framed body.slots args; born = [] }) body.code
    (Base h.frame h.front ∷ h.items)

-- the tree is then the function's, and behind its end what lay below
abbrev pub FunctionsAreStarted : Type 0
FunctionsAreStarted =
    (side : Side) (h : Held) (func : ℕ) (body : Body) (args : List Wire) (depth : ℕ) → side.own func ≡ Some body → (f r : ℕ) → r ≤ f
    → tree side f (started_over h func body args depth) r ≡ cut r (started side (suc f) func args depth (tree side f h r))

-- ---- a question is answered

abbrev pub answered : Front → Here → List Wire → Front
answered (WaitsValue n goal) here results = Comes n goal (first_of results)
answered (WaitsParams count) here results = Fills (object_params 0 here.slots) results
answered (WaitsObject i) here results = Born i (first_of results)
answered (WaitsDeath flow) here results = Unwinds flow
answered front here results = front

abbrev pub QuestionsAreAnswered : Type 0
QuestionsAreAnswered =
    (side : Side) (h : Held) (results : List Wire) → is_waiting h.front ≡ true → (f r : ℕ)
    → tree side f (record h { front = answered h.front h.frame.here results }) r ≡ child (tree side f h r) results

-- ---- a tick is wanted

abbrev pub is_block : Code → Bool
is_block (Code.Block body) = true
is_block _ = false

abbrev pub number_of : Code → ℕ
number_of (Code.Declare n i) = n
number_of (Code.Text n i bytes) = n
number_of (Code.Assign n p e) = n
number_of (Code.Call n goal form) = n
number_of (Code.If n e one other) = n
number_of (Code.Loop n e step body) = n
number_of (Code.Block body) = 0
number_of (Code.Return n e) = n
number_of (Code.Jump n way) = n

-- held work whose tree begins with a tick
pub record WantsTick (side : Side) (h : Held) (at : At) (depth : ℕ) : Type 0 where
  pub by : (f r : ℕ) → (t : Tree) × (tree side f h r ≡ Tree.Tick at depth t)

-- that is each statement but a block
abbrev pub StatementsWantTicks : Type 0
StatementsWantTicks =
    (side : Side) (here : Here) (l : Locals) (code : Code) (more : Codes) (items : List Item) → is_block code ≡ false
    → WantsTick side (holds Runs here l (Codes.Then code more) items) (in_here here (number_of code)) here.depth

-- ---- runs

-- a walk with so many ticks, however many more there are, comes to this with so many left, however many more there are in the tree. What is held then is ready
-- again, or open to the answers
pub record RunsTo {M : Type 0} (a : Accesses M) (side : Side) (h : Held) (m : M) (ticks : ℕ) (came : Came) (h' : Held) (m' : M) (left : ℕ) : Type 0 where
  pub fewer : left ≤ ticks
  pub by : (f n r : ℕ) → ticks + r ≤ f → walk a (ticks + n) (tree side f h (ticks + r)) m ≡ after a side f came h' m' (left + n) (left + r)
  pub leaves : IsReady h → Leaves came h'

-- runs are made of steps
pub record RunsAreMade {M : Type 0} (a : Accesses M) (side : Side) (h : Held) (m : M) (ticks : ℕ) : Type 0 where
  pub begins : RunsTo a side h m ticks Goes h m ticks
  pub same : (h1 h2 : Held) (m1 : M) (left : ℕ) → RunsTo a side h m ticks Goes h1 m1 left → IsSame side h1 h2 → RunsTo a side h m ticks Goes h2 m1 left
  pub step : (h1 h2 : Held) (m1 m2 : M) (left : ℕ) (came : Came)
      → RunsTo a side h m ticks Goes h1 m1 left → Steps a side h1 m1 came h2 m2 → RunsTo a side h m ticks came h2 m2 left
  pub tick : (h1 h2 : Held) (m1 m2 : M) (left : ℕ) (came : Came)
      → RunsTo a side h m ticks Goes h1 m1 (suc left) → Ticks a side h1 m1 came h2 m2 → RunsTo a side h m ticks came h2 m2 left
  -- and what follows a run is the run's own
  pub further : (h1 h2 : Held) (m1 m2 : M) (left left2 : ℕ) (came : Came)
      → RunsTo a side h m ticks Goes h1 m1 left → RunsTo a side h1 m1 left came h2 m2 left2 → RunsTo a side h m ticks came h2 m2 left2

abbrev pub EachRunIsMade : Type 0 → Type 0
EachRunIsMade M = (a : Accesses M) (side : Side) (h : Held) (m : M) (ticks : ℕ) → RunsAreMade a side h m ticks
