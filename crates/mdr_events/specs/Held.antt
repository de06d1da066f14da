-- protocol
-- Work that is held: what running code still has to do, as plain data, and the tree that it stands for.
use Rattle.std.specs.Prelude.{ℕ, suc, List, [], ◌∷◌}
use Rattle.mdr_core.specs.Code.{Term, Goal, Code, Codes}
use Rattle.mdr_meaning.specs.declared.wire.Wire.{Wire}
use Rattle.mdr_meaning.specs.Bodies.{means}
use Rattle.mdr_meaning.specs.Calls.{keep}
use Rattle.mdr_meaning.specs.Cut.{cut}
use Rattle.mdr_meaning.specs.Lives.{births, closes, ends, fills, object_params, param_shapes, with_object}
use Rattle.mdr_meaning.specs.Sides.{Side, Here, Locals, Flow, Next, Go, Means, in_here}
use Rattle.mdr_meaning.specs.Statements.{around, on_ends}
use Rattle.mdr_meaning.specs.Tree.{Tree}
use Rattle.mdr_meaning.specs.Values.{first_of}

-- ---- what is held

-- a function that runs: where it is, what its slots hold, and what follows in its innermost block
pub record Frame : Type 0 where
  pub here : Here
  pub locals : Locals
  pub ahead : Codes

-- what comes before the statements that follow
pub data Front : Type 0 where
  -- nothing
  Runs : Front
  -- a block, a loop or a function is left
  Unwinds : (flow : Flow) → Front
  -- the value of a call goes where the statement says
  Comes : (number : ℕ) (goal : Goal) (value : Wire) → Front
  -- a function begins: its parameters that are objects are born
  Enters : Front
  -- and are given their values
  Fills : (params : List ℕ) (pointers : List Wire) → Front
  -- the object of a local was born
  Born : (slot : ℕ) (pointer : Wire) → Front
  -- a question is open, and its answer is a call's value, so many pointers to parameters, a local's pointer, or nothing
  WaitsValue : (number : ℕ) (goal : Goal) → Front
  WaitsParams : (count : ℕ) → Front
  WaitsObject : (slot : ℕ) → Front
  WaitsDeath : (flow : Flow) → Front

-- what lies around the innermost block
pub data Item : Type 0 where
  -- what follows in the block around, which may be a loop's next turn
  Rest : (codes : Codes) → Item
  -- a block ends, and the objects of the block around that were born before it
  Scope : (outer : List Wire) → Item
  -- the body of a loop ends
  Around : (number : ℕ) (test : Term) (step body : Codes) → Item
  -- a function ends, and the statement that called it
  Caller : (outer : Frame) (number : ℕ) (goal : Goal) → Item
  -- a function ends that was started over other work
  Base : (outer : Frame) (front : Front) → Item

-- the function that runs, what comes before what follows in its innermost block, and what lies around that block, the innermost first
pub record Held : Type 0 where
  pub frame : Frame
  pub front : Front
  pub items : List Item

-- ---- the trees of held work

-- a loop with its next turn, as code
abbrev pub loop_again : ℕ → Term → (step body : Codes) → Codes
loop_again n e step body = Codes.Then (Code.Loop n e step body) Codes.End

module _ (side : Side) where
  -- given what follows in the block, and its end
  abbrev pub front_of : Front → Here → Locals → Go → Next → Tree
  front_of Runs here l go k = go l k
  front_of (Unwinds flow) here l go k = k flow l
  front_of (Comes n goal v) here l go k = keep side.known here (in_here here n) goal v l (on_ends go k)
  front_of Enters here l go k = births side here (param_shapes side.known here.slots) (λ ps. fills (in_here here 0) (object_params 0 here.slots) ps l (λ l'. go l' k))
  front_of (Fills is ps) here l go k = fills (in_here here 0) is ps l (λ l'. go l' k)
  front_of (Born i p) here l go k = go (with_object i p l) k
  front_of (WaitsValue n goal) here l go k = Tree.Waits (λ rs. keep side.known here (in_here here n) goal (first_of rs) l (on_ends go k))
  front_of (WaitsParams count) here l go k = Tree.Waits (λ ps. fills (in_here here 0) (object_params 0 here.slots) ps l (λ l'. go l' k))
  front_of (WaitsObject i) here l go k = Tree.Waits (λ ps. go (with_object i (first_of ps) l) k)
  front_of (WaitsDeath flow) here l go k = Tree.Waits (λ results. k flow l)

  -- what lies around, given the meaning of code; nothing lies around the function that was started first
  unfoldable pub carry : Means → Here → List Item → Next
  carry sem here [] = λ flow l. Tree.Idle
  carry sem here (Rest cs ∷ items) = on_ends (sem here cs) (carry sem here items)
  carry sem here (Scope outer ∷ items) = ends side here outer (carry sem here items)
  carry sem here (Around n e step body ∷ items) = around (sem here (loop_again n e step body)) (sem here step) (carry sem here items)
  carry sem here (Caller outer n goal ∷ items) =
      closes side here (λ v. keep side.known outer.here (in_here outer.here n) goal v outer.locals (on_ends (sem outer.here outer.ahead) (carry sem outer.here items)))
  carry sem here (Base outer front ∷ items) =
      closes side here (λ v. Tree.Done v (front_of front outer.here outer.locals (sem outer.here outer.ahead) (carry sem outer.here items)))

  -- the work that is held, by the meaning of code
  abbrev pub held_by : Means → Held → Tree
  held_by sem h = front_of h.front h.frame.here h.frame.locals (sem h.frame.here h.frame.ahead) (carry sem h.frame.here h.items)

  -- with fuel for so many turns of loops and calls, and one
  unfoldable pub bare : ℕ → Held → Tree
  bare f h = held_by (means side (suc f)) h

  -- up to r ticks, which are no more than the fuel
  unfoldable pub tree : ℕ → Held → ℕ → Tree
  tree f h r = cut r (bare f h)
