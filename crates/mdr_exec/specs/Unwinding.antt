-- protocol
-- How held work goes on where no statement runs: blocks, loops and functions are left, and what comes before the statements is done.
use Rattle.std.specs.Prelude.{◌≡◌, ℕ, Bool, true, false, List, [], ◌∷◌, ◌++◌, length, Result, Ok, Err}
use Rattle.mdr_core.specs.declared.place.At.{At}
use Rattle.mdr_core.specs.declared.stop.StopKind.{StopKind}
use Rattle.mdr_core.specs.Code.{Term, Goal, Codes}
use Rattle.mdr_meaning.specs.declared.wire.Wire.{Wire}
use Rattle.mdr_meaning.specs.declared.shape.Shape64.{Shape64}
use Rattle.mdr_meaning.specs.Lives.{after_deaths, asked_for, object_params, param_shapes, returned, with_object}
use Rattle.mdr_meaning.specs.Sides.{Side, Here, Locals, Flow, Ends, Breaks, Continues, Returns, in_here}
use Rattle.mdr_meaning.specs.Walk.{Accesses}
use Rattle.mdr_events.specs.Held as held
use Rattle.mdr_events.specs.Held.{Frame, Front, Runs, Unwinds, Comes, Enters, Fills, WaitsParams, WaitsDeath, Item, Rest, Scope, Around, Caller, Base, Held, loop_again}
use Rattle.mdr_events.specs.Steps.{holds, Came, Goes, Asks, Ended, front_after, came_by, held_after, IsSame, Steps}
use Rattle.mdr_exec.specs.Effects.{keep_of, fills_of}

abbrev pub is_return : Flow → Bool
is_return (Returns v) = true
is_return flow = false

-- a return whose value points into one of the objects that died returns a dead pointer
abbrev pub flow_after : (dead : List Wire) → Flow → Flow
flow_after ps (Returns v) = Returns (after_deaths ps v)
flow_after ps flow = flow

-- ---- objects die: none, in place, or where the other half says so

abbrev pub dying_came : (asks : Bool) → At → List Wire → Came
dying_came asks at [] = Goes
dying_came false at (p ∷ ps) = Goes
dying_came true at (p ∷ ps) = Asks (asked_for 14 at (p ∷ ps) [] [])

abbrev pub dying_front : (asks : Bool) → List Wire → Flow → Front
dying_front asks [] flow = Unwinds flow
dying_front false (p ∷ ps) flow = Unwinds flow
dying_front true (p ∷ ps) flow = WaitsDeath flow

abbrev pub dying_memory : {M : Type 0} → Accesses M → (asks : Bool) → List Wire → M → M
dying_memory a asks [] m = m
dying_memory a false (p ∷ ps) m = a.death m (p ∷ ps)
dying_memory a true (p ∷ ps) m = m

-- ---- parameters that are objects are born likewise

abbrev pub entering_came : (asks : Bool) → At → List Shape64 → Came
entering_came asks at [] = Goes
entering_came false at (s ∷ shapes) = Goes
entering_came true at (s ∷ shapes) = Asks (asked_for 13 at [] (s ∷ shapes) [])

abbrev pub entering_front : {M : Type 0} → Accesses M → (asks : Bool) → List Shape64 → (params : List ℕ) → M → Front
entering_front a asks [] params m = Fills params []
entering_front a false (s ∷ shapes) params m = Fills params (a.birth m (s ∷ shapes)).pointers
entering_front a true (s ∷ shapes) params m = WaitsParams (length (s ∷ shapes))

abbrev pub entering_memory : {M : Type 0} → Accesses M → (asks : Bool) → List Shape64 → M → M
entering_memory a asks [] m = m
entering_memory a false (s ∷ shapes) m = (a.birth m (s ∷ shapes)).memory
entering_memory a true (s ∷ shapes) m = m

-- none of a function's objects is left
abbrev pub emptied : Locals → Locals
emptied l = record { slots = l.slots; born = [] }

-- the parameters are filled, and the body runs
abbrev pub filled_after : Here → Codes → List Item → Result Locals StopKind → Held
filled_after here ahead items (Ok l) = holds Runs here l ahead items
filled_after here ahead items (Err kind) = holds Runs here (record { slots = []; born = [] }) ahead items

-- ---- the steps

-- the end of a function
abbrev pub IsEnd : Item → Type 0
IsEnd (Caller outer n goal) = Unit {0}
IsEnd (Base outer front) = Unit {0}
IsEnd item = ⊥

module _ {M : Type 0} (a : Accesses M) (side : Side) (here : Here) (l : Locals) (ahead : Codes) (items : List Item) (m : M) where
  pub record WorkGoesOn : Type 0 where
    -- nothing follows in the block
    pub runs_out : IsSame side (holds Runs here l Codes.End items) (holds (Unwinds Ends) here l ahead items)
    -- what follows in the block around runs where this one ended, and is passed over where it was left
    pub rest : (flow : Flow) (codes : Codes) → IsSame side (holds (Unwinds flow) here l ahead (Rest codes ∷ items)) (holds (front_after flow) here l codes items)
    -- a block's objects die with it, and a return takes them along
    pub scope_returned : (v : Wire) (outer : List Wire)
        → IsSame side (holds (Unwinds (Returns v)) here l ahead (Scope outer ∷ items)) (holds (Unwinds (Returns v)) here (record { slots = l.slots; born = outer ++ l.born }) ahead items)
    pub scope_left : (flow : Flow) (outer : List Wire) → is_return flow ≡ false
        → Steps a side (holds (Unwinds flow) here l ahead (Scope outer ∷ items)) m (dying_came side.asks (in_here here 0) l.born)
        (holds (dying_front side.asks l.born flow) here (record { slots = l.slots; born = outer }) ahead items) (dying_memory a side.asks l.born m)
    -- a loop goes on with its step (6.8.5.3, 6.8.6.2), or is left (6.8.6.3)
    pub loop_goes_on : (n : ℕ) (e : Term) (step body : Codes)
        → IsSame side (holds (Unwinds Ends) here l ahead (Around n e step body ∷ items)) (holds Runs here l step (Rest (loop_again n e step body) ∷ items))
    pub loop_continued : (n : ℕ) (e : Term) (step body : Codes)
        → IsSame side (holds (Unwinds Continues) here l ahead (Around n e step body ∷ items)) (holds Runs here l step (Rest (loop_again n e step body) ∷ items))
    pub loop_broken : (n : ℕ) (e : Term) (step body : Codes) → IsSame side (holds (Unwinds Breaks) here l ahead (Around n e step body ∷ items)) (holds (Unwinds Ends) here l ahead items)
    pub loop_returned : (n : ℕ) (e : Term) (step body : Codes) (v : Wire)
        → IsSame side (holds (Unwinds (Returns v)) here l ahead (Around n e step body ∷ items)) (holds (Unwinds (Returns v)) here l ahead items)
    -- what is left of a function's objects dies (6.2.4), and then its caller goes on
    pub function_dies : (flow : Flow) (end : Item) → IsEnd end
        → Steps a side (holds (Unwinds flow) here l ahead (end ∷ items)) m (dying_came side.asks (in_here here 0) l.born)
        (holds (dying_front side.asks l.born (flow_after l.born flow)) here (emptied l) ahead (end ∷ items)) (dying_memory a side.asks l.born m)
    pub call_left : (flow : Flow) (outer : Frame) (n : ℕ) (goal : Goal)
        → IsSame side (holds (Unwinds flow) here (emptied l) ahead (Caller outer n goal ∷ items)) (holds (Comes n goal (returned flow)) outer.here outer.locals outer.ahead items)
    -- a function that was started ends, and the work that it was started over is as it was
    pub start_left : (flow : Flow) (outer : Frame) (front : Front)
        → Steps a side (holds (Unwinds flow) here (emptied l) ahead (Base outer front ∷ items)) m (Ended (returned flow)) (record { frame = outer; front = front; items = items }) m
    -- the value of a call goes where the statement says
    pub comes : (n : ℕ) (goal : Goal) (v : Wire)
        → Steps a side (holds (Comes n goal v) here l ahead items) m (came_by (in_here here n) (keep_of a side.known here goal v l m).result)
        (held_after (keep_of a side.known here goal v l m).result here ahead items) (keep_of a side.known here goal v l m).memory
    -- a function begins (6.9.1, paragraph 10)
    pub begins : Steps a side (holds Enters here l ahead items) m (entering_came side.asks (in_here here 0) (param_shapes side.known here.slots))
        (holds (entering_front a side.asks (param_shapes side.known here.slots) (object_params 0 here.slots) m) here l ahead items) (entering_memory a side.asks (param_shapes side.known here.slots) m)
    pub fills : (is : List ℕ) (ps : List Wire)
        → Steps a side (holds (Fills is ps) here l ahead items) m (came_by (in_here here 0) (fills_of a is ps l m).result)
        (filled_after here ahead items (fills_of a is ps l m).result) (fills_of a is ps l m).memory
    -- the object of a local was born
    pub born : (i : ℕ) (p : Wire) → IsSame side (holds (held.Born i p) here l ahead items) (holds Runs here (with_object i p l) ahead items)

abbrev pub HeldWorkGoesOn : Type 0 → Type 0
HeldWorkGoesOn M = (a : Accesses M) (side : Side) (here : Here) (l : Locals) (ahead : Codes) (items : List Item) (m : M) → WorkGoesOn a side here l ahead items m
