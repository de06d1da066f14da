-- protocol
-- One step for each statement (C99 6.7, 6.8).
use Rattle.std.specs.Prelude.{◌≡◌, ℕ, Bool, true, false, List, [], ◌∷◌, Option, Some, None, Result, Ok, Err, slice_get, slice_set}
use Rattle.mdr_core.specs.declared.place.At.{At}
use Rattle.mdr_core.specs.declared.stop.StopKind.{StopKind}
use Rattle.mdr_core.specs.Code.{Term, Lvalue, CallOf, Goal, Way, Code, Codes}
use Rattle.mdr_core.specs.Layout.{chosen, zero_value}
use Rattle.mdr_core.specs.Typing.{Slot}
use Rattle.mdr_meaning.specs.declared.wire.Wire.{Wire}
use Rattle.mdr_meaning.specs.Expressions.{slot_of}
use Rattle.mdr_meaning.specs.Lives.{asked_for, shape_of}
use Rattle.mdr_meaning.specs.Sides.{Side, Here, Locals, Ends, flow_of, framed, in_here}
use Rattle.mdr_meaning.specs.Statements.{characters}
use Rattle.mdr_meaning.specs.Values.{first_of, is_true, wire_of}
use Rattle.mdr_meaning.specs.Walk.{Accesses}
use Rattle.mdr_events.specs.Held.{Runs, Enters, Born, WaitsValue, WaitsObject, Item, Rest, Scope, Around, Caller, Held}
use Rattle.mdr_events.specs.Steps.{Left, holds, Came, Goes, Asks, Crosses, Stopped, came_by, held_after, IsSame, Ticks}
use Rattle.mdr_exec.specs.Calling.{Calling, Entering, Crossing, Asking, called_of, entered}
use Rattle.mdr_exec.specs.Effects.{Did, ended, assigned, returned_by, texts_of}
use Rattle.mdr_exec.specs.Evaluation.{value_of}

-- ---- declarations (6.7)

abbrev pub is_object : Option Slot → Bool
is_object None = false
is_object (Some s) = s.object

-- a slot is zero or null, each time it is declared
abbrev pub zeroed : ℕ → Option Slot → Locals → Locals
zeroed i None l = l
zeroed i (Some s) l = record { slots = slice_set l.slots i (wire_of (zero_value s.ty)); born = l.born }

-- ---- blocks

module _ (here : Here) (l : Locals) (more : Codes) (items : List Item) where
  -- a block is entered, and more follows it
  abbrev pub holds_block : Codes → Held
  holds_block body = holds Runs here (record { slots = l.slots; born = [] }) body (Scope l.born ∷ Rest more ∷ items)

  -- the body of a loop is
  abbrev pub holds_turn : ℕ → Term → (step body : Codes) → Held
  holds_turn n e step body = holds Runs here (record { slots = l.slots; born = [] }) body (Scope l.born ∷ Around n e step body ∷ Rest more ∷ items)

  abbrev pub branched : Codes → Codes → Result Wire StopKind → Held
  branched one other (Ok v) = holds_block (chosen (is_true v) one other)
  branched one other (Err kind) = holds Runs here l more items

  abbrev pub turned : ℕ → Term → (step body : Codes) → Result Wire StopKind → Held
  turned n e step body (Ok v) = chosen (is_true v) (holds_turn n e step body) (holds Runs here l more items)
  turned n e step body (Err kind) = holds Runs here l more items

  -- a call is made
  abbrev pub calling : ℕ → Goal → Result Calling StopKind → Held
  calling n goal (Ok (Entering f vs body)) =
      holds Enters (entered here f body) (record { slots = framed body.slots vs; born = [] }) body.code (Caller (record { here = here; locals = l; ahead = more }) n goal ∷ items)
  calling n goal (Ok (Crossing f vs)) = holds (WaitsValue n goal) here l more items
  calling n goal (Ok (Asking asked)) = holds (WaitsValue n goal) here l more items
  calling n goal (Err kind) = holds Runs here l more items

-- what comes of a call
abbrev pub call_came : Here → At → Result Calling StopKind → Came
call_came here at (Ok (Entering f vs body)) = Goes
call_came here at (Ok (Crossing f vs)) = Crosses at f vs here.depth
call_came here at (Ok (Asking asked)) = Asks asked
call_came here at (Err kind) = Stopped kind at

-- ---- the steps

module _ {M : Type 0} (a : Accesses M) (side : Side) (here : Here) (l : Locals) (more : Codes) (items : List Item) (m : M) (n : ℕ) where
  -- the statement does so much in its tick, and ends or stops
  abbrev pub IsDone : Code → Did Left M → Type 0
  IsDone code d = Ticks a side (holds Runs here l (Codes.Then code more) items) m (came_by (in_here here n) d.result) (held_after d.result here more items) d.memory

  -- its test is evaluated in its tick, and this is held for what the test comes to
  abbrev pub IsTested : Code → Term → (Result Wire StopKind → Held) → Type 0
  IsTested code e held =
      Ticks a side (holds Runs here l (Codes.Then code more) items) m (came_by (in_here here n) (value_of a m side.known l.slots e)) (held (value_of a m side.known l.slots e)) m

  pub record StatementsStep : Type 0 where
    -- 6.7, 6.7.8
    pub declares : (i : ℕ) → is_object (slice_get here.slots i) ≡ false → IsDone (Code.Declare n i) (ended Ends (zeroed i (slice_get here.slots i) l) m)
    pub births : (i : ℕ) (s : Slot) → slice_get here.slots i ≡ Some s → s.object ≡ true → side.asks ≡ false
        → Ticks a side (holds Runs here l (Codes.Then (Code.Declare n i) more) items) m Goes
        (holds (Born i (first_of (a.birth m (shape_of side.known s ∷ [])).pointers)) here l more items) (a.birth m (shape_of side.known s ∷ [])).memory
    pub asks : (i : ℕ) (s : Slot) → slice_get here.slots i ≡ Some s → s.object ≡ true → side.asks ≡ true
        → Ticks a side (holds Runs here l (Codes.Then (Code.Declare n i) more) items) m
        (Asks (asked_for 13 (in_here here 0) [] (shape_of side.known s ∷ []) [])) (holds (WaitsObject i) here l more items) m
    pub texts : (i : ℕ) (bytes : List ℕ) → IsDone (Code.Text n i bytes) (texts_of a (characters (slice_get here.slots i)) (slot_of l.slots i) 0 bytes l m)
    -- 6.8.3, 6.5.16
    pub assigns : (p : Lvalue) (e : Term) → IsDone (Code.Assign n p e) (assigned a side.known p e l m)
    pub calls : (goal : Goal) (form : CallOf)
        → Ticks a side (holds Runs here l (Codes.Then (Code.Call n goal form) more) items) m
        (call_came here (in_here here n) (called_of a side here m (in_here here n) form l.slots form.callee))
        (calling here l more items n goal (called_of a side here m (in_here here n) form l.slots form.callee)) m
    -- 6.8.4.1
    pub branches : (e : Term) (one other : Codes) → IsTested (Code.If n e one other) e (branched here l more items one other)
    -- 6.8.5
    pub turns : (e : Term) (step body : Codes) → IsTested (Code.Loop n e step body) e (turned here l more items n e step body)
    -- 6.8.2, without a tick
    pub enters : (body : Codes) → IsSame side (holds Runs here l (Codes.Then (Code.Block body) more) items) (holds_block here l more items body)
    -- 6.8.6
    pub returns : (e : Option Term) → IsDone (Code.Return n e) (returned_by a side.known e l m)
    pub jumps : (way : Way) → IsDone (Code.Jump n way) (ended (flow_of way) l m)

-- each statement takes its step, wherever it stands, on every memory
abbrev pub EachStatementSteps : Type 0 → Type 0
EachStatementSteps M =
    (a : Accesses M) (side : Side) (here : Here) (l : Locals) (more : Codes) (items : List Item) (m : M) (n : ℕ) → StatementsStep a side here l more items m n
