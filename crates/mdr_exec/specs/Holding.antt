-- protocol
-- The work that a machine holds.
use Rattle.std.specs.Prelude.{suc, ℕ, List, [], ◌∷◌, ◌++◌, reverse, Option, Some, None, slice_get, Bool, true, false, length, ◌≡◌}
use Rattle.mdr_core.specs.declared.program.Program.{Program}
use Rattle.mdr_core.specs.declared.program.Func.{Func}
use Rattle.mdr_core.specs.declared.types.Ty.{Ty}
use Rattle.mdr_core.specs.declared.types.Ty.TheVariants.{Void}
use Rattle.mdr_core.specs.declared.value.Value.{Value}
use Rattle.mdr_core.specs.Code.{Goal, Code, Codes}
use Rattle.mdr_core.specs.Typing.{Slot, slots_of}
use Rattle.mdr_meaning.specs.declared.wire.Wire.{Wire}
use Rattle.mdr_meaning.specs.Lives.{object_params}
use Rattle.mdr_meaning.specs.Sides as sides
use Rattle.mdr_meaning.specs.Sides.{Here, Locals}
use Rattle.mdr_meaning.specs.Values.{wire_of}
use Rattle.mdr_events.specs.Held.{Frame, Front, Runs, Unwinds, Comes, Enters, Fills, Born, WaitsValue, WaitsParams, WaitsObject, WaitsDeath, Item, Rest, Scope, Around, Caller, Base, Held, loop_again}
use Rattle.mdr_events.specs.Ready.{is_started}
use Rattle.mdr_events.specs.Running.{number_of}
use Rattle.mdr_events.specs.Values.{wires_of}
use Rattle.mdr_exec.specs.declared.frame.Flow.{Flow as Ended}
use Rattle.mdr_exec.specs.declared.frame.Flow.TheVariants as flow
use Rattle.mdr_exec.specs.declared.frame.Frame.{Frame as Running}
use Rattle.mdr_exec.specs.declared.frame.Front.{Front as Before}
use Rattle.mdr_exec.specs.declared.frame.Front.TheVariants as front
use Rattle.mdr_exec.specs.declared.frame.Until.{Until}
use Rattle.mdr_exec.specs.declared.frame.Until.TheVariants as until
use Rattle.mdr_exec.specs.declared.frame.Suspended.{Suspended}
use Rattle.mdr_exec.specs.declared.frame.Machine.{Machine}
use Rattle.mdr_exec.specs.declared.places.Part.{Part}
use Rattle.mdr_exec.specs.declared.places.Part.TheVariants as part
use Rattle.mdr_exec.specs.declared.places.Position.{Position}
use Rattle.mdr_exec.specs.Found.{body_codes}
use Rattle.mdr_exec.specs.Places.{behind, code_at, code_before, inner, part_of}

-- ---- ways

abbrev pub flow_as : Ended → sides.Flow
flow_as flow.Ends = sides.Ends
flow_as flow.Breaks = sides.Breaks
flow_as flow.Continues = sides.Continues
flow_as (flow.Returns v) = sides.Returns (wire_of v)

-- ---- calls

abbrev pub goal_in : Code → Goal
goal_in (Code.Call n goal form) = goal
goal_in code = Goal.Nowhere

abbrev pub number_at : Option Code → ℕ
number_at None = 0
number_at (Some code) = number_of code

abbrev pub goal_at : Option Code → Goal
goal_at None = Goal.Nowhere
goal_at (Some code) = goal_in code

-- ---- what lies around a place

-- what ends with a list of a statement that is under way
abbrev pub ends_with : Part → (outer : List Wire) → Option Code → List Item
ends_with part.Body outer (Some (Code.Loop n e step body)) = Scope outer ∷ Around n e step body ∷ []
ends_with part.Step outer (Some (Code.Loop n e step body)) = Rest (loop_again n e step body) ∷ []
ends_with part outer code = Scope outer ∷ []

-- from the outside in
unfoldable pub around : List Position → Codes → List Item → List Item
around [] cs items = items
around (p ∷ ps) cs items =
    around ps (part_of p.part (code_before cs p.next)) (ends_with p.part (wires_of p.born) (code_before cs p.next) ++ Rest (behind cs p.next) ∷ items)

-- ---- frames

abbrev pub slots_by : Option Func → List Slot
slots_by None = []
slots_by (Some func) = slots_of func

abbrev pub result_by : Option Func → Ty
result_by None = Void
result_by (Some func) = func.result

module _ (program : Program) where
  unfoldable pub here_of : (func depth : ℕ) → Here
  here_of f depth = record { func = f; depth = depth; slots = slots_by (slice_get program.funcs f); result = result_by (slice_get program.funcs f) }

  -- the innermost block of a frame
  abbrev pub block_of : Running → Codes
  block_of f = inner f.path (body_codes program f.func)

  abbrev pub frame_of : Running → Frame
  frame_of f = record { here = here_of f.func f.depth; locals = record { slots = wires_of f.slots; born = wires_of f.born }; ahead = behind (block_of f) f.next }

  -- the statement that a frame stands behind
  abbrev pub code_of_frame : Running → Option Code
  code_of_frame f = code_before (block_of f) f.next

  abbrev pub front_in : Running → Before → Front
  front_in f front.Runs = Runs
  front_in f (front.Unwinds flow) = Unwinds (flow_as flow)
  front_in f (front.Comes v) = Comes (number_at (code_of_frame f)) (goal_at (code_of_frame f)) (wire_of v)
  front_in f front.Enters = Enters
  front_in f (front.Fills ps) = Fills (object_params 0 (slots_by (slice_get program.funcs f.func))) (wires_of ps)
  front_in f (front.Born i p) = Born i (wire_of p)
  front_in f front.WaitsValue = WaitsValue (number_at (code_of_frame f)) (goal_at (code_of_frame f))
  front_in f (front.WaitsParams room) = WaitsParams (length room.items)
  front_in f (front.WaitsObject i) = WaitsObject i
  front_in f (front.WaitsDeath flow) = WaitsDeath (flow_as flow)

  abbrev pub waits_by : Running → Until → Item
  waits_by f until.Call = Caller (frame_of f) (number_at (code_of_frame f)) (goal_at (code_of_frame f))
  waits_by f (until.Started before) = Base (frame_of f) (front_in f before)

  -- the frames below, the innermost first
  unfoldable pub below_of : List Suspended → List Item
  below_of [] = []
  below_of (s ∷ ss) = waits_by s.frame s.until ∷ around s.frame.path (body_codes program s.frame.func) (below_of ss)

  unfoldable pub held_of : Machine → Held
  held_of m = record {
    frame = frame_of m.top;
    front = front_in m.top m.front;
    items = around m.top.path (body_codes program m.top.func) (below_of (reverse m.below));
  }

-- ---- a machine that waits

abbrev pub waits : Before → Bool
waits front.WaitsValue = true
waits (front.WaitsParams room) = true
waits (front.WaitsObject i) = true
waits (front.WaitsDeath flow) = true
waits _ = false

-- the answers fit the question: a pointer for each object that is born
abbrev pub FitQuestion : Before → List Value → Type 0
FitQuestion (front.WaitsParams room) results = length results ≡ length room.items
FitQuestion _ results = Unit {0}

-- a machine in which a function was started waits for such answers
pub record Takes (program : Program) (m : Machine) (results : List Value) : Type 0 where
  pub waiting : waits m.front ≡ true
  pub fit : FitQuestion m.front results
  pub started : is_started (held_of program m).items ≡ true

-- ---- a list of the statement that comes next is entered

abbrev pub list_entered : Program → Machine → Part → Held
list_entered program m part = record {
  frame = record {
    here = here_of program m.top.func m.top.depth;
    locals = record { slots = wires_of m.top.slots; born = [] };
    ahead = part_of part (code_at (block_of program m.top) m.top.next);
  };
  front = Runs;
  items =
      ends_with part (wires_of m.top.born) (code_at (block_of program m.top) m.top.next)
      ++ Rest (behind (block_of program m.top) (suc m.top.next)) ∷ (held_of program m).items;
}

-- nothing comes before the statement that comes next
abbrev pub is_running : Before → Bool
is_running front.Runs = true
is_running _ = false
