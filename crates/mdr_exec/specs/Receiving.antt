-- protocol
-- The value of a call, as it is received, and where it goes.
use Rattle.std.specs.Prelude.{◌≡◌, ℕ, Bool, true, false, Some, Result, Ok, slice_get}
use Rattle.mdr_core.specs.declared.kind.Kind.{Kind}
use Rattle.mdr_core.specs.declared.place.At.{At}
use Rattle.mdr_core.specs.declared.program.Program.{Program}
use Rattle.mdr_core.specs.declared.stop.StopKind.{StopKind}
use Rattle.mdr_core.specs.Code.{Lvalue, Goal}
use Rattle.mdr_core.specs.Conversions.{converted}
use Rattle.mdr_core.specs.Folds.{lvalue_of}
use Rattle.mdr_meaning.specs.declared.wire.Wire.{Wire}
use Rattle.mdr_meaning.specs.declared.wire.Wire.TheVariants as wire
use Rattle.mdr_meaning.specs.Bodies.{known_of, without_funcs}
use Rattle.mdr_meaning.specs.Calls.{received}
use Rattle.mdr_meaning.specs.Named.{named_type}
use Rattle.mdr_meaning.specs.Walk.{Accesses}
use Rattle.mdr_events.specs.Steps.{Came}
use Rattle.mdr_exec.specs.declared.frame.Frame.{Frame as Running}
use Rattle.mdr_exec.specs.declared.frame.Machine.{Machine}
use Rattle.mdr_exec.specs.declared.keep.Kept.{Kept}
use Rattle.mdr_exec.specs.declared.keep.Kept.TheVariants as kept
use Rattle.mdr_exec.specs.Executing.{Keeps}
use Rattle.mdr_exec.specs.Holding.{result_by, slots_by}

abbrev pub is_no_value : Wire → Bool
is_no_value wire.NoValue = true
is_no_value v = false

-- an integer at a kind
abbrev pub of_kind : Kind → Wire → Wire
of_kind kind (wire.Int l n) = wire.Int kind (converted kind n)
of_kind kind v = v

abbrev pub goal_as : Kept → Goal
goal_as kept.Nowhere = Goal.Nowhere
goal_as (kept.Into p) = Goal.Into (lvalue_of p.now)
goal_as kept.Back = Goal.Back

-- what an lvalue of a frame's function receives
abbrev pub received_as : Program → Running → Lvalue → Wire → Result Wire StopKind
received_as program f p v = received (known_of program) (named_type (without_funcs program) (slots_by (slice_get program.funcs f.func)) p) v

-- and what a function's caller does
abbrev pub received_back : Program → (func : ℕ) → Wire → Result Wire StopKind
received_back program f v = received (known_of program) (Some (result_by (slice_get program.funcs f))) v

-- a call's value goes into an lvalue, which receives this of it
abbrev pub KeepsInto : {M : Type 0} → Accesses M → Program → Machine → M → Lvalue → Wire → (At → Came) → Machine → M → Type 0
KeepsInto a program m memory p value came m' memory' = (v : Wire) → received_as program m.top p v ≡ Ok value → Keeps a program m memory (Goal.Into p) v came m' memory'
