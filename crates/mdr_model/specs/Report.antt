-- believed
-- The lines of a printed report.
use Rattle.std.specs.Prelude.{ℕ, List, [], ◌∷◌, ◌++◌, Option, Some, None, codes, decimal, slice_get}
use Rattle.std.specs.Fmt.{signed_decimal}
use Rattle.mdr_core.specs.declared.value.Value.{Value}
use Rattle.mdr_core.specs.declared.value.Value.TheVariants as value
use Rattle.mdr_core.specs.declared.value.LockState.{LockState}
use Rattle.mdr_core.specs.declared.value.LockState.TheVariants.{Free, Spin, Sleep}
use Rattle.mdr_core.specs.declared.stop.StopKind.{StopKind}
use Rattle.mdr_core.specs.declared.stop.StopKind.TheVariants as stop
use Rattle.mdr_core.specs.declared.refusal.RefuseKind.{RefuseKind}
use Rattle.mdr_core.specs.declared.refusal.RefuseKind.TheVariants as refusal
use Rattle.mdr_core.specs.declared.place.At.{At}
use Rattle.mdr_core.specs.declared.program.Program.{Program}
use Rattle.mdr_core.specs.declared.program.GlobalDef.{GlobalDef}
use Rattle.mdr_core.specs.declared.program.Func.{Func}
use Rattle.mdr_model.specs.declared.outcome.Happened.{Happened}
use Rattle.mdr_model.specs.declared.outcome.Happened.TheVariants as happened
use Rattle.mdr_model.specs.declared.outcome.End.{End}
use Rattle.mdr_model.specs.declared.outcome.End.TheVariants as ends
use Rattle.mdr_model.specs.declared.outcome.Seen.{Seen}
use Rattle.mdr_model.specs.declared.outcome.Seen.TheVariants as seen
use Rattle.mdr_model.specs.Meaning.{func_at}

-- ---- names

abbrev pub name_or : Option Func → List ℕ
name_or None = []
name_or (Some f) = f.name

abbrev pub func_name : Program → ℕ → List ℕ
func_name program f = name_or (func_at program f)

abbrev pub global_name_or : Option GlobalDef → List ℕ
global_name_or None = []
global_name_or (Some g) = g.name

abbrev pub global_name : Program → ℕ → List ℕ
global_name program g = global_name_or (slice_get program.globals g)

abbrev pub stop_name : StopKind → List ℕ
stop_name stop.Null = codes "Null"
stop_name stop.Dead = codes "Dead"
stop_name stop.Bounds = codes "Bounds"
stop_name stop.Overflow = codes "Overflow"
stop_name stop.DivZero = codes "DivZero"
stop_name stop.Shift = codes "Shift"
stop_name stop.Compare = codes "Compare"
stop_name stop.BadCast = codes "BadCast"
stop_name stop.BadCall = codes "BadCall"
stop_name stop.NoValue = codes "NoValue"
stop_name stop.LockHeld = codes "LockHeld"
stop_name stop.LockFree = codes "LockFree"
stop_name stop.Depth = codes "Depth"
stop_name stop.Bug = codes "Bug"
stop_name stop.Annotation = codes "Annotation"
stop_name stop.Ticks = codes "Ticks"
stop_name stop.Atomic = codes "Atomic"

abbrev pub refusal_name : RefuseKind → List ℕ
refusal_name refusal.Short = codes "Short"
refusal_name refusal.Range = codes "Range"
refusal_name refusal.Padding = codes "Padding"
refusal_name refusal.Kind = codes "Kind"
refusal_name refusal.Trailing = codes "Trailing"
refusal_name refusal.NotAwaited = codes "NotAwaited"
refusal_name refusal.TooManyTicks = codes "TooManyTicks"
refusal_name refusal.BadPlace = codes "BadPlace"
refusal_name refusal.BadDepth = codes "BadDepth"
refusal_name refusal.NoStub = codes "NoStub"
refusal_name refusal.BadService = codes "BadService"
refusal_name refusal.BadArgs = codes "BadArgs"
refusal_name refusal.BadResult = codes "BadResult"
refusal_name refusal.BadStop = codes "BadStop"
refusal_name refusal.StillEntered = codes "StillEntered"
refusal_name refusal.RunOrder = codes "RunOrder"
refusal_name refusal.OutsideSet = codes "OutsideSet"
refusal_name refusal.UnknownSerial = codes "UnknownSerial"
refusal_name refusal.BadView = codes "BadView"
refusal_name refusal.BadValue = codes "BadValue"
refusal_name refusal.Load = codes "Load"

-- ---- values

abbrev pub lock_name : LockState → List ℕ
lock_name Free = codes "free"
lock_name Spin = codes "held"
lock_name Sleep = codes "held"

-- a value of an event
unfoldable pub value_shown : Program → Value → List ℕ
value_shown program (value.Int k n) = signed_decimal n
value_shown program value.Null = codes "null"
value_shown program (value.Ptr p) = codes "ptr"
value_shown program value.Dead = codes "dead"
value_shown program (value.Fn f) = codes "&" ++ func_name program f
value_shown program (value.Lock s) = lock_name s
value_shown program value.NoValue = codes "none"

-- an argument of a call, as the script has it: a pointer is to a global
unfoldable pub argument_shown : Program → Value → List ℕ
argument_shown program (value.Ptr p) = codes "&" ++ global_name program p.block.serial
argument_shown program (value.Int k n) = value_shown program (value.Int k n)
argument_shown program value.Null = value_shown program value.Null
argument_shown program value.Dead = value_shown program value.Dead
argument_shown program (value.Fn f) = value_shown program (value.Fn f)
argument_shown program (value.Lock s) = value_shown program (value.Lock s)
argument_shown program value.NoValue = value_shown program value.NoValue

-- a cell of an object
unfoldable pub cell_shown : Program → Seen → List ℕ
cell_shown program (seen.Int n) = signed_decimal n
cell_shown program seen.Null = codes "null"
cell_shown program seen.Dead = codes "dead"
cell_shown program (seen.At object cell) = codes "@" ++ (decimal object ++ (codes "+" ++ decimal cell))
cell_shown program (seen.Fn f) = codes "&" ++ func_name program f
cell_shown program seen.Free = codes "free"
cell_shown program seen.Held = codes "held"

-- ---- lines

abbrev pub newline : List ℕ
newline = 10 ∷ []

-- each after a blank
unfoldable pub arguments_shown : Program → List Value → List ℕ
arguments_shown program [] = []
arguments_shown program (v ∷ vs) = codes " " ++ (argument_shown program v ++ arguments_shown program vs)

unfoldable pub cells_shown : Program → List Seen → List ℕ
cells_shown program [] = []
cells_shown program (c ∷ cs) = codes " " ++ (cell_shown program c ++ cells_shown program cs)

unfoldable pub event_line : Program → Happened → List ℕ
event_line program (happened.Call name args) = codes "call " ++ (name ++ (arguments_shown program args ++ newline))
event_line program (happened.Wrote register n) = codes "W " ++ (decimal register ++ (codes " " ++ (decimal n ++ newline)))
event_line program (happened.Ret v) = codes "ret " ++ (value_shown program v ++ newline)

abbrev pub place_shown : Program → Option At → List ℕ
place_shown program None = codes "-"
place_shown program (Some at) = func_name program at.func ++ (codes " " ++ decimal at.stmt)

unfoldable pub end_line : Program → End → List ℕ
end_line program ends.Ok = codes "end ok" ++ newline
end_line program (ends.Stop kind at) = codes "stop " ++ (stop_name kind ++ (codes " at " ++ (place_shown program at ++ newline)))
end_line program (ends.Refused exchange cause number) =
    codes "refused " ++ (decimal exchange ++ (codes " " ++ (refusal_name cause ++ (codes " " ++ (decimal number ++ newline)))))
end_line program (ends.FarFault exchange) = codes "far fault " ++ (decimal exchange ++ newline)

abbrev pub count_line : List ℕ → ℕ → List ℕ
count_line word n = word ++ (decimal n ++ newline)
