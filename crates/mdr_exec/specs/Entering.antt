-- protocol
-- A function begins.
use Rattle.std.specs.Prelude.{◌≡◌, ◌≤◌, ◌+◌, ℕ, Bool, List, [], Option, Some, None, slice_get}
use Rattle.mdr_core.specs.declared.program.Program.{Program}
use Rattle.mdr_core.specs.declared.program.Func.{Func}
use Rattle.mdr_core.specs.declared.program.Param.{Param}
use Rattle.mdr_core.specs.declared.value.Value.{Value}
use Rattle.mdr_meaning.specs.declared.shape.Shape64.{Shape64}
use Rattle.mdr_meaning.specs.declared.wire.Wire.{Wire}
use Rattle.mdr_meaning.specs.Bodies.{body_of, started}
use Rattle.mdr_meaning.specs.Cut.{cut}
use Rattle.mdr_meaning.specs.Lives.{object_params, param_shapes}
use Rattle.mdr_meaning.specs.Sides.{Side}
use Rattle.mdr_meaning.specs.Walk.{Accesses}
use Rattle.mdr_events.specs.Held.{Fills, Held, tree}
use Rattle.mdr_events.specs.Steps.{Came}
use Rattle.mdr_events.specs.Values.{wires_of}
use Rattle.mdr_exec.specs.declared.frame.Machine.{Machine}
use Rattle.mdr_exec.specs.Executing.{StepsTo}
use Rattle.mdr_exec.specs.Holding.{frame_of, held_of, slots_by}
use Rattle.mdr_exec.specs.Leaving.{here_in}

abbrev pub params_by : Option Func → List Param
params_by None = []
params_by (Some func) = func.params

-- the parameters that are objects are given their values in these
abbrev pub filling : Program → Machine → List Value → Held
filling program m pointers = record {
  frame = frame_of program m.top;
  front = Fills (object_params 0 (slots_by (slice_get program.funcs m.top.func))) (wires_of pointers);
  items = (held_of program m).items;
}

-- the shapes of the parameters that are objects
abbrev pub shapes_in : Side → Program → Machine → List Shape64
shapes_in side program m = param_shapes side.known (here_in program m).slots

-- the parameters that are objects, of which there are some, are born, where births are asked for or not
abbrev pub BearsParams : {M : Type 0} → Accesses M → Machine → M → List Shape64 → (asks : Bool) → Came → Machine → M → Type 0
BearsParams a m memory shapes asks came m' memory' =
    (program : Program) (side : Side) → side.asks ≡ asks → shapes ≡ shapes_in side program m → (shapes ≡ [] → ⊥) → StepsTo a side program m memory came m' memory'

-- a function is started over the work that a machine holds
abbrev pub StartsOver : Program → Machine → (func : ℕ) → List Wire → (depth : ℕ) → Machine → Type 0
StartsOver program m func args depth m' =
    (side : Side) → side.own func ≡ body_of program func
    → (f r : ℕ) → r ≤ f → tree side f (held_of program m') r ≡ cut r (started side (f + 1) func args depth (tree side f (held_of program m) r))
