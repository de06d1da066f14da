-- How a driver's running code ends.
use Rattle.std.proofs.Common.{◌≡◌, ℕ, Bool, List, Option, Some}
use Rattle.mdr_core.specs.declared.place.At.{At}
use Rattle.mdr_core.specs.declared.program.Program.{Program}
use Rattle.mdr_core.specs.declared.stop.StopKind.{StopKind}
use Rattle.mdr_core.specs.declared.stop.StopKind.TheVariants as stop
use Rattle.mdr_core.specs.declared.value.Value.{Value}
use Rattle.mdr_events.specs.declared.event.Asked.{Asked as Question}
use Rattle.mdr_events.specs.declared.event.Event.TheVariants as event
use Rattle.mdr_events.specs.Events.{asked_as}
use Rattle.mdr_events.specs.Held.{Held}
use Rattle.mdr_meaning.specs.declared.wire.Wire.{Wire}
use Rattle.mdr_meaning.specs.Sides.{Side}
use Rattle.mdr_meaning.specs.Values.{wire_of}
use Rattle.mdr_model.specs.Memory.{normal}
use Rattle.mdr_plain.specs.Running.{Before, Setting}
use Rattle.mdr_plain.specs.Services.{served}
use Rattle.mdr_plain.specs.World.{World, Ran, Ended, Stopped, Work, done}
use Rattle.mdr_runs.specs.Following.{Stands, setting_by}
use Rattle.mdr_runs.proofs.EndsAnywhere.{budget_ends, service_ends, stop_ends, try_ends, value_ends}

module _ (program : Program) (half : Bool) (side : Side) (before : Before) (fuel : ℕ) (all : Ran Wire) (h : Held) where
  abbrev plainly : Setting
  plainly = setting_by program half

  -- the function that was called gave a value, as it is then
  pub values_end : (v v' : Value) (w : World) → Stands program half side before fuel all h (event.Done v) w → wire_of v' ≡ normal w.memory (wire_of v) → ◌≡◌ {A = Ran Wire} (Ended (wire_of v') w) all
  values_end v v' w s now = value_ends plainly side before fuel all h v v' w s now

  pub stops_end : (kind : StopKind) (at : At) (w : World) → Stands program half side before fuel all h (event.Stop kind at) w → ◌≡◌ {A = Ran Wire} (Stopped kind (Some at) w) all
  stops_end kind at w s = stop_ends plainly side before fuel all h kind at w s

  -- a service stopped the run
  pub services_end : (q : Question) (kind : StopKind) (w w' : World) → Stands program half side before fuel all h (event.Service q) w → ◌≡◌ {A = Ran (List Wire)} (Stopped kind (Some q.at) w') (served program (asked_as q) w)
      → ◌≡◌ {A = Ran Wire} (Stopped kind (Some q.at) w') all
  services_end q kind w w' s is = service_ends plainly side before fuel all h q kind (Some q.at) w w' s is

  -- what is tried before a tick stopped the run
  pub tries_end : (at : At) (kind : StopKind) (place : Option At) (w w' : World) → Stands program half side before fuel all h (event.TicksOut at) w → ◌≡◌ {A = Work} (Stopped kind place w') (before h.frame.here.depth w)
      → ◌≡◌ {A = Ran Wire} (Stopped kind place w') all
  tries_end at kind place w w' s tried = try_ends plainly side before fuel all h at kind place w w' s tried

  -- the budget was used
  pub budgets_end : (at : At) (w w' : World) → Stands program half side before fuel all h (event.TicksOut at) w → done w' ≡ before h.frame.here.depth w → w'.clock.rest ≡ 0
      → ◌≡◌ {A = Ran Wire} (Stopped stop.Ticks (Some at) w') all
  budgets_end at w w' s tried none = budget_ends plainly side before fuel all h at w w' s tried none
