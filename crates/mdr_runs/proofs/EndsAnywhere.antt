-- How running code ends, whatever stands around it.
use Rattle.std.proofs.Common.{◌≡◌, ℕ, List, [], ◌∷◌, Option, Some, sym, ◌∙◌, ap}
use Rattle.mdr_core.specs.declared.place.At.{At}
use Rattle.mdr_core.specs.declared.stop.StopKind.{StopKind}
use Rattle.mdr_core.specs.declared.stop.StopKind.TheVariants as stop
use Rattle.mdr_core.specs.declared.value.Value.{Value}
use Rattle.mdr_events.specs.declared.event.Asked.{Asked as Question}
use Rattle.mdr_events.specs.declared.event.Crossing.{Crossing as Call}
use Rattle.mdr_events.specs.declared.event.Event.TheVariants as event
use Rattle.mdr_events.specs.Events.{asked_as}
use Rattle.mdr_events.specs.Held.{Held, tree}
use Rattle.mdr_events.specs.Running.{WantsTick}
use Rattle.mdr_events.specs.Values.{wires_of}
use Rattle.mdr_meaning.specs.declared.wire.Wire.{Wire}
use Rattle.mdr_meaning.specs.Sides.{Side}
use Rattle.mdr_meaning.specs.Tree.{Tree}
use Rattle.mdr_meaning.specs.Values.{wire_of}
use Rattle.mdr_model.specs.Memory.{normal}
use Rattle.mdr_plain.specs.Running.{Before, Setting, run}
use Rattle.mdr_plain.specs.World.{World, Ran, Ended, Stopped, Work, after, counted, done, then, ticked}
use Rattle.mdr_runs.specs.Around.{StandsIn, answered_in, goes_on_in}

module _ (s : Setting) (side : Side) (before : Before) (fuel : ℕ) (all : Ran Wire) (h : Held) where
  -- the function that was called gave a value, as it is then
  pub value_ends : (v v' : Value) (w : World) → StandsIn s side before fuel all h (event.Done v) w → wire_of v' ≡ normal w.memory (wire_of v) → ◌≡◌ {A = Ran Wire} (Ended (wire_of v') w) all
  value_ends v v' w x now = ap (λ u. Ended u w) now ∙ x.is

  pub stop_ends : (kind : StopKind) (at : At) (w : World) → StandsIn s side before fuel all h (event.Stop kind at) w → ◌≡◌ {A = Ran Wire} (Stopped kind (Some at) w) all
  stop_ends kind at w x = x.is

  -- a service stopped the run
  pub service_ends : (q : Question) (kind : StopKind) (at : Option At) (w w' : World) → StandsIn s side before fuel all h (event.Service q) w → ◌≡◌ {A = Ran (List Wire)} (Stopped kind at w') (s.serves (asked_as q) w)
      → ◌≡◌ {A = Ran Wire} (Stopped kind at w') all
  service_ends q kind at w w' x is = ap (λ y. after y (answered_in s side before fuel h)) is ∙ x.is

  -- a call across stopped it
  pub crossing_ends : (c : Call) (kind : StopKind) (at : Option At) (w w' : World) → StandsIn s side before fuel all h (event.Cross c) w → ◌≡◌ {A = Ran Wire} (Stopped kind at w') (s.crosses c.at c.func (wires_of c.args) c.depth w)
      → ◌≡◌ {A = Ran Wire} (Stopped kind at w') all
  crossing_ends c kind at w w' x is = ap (λ y. after y (λ v u. answered_in s side before fuel h (v ∷ []) u)) is ∙ x.is

  -- what a wanted tick comes to
  ticks_do : (at : At) (t : Tree) (w : World) → tree side fuel h fuel ≡ Tree.Tick at h.frame.here.depth t → goes_on_in s side before fuel h w ≡ all → (x : Work) → x ≡ before h.frame.here.depth w
      → then x (λ w'. ticked (Some at) w' (run s before t)) ≡ all
  unfolding run
  ticks_do at t w begins is x tried =
      ap (λ y. then y (λ w'. ticked (Some at) w' (run s before t))) tried
      ∙ sym (ap (λ u. run s before u w) begins)
      ∙ is

  -- what is tried before a tick stopped it
  pub try_ends : (at : At) (kind : StopKind) (place : Option At) (w w' : World) → StandsIn s side before fuel all h (event.TicksOut at) w → ◌≡◌ {A = Work} (Stopped kind place w') (before h.frame.here.depth w)
      → ◌≡◌ {A = Ran Wire} (Stopped kind place w') all
  try_ends at kind place w w' x tried =
      let wanted : WantsTick side h at h.frame.here.depth = x.wants in
      ticks_do at (wanted.by fuel fuel).0 w (wanted.by fuel fuel).1 x.is (Stopped kind place w') tried

  -- the budget was used
  pub budget_ends : (at : At) (w w' : World) → StandsIn s side before fuel all h (event.TicksOut at) w → done w' ≡ before h.frame.here.depth w → w'.clock.rest ≡ 0
      → ◌≡◌ {A = Ran Wire} (Stopped stop.Ticks (Some at) w') all
  budget_ends at w w' x tried none =
      let wanted : WantsTick side h at h.frame.here.depth = x.wants in
      sym (ap (λ y. counted y (Some at) w' (run s before (wanted.by fuel fuel).0)) none)
      ∙ ticks_do at (wanted.by fuel fuel).0 w (wanted.by fuel fuel).1 x.is (done w') tried
