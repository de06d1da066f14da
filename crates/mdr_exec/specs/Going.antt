-- protocol
-- What a step comes to, and what a run does.
use Rattle.std.specs.Prelude.{ℕ, Option, Some, None}
use Rattle.mdr_meaning.specs.Sides.{Side}
use Rattle.mdr_meaning.specs.Walk.{Accesses}
use Rattle.mdr_events.specs.declared.event.Event.{Event}
use Rattle.mdr_events.specs.declared.event.Event.TheVariants as event
use Rattle.mdr_events.specs.Held.{Held}
use Rattle.mdr_events.specs.Running.{RunsTo, WantsTick}
use Rattle.mdr_events.specs.Steps.{Goes}
use Rattle.mdr_exec.specs.declared.event.Outcome.{Outcome}
use Rattle.mdr_exec.specs.declared.event.Outcome.TheVariants as outcome
use Rattle.mdr_exec.specs.declared.go.Ran.{Ran}
use Rattle.mdr_exec.specs.declared.go.Ran.TheVariants as ran
use Rattle.mdr_exec.specs.declared.turn.Stepped.{Stepped}
use Rattle.mdr_exec.specs.declared.turn.Stepped.TheVariants as stepped
use Rattle.mdr_exec.specs.Events.{came_with}

-- ---- steps

abbrev pub stepped_with : Option Outcome → (left : ℕ) → Stepped
stepped_with None left = stepped.Goes left
stepped_with (Some e) left = stepped.Came e left

-- what steps come to that are taken until the machine waits
abbrev pub stepped_as : Ran → Stepped
stepped_as (ran.Came e left) = stepped.Came e left
stepped_as (ran.Wants at) = stepped.Wants at

-- with so many ticks, a step comes to this
abbrev pub SteppedTo : {M : Type 0} → Accesses M → Side → Held → M → (ticks : ℕ) → Stepped → Held → M → Type 0
SteppedTo a side h m ticks (stepped.Goes left) h' m' = RunsTo a side h m ticks Goes h' m' left
SteppedTo a side h m ticks (stepped.Came e left) h' m' = RunsTo a side h m ticks (came_with e) h' m' left
SteppedTo a side h m ticks (stepped.Wants at) h' m' = RunsTo a side h m ticks Goes h' m' 0 × WantsTick side h' at h'.frame.here.depth

-- ---- runs

abbrev pub ran_as : Outcome → Event
ran_as (outcome.Done v) = event.Done v
ran_as (outcome.Cross c) = event.Cross c
ran_as (outcome.Service q) = event.Service q
ran_as (outcome.Stop kind at) = event.Stop kind at
