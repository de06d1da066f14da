-- believed
-- How a text is written to a sink, piece by piece.
use Rattle.std.specs.Prelude.{◌≡◌, ℕ, ◌+◌, ◌≤◌, ◌<◌, ◌⊎◌, Bool, true, false, List, [], ◌∷◌, ◌++◌, length, take, drop, Option, option_map}
use Rattle.mdr_due.specs.declared.status.Status.{Status}
use Rattle.mdr_due.specs.declared.status.Status.TheVariants as status
use Rattle.mdr_outside.specs.Count.{Rose}
use Rattle.mdr_outside.specs.declared.sink.SinkAnswer.{SinkAnswer}
use Rattle.mdr_outside.specs.declared.sink.SinkAnswer.TheVariants as sinks
use Rattle.mdr_outside.specs.declared.sink.SinkCall.{SinkCall}
use Rattle.mdr_outside.specs.Sides.{SinkSide}
use Rattle.mdr_outside.specs.Sink.{wrote}

-- ---- calls

-- a text is offered to a sink: each call offers all that is left of it, and what is left then is less by as much as was taken. There is no call more where nothing is left, or behind a call that failed; the text was taken whole or not
pub data Offers : (left : List ℕ) → List SinkCall → (whole : Bool) → Type 0 where
  all : Offers [] [] true
  fails : (left : List ℕ) → 0 < length left → Offers left (wrote left sinks.Failed ∷ []) false
  goes : (left : List ℕ) (n : ℕ) (later : List SinkCall) (whole : Bool) → 0 < n → n ≤ length left → Offers (drop n left) later whole → Offers left (wrote left (sinks.Ok n) ∷ later) whole

-- how many bytes an answer took
abbrev pub taken_by : SinkAnswer → ℕ
taken_by (sinks.Ok n) = n
taken_by sinks.Failed = 0

abbrev pub taken_in : List SinkCall → ℕ
taken_in [] = 0
taken_in (call ∷ calls) = taken_by call.answer + taken_in calls

-- ---- a text

-- so many bytes were added to what is written
abbrev pub Adds : (old new : Option (List ℕ)) → List ℕ → Type 0
Adds old new text = new ≡ option_map (λ bytes. bytes ++ text) old

-- a text is written whole
pub record IsWritten (before after : SinkSide) (text : List ℕ) : Type 0 where
  pub made : List SinkCall
  pub called : after.calls ≡ before.calls ++ made
  pub offered : Offers text made true
  pub adds : Adds before.written after.written text

-- the last call failed, and as much of the text is written as those before it took
pub record IsCutOff (before after : SinkSide) (text : List ℕ) : Type 0 where
  pub made : List SinkCall
  pub called : after.calls ≡ before.calls ++ made
  pub offered : Offers text made false
  pub within : taken_in made ≤ length text
  pub adds : Adds before.written after.written (take (taken_in made) text)
  pub rose : Rose before.faults after.faults

abbrev pub Writes : (before after : SinkSide) → List ℕ → (whole : Bool) → Type 0
Writes before after text true = IsWritten before after text
Writes before after text false = IsCutOff before after text

-- ---- calls that fail

abbrev pub AnyFailed : List SinkCall → Type 0
AnyFailed [] = ⊥
AnyFailed (call ∷ calls) = (call.answer ≡ sinks.Failed) ⊎ AnyFailed calls

-- no call follows one that failed
abbrev pub EndsWhereFailed : List SinkCall → Type 0
EndsWhereFailed [] = Unit {0}
EndsWhereFailed (call ∷ calls) = (call.answer ≡ sinks.Failed → calls ≡ []) × EndsWhereFailed calls

-- where one of the new calls failed the status is that of a write fault, and no call follows it
pub record TellsFailure (old new : List SinkCall) (s : Status) : Type 0 where
  pub made : List SinkCall
  pub called : new ≡ old ++ made
  pub failed : AnyFailed made → s ≡ status.WriteFault
  pub last : EndsWhereFailed made
