-- believed
-- What is wrong with a message: the first fault of its parts, in their order.
use Rattle.std.specs.Prelude.{ℕ, Bool, true, false, List, [], ◌∷◌, length, Option, Some, None}
use Rattle.mdr_core.specs.declared.refusal.RefuseKind.{RefuseKind}
use Rattle.mdr_meaning.specs.declared.wire.Wire.{Wire}
use Rattle.mdr_meaning.specs.declared.wire.Wire.TheVariants as wire
use Rattle.mdr_model.specs.declared.message.Run.{Run}
use Rattle.mdr_model.specs.declared.message.SetRun.{SetRun}
use Rattle.mdr_model.specs.declared.message.Fault.{Fault}
use Rattle.mdr_model.specs.Memory.{Memory, is_live}

abbrev pub fault : RefuseKind → ℕ → Fault
fault cause number = record { kind = cause; number = number }

-- a fault of this kind where a test fails
abbrev pub unless : Bool → RefuseKind → ℕ → Option Fault
unless true cause number = None
unless false cause number = Some (fault cause number)

abbrev pub or_else : Option Fault → Option Fault → Option Fault
or_else None g = g
or_else (Some f) g = Some f

-- the first fault of a list of tests
abbrev pub first_fault : List (Option Fault) → Option Fault
first_fault [] = None
first_fault (f ∷ fs) = or_else f (first_fault fs)

-- ---- values

-- a pointer's block is known
abbrev pub is_known : Memory → Wire → Bool
is_known paired (wire.Ptr p) = is_live paired p.serial
is_known paired _ = true

abbrev pub set_run_of : Run → SetRun
set_run_of r = record { serial = r.serial; first = r.first; len = length r.values }
