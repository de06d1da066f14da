-- While the kernel half has control both halves go on to agree.
use Rattle.std.proofs.Common.{◌≡◌, ℕ, List, [], ◌∷◌, ◌∙◌}
use Rattle.mdr_holds.proofs.Kernel.{kernel_code_leaves}
use Rattle.mdr_holds.specs.Laws.{Try}
use Rattle.mdr_holds.specs.Leaving.{Later}
use Rattle.mdr_meaning.specs.Fit.{Grows, Knowledge}
use Rattle.mdr_meaning.specs.Within.{Uses}
use Rattle.mdr_model.specs.declared.memory.Cell.{Cell}
use Rattle.mdr_model.specs.Memory.{Memory}
use Rattle.mdr_model.proofs.AgreedMessages.{follows}
use Rattle.mdr_plain.specs.declared.outcome.Happened.{Happened}
use Rattle.mdr_plain.specs.Running.{interrupts}
use Rattle.mdr_plain.specs.World.{World, noted}
use Rattle.mdr_serves.proofs.Relations.{Agree, IsRight}
use Rattle.mdr_watched.specs.Driver.{Driver}
use Rattle.mdr_watched.specs.Order.{AllAreLive}
use Rattle.mdr_watched.specs.Views.{below, closed}
use Rattle.mdr_watched.specs.Watched.{kernel_of, may_not}

pub grows_on : (A B C : Knowledge) → Grows A B → Grows B C → Grows A C
grows_on A B C g h = record { stays = λ serial shape e. h.stays serial shape (g.stays serial shape e); same = h.same ∙ g.same }

-- all that was born uses functions as the driver does
pub uses_all : {d : Driver} {uses : Uses} {budget : ℕ} {K KU : Knowledge} {copy : Memory} {w : World} → Agree d uses budget K KU copy w → K.uses ≡ uses
uses_all a = a.grows.same ∙ a.uses_are

-- work of the kernel half was done
pub agree_later : (d : Driver) (uses : Uses) (budget : ℕ) (K KU : Knowledge) (copy : Memory) (w w' : World) (from : ℕ) (K' : Knowledge) → Agree d uses budget K KU copy w → Later d.program from K w K' w' → Agree d uses budget K' KU copy w'
agree_later d uses budget K KU copy w w' from K' a l = record {
  grows = grows_on KU K K' a.grows l.grows;
  uses_are = a.uses_are;
  globals = a.globals;
  holds = l.holds;
  memories = follows a.memories l.follows;
  total = l.time ∙ a.total;
}

-- an event is noted, and what else services and commands alone change
unfoldable pub agree_noted : (d : Driver) (uses : Uses) (budget : ℕ) (K KU : Knowledge) (copy : Memory) (event : Happened) (w : World) → Agree d uses budget K KU copy w → Agree d uses budget K KU copy (noted event w)
agree_noted d uses budget K KU copy event w a = record {
  grows = a.grows;
  uses_are = a.uses_are;
  globals = a.globals;
  holds = record { memory = a.holds.memory; births = a.holds.births; low = a.holds.low; views = a.holds.views; device = a.holds.device; handler = a.holds.handler };
  memories = a.memories;
  total = a.total;
}

unfoldable pub agree_counted : (d : Driver) (uses : Uses) (budget : ℕ) (K KU : Knowledge) (copy : Memory) (calls : ℕ) (w : World) → Agree d uses budget K KU copy w → Agree d uses budget K KU copy (record w { kept = record w.kept { calls = calls } })
agree_counted d uses budget K KU copy calls w a = record {
  grows = a.grows;
  uses_are = a.uses_are;
  globals = a.globals;
  holds = record { memory = a.holds.memory; births = a.holds.births; low = a.holds.low; views = a.holds.views; device = a.holds.device; handler = a.holds.handler };
  memories = a.memories;
  total = a.total;
}

below_live : (m : Memory) (views : List (List Cell)) → AllAreLive m views → AllAreLive m (below views)
below_live m [] live = live
below_live m (set ∷ sets) live = live.1

-- an upcall is over
pub agree_closed : (d : Driver) (uses : Uses) (budget : ℕ) (K KU : Knowledge) (copy : Memory) (w : World) → Agree d uses budget K KU copy w → Agree d uses budget K KU copy (closed w)
agree_closed d uses budget K KU copy w a = record {
  grows = a.grows;
  uses_are = a.uses_are;
  globals = a.globals;
  holds = record { memory = a.holds.memory; births = a.holds.births; low = a.holds.low; views = below_live w.memory w.views a.holds.views; device = a.holds.device; handler = a.holds.handler };
  memories = a.memories;
  total = a.total;
}

-- the interrupt rule is tried
pub interrupts_lead : (d : Driver) (uses : Uses) → IsRight d uses → Try d.program uses (interrupts (kernel_of d))
interrupts_lead d uses right = (kernel_code_leaves.interrupted d.program right.driver.sound uses d.kernel right.driver.kernel may_not may_not (kernel_code_leaves.may_not d.program uses) (kernel_code_leaves.may_not d.program uses)).tries
