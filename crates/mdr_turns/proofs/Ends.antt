-- A run that ends while an upcall is open.
use Rattle.std.proofs.Common.{◌≡◌, Option, refl, sym, subst}
use Rattle.mdr_core.specs.declared.place.At.{At}
use Rattle.mdr_core.specs.declared.stop.StopKind.{StopKind}
use Rattle.mdr_model.specs.declared.outcome.End.{End}
use Rattle.mdr_model.specs.declared.outcome.End.TheVariants as ends
use Rattle.mdr_split.specs.Kernel.{then_split}
use Rattle.mdr_split.specs.State.{Kernel, Over, Pending}
use Rattle.mdr_turns.specs.declared.state.Ledger.{Ledger}
use Rattle.mdr_turns.specs.Coming.{IsLeft, IsOver}
use Rattle.mdr_turns.specs.States.{kernel_with}
use Rattle.mdr_plain.specs.World.{World}
use Rattle.mdr_whole.specs.declared.ending.Worked.{Worked}
use Rattle.mdr_whole.specs.declared.ending.Worked.TheVariants as worked
use Rattle.mdr_whole.specs.Ending.{worked_as}

pub left_same : (w : World) → IsLeft w w
left_same w = record { views = w.views; world = refl }

pub is_over : (end : End) (l : Ledger) (w left : World) → IsLeft w left → IsOver end left (Over end (kernel_with l w))
is_over end l w left h = record { kernel = kernel_with l w; is = refl; world = h }

-- work of the kernel half stopped
pub stopped_is : (e : Worked) (kind : StopKind) (at : Option At) (l : Ledger) (w before : World) (go : Kernel → Pending) → e ≡ worked.Stopped kind at → IsOver (ends.Stop kind at) w (then_split (worked_as e w) (kernel_with l before) go)
stopped_is e kind at l w before go is = subst (λ x. IsOver (ends.Stop kind at) w (then_split (worked_as x w) (kernel_with l before) go)) (sym is) (is_over (ends.Stop kind at) l w w (left_same w))
