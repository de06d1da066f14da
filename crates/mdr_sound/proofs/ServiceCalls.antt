-- A call of a service is one of the program.
use Rattle.std.proofs.Common.{◌≡◌, List}
use Rattle.mdr_core.specs.declared.place.Place.{Place}
use Rattle.mdr_core.specs.declared.program.Program.{Program}
use Rattle.mdr_core.specs.Typing.{Slot}
use Rattle.mdr_call.specs.declared.parts.Argument.{Argument}
use Rattle.mdr_call.specs.declared.parts.TypedCall.{TypedCall}
use Rattle.mdr_call.specs.declared.service.Service.{Service}
use Rattle.mdr_call.specs.declared.service.Service.TheVariants as service
use Rattle.mdr_call.specs.Services.{service_call}
use Rattle.mdr_faults.specs.declared.scope.Scope.{Scope}
use Rattle.mdr_faults.specs.Faults.{Right}
use Rattle.mdr_operand.specs.declared.room.LocalName.{LocalName}
use Rattle.mdr_sound.proofs.FunctionCalls.{IsKnownCall}
use Rattle.mdr_sound.proofs.GivenArguments.{AreKnownArguments}
use Rattle.mdr_sound.proofs.Allocations.{kzalloc_known, kcalloc_known}
use Rattle.mdr_sound.proofs.CallsBack.{kcall_known}
use Rattle.mdr_sound.proofs.Interrupts.{request_irq_known}
use Rattle.mdr_sound.proofs.PlainCalls.{plain_service_known}
use Rattle.mdr_sound.proofs.Printing.{printk_known}

module _ (program : Program) (slots : List Slot) (names : List LocalName) where
  pub service_call_known : (scope : Scope) (p : Place) (args : List Argument) (s : Service) (call : TypedCall) → AreKnownArguments program slots names args
      → service_call scope p args s ≡ Right call → IsKnownCall program slots names call
  unfolding service_call
  service_call_known scope p args service.Kzalloc call h e = kzalloc_known program slots names scope p call args h e
  service_call_known scope p args service.Kcalloc call h e = kcalloc_known program slots names scope p call args h e
  service_call_known scope p args service.Printk call h e = printk_known program slots names p call args h e
  service_call_known scope p args service.RequestIrq call h e = request_irq_known program slots names p call args h e
  service_call_known scope p args service.Kcall call h e = kcall_known program slots names p call args h e
  service_call_known scope p args (service.Plain s) call h e = plain_service_known program slots names p args h call s e
