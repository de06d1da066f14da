-- protocol
-- What the code gives for a question, as definitions have it.
use Rattle.std.specs.Prelude.{ℕ, List, Some}
use Rattle.mdr_core.specs.declared.place.At.{At}
use Rattle.mdr_core.specs.declared.value.Value.{Value}
use Rattle.mdr_core.specs.Services as services
use Rattle.mdr_device.specs.Machines.{written}
use Rattle.mdr_events.specs.declared.event.Asked.{Asked as Question}
use Rattle.mdr_events.specs.Events.{asked_as}
use Rattle.mdr_meaning.specs.declared.wire.Wire.{Wire}
use Rattle.mdr_meaning.specs.Tree.{Asked}
use Rattle.mdr_events.specs.Values.{wires_of}
use Rattle.mdr_plain.specs.declared.outcome.Happened.TheVariants as happened
use Rattle.mdr_plain.specs.Services.{gives_none, with_device}
use Rattle.mdr_plain.specs.World.{World, Ran, Ended, Stopped, noted}
use Rattle.mdr_services.specs.declared.answer.Served.{Served}
use Rattle.mdr_services.specs.declared.answer.Served.TheVariants as served
use Rattle.mdr_services.specs.declared.service.Service.{Service}
use Rattle.mdr_services.specs.declared.service.Service.TheVariants as service

-- what a service gave, or its stop, and the state that it left
abbrev pub served_as : Served → At → World → Ran (List Wire)
served_as (served.Done vs) at w = Ended (wires_of vs) w
served_as (served.Stop kind) at w = Stopped kind (Some at) w

-- a service by its name
abbrev pub service_as : Service → services.Service
service_as service.Kzalloc = services.Kzalloc
service_as service.Kcalloc = services.Kcalloc
service_as service.Kfree = services.Kfree
service_as service.Readl = services.Readl
service_as service.Writel = services.Writel
service_as service.Printk = services.Printk
service_as service.RequestIrq = services.RequestIrq
service_as service.FreeIrq = services.FreeIrq
service_as service.Deliver = services.Deliver
service_as service.Combolock = services.Combolock
service_as service.Combounlock = services.Combounlock
service_as service.Bug = services.Bug
service_as service.Enter = services.Enter
service_as service.Leave = services.Leave

-- a question with these arguments in place of its own
abbrev pub with_args : List Wire → Asked → Asked
with_args args a = record a { args = args }

abbrev pub asked_with : List Value → Question → Asked
asked_with args q = with_args (wires_of args) (asked_as q)

-- a word was written to a register
abbrev pub was_written : (register word : ℕ) → World → Ran (List Wire)
was_written register word w = gives_none (noted (happened.Wrote register word) (with_device (written register word w.clock.device) w))
