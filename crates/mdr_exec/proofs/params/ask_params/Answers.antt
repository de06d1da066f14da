use Rattle.std.proofs.Common.{◌∙◌, ap}
use Rattle.mdr_events.specs.Steps.{Asks}
use Rattle.mdr_exec.specs.declared.event.Outcome.TheVariants as outcome
use Rattle.mdr_exec.proofs.ParamLaws.{params_asked}
use Rattle.mdr_exec.proofs.params.ask_params.Goals as goal

pub returns : goal.returns
returns g c = λ program side asks is some.
    params_asked program c.args.machine.now g.C.Memory.accesses c.args.memory.now side c.requires c.args.shapes c.in_ok-room.room (outcome.Service c.asked_for_all.result) (ap Asks c.asked_for_all.ensures) (c.in_ok-room.ensures ∙ c.len.ensures) asks is some
