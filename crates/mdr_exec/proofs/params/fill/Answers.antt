use Rattle.std.proofs.Common.{◌∙◌, ap, refl, sym}
use Rattle.mdr_events.specs.Values.{wires_of}
use Rattle.mdr_exec.specs.declared.event.Outcome.TheVariants as outcome
use Rattle.mdr_exec.specs.Effects.{fills_of}
use Rattle.mdr_exec.specs.Storing.{with_slots}
use Rattle.mdr_exec.proofs.ParamLaws.{params_filled, params_stopped}
use Rattle.mdr_exec.proofs.params.fill.Goals as goal

pub returns-in-Ok : goal.returns-in-Ok
returns-in-Ok g c = λ side. params_filled g.C.Memory.accesses c.args.program.now c.args.machine.now c.args.memory.now c.fill_all.new.memory c.args.pointers.now c.in_ok-params.params c.params_in.result.now c.fill_all.new.slots c.fill_all.new.born c.in_ok-done.done c.in_ok-params.ensures c.params_in.ensures (sym (ap (λ ns. fills_of g.C.Memory.accesses ns (wires_of c.args.pointers.now) (with_slots c.args.machine.now.top.slots (wires_of c.args.machine.now.top.born)) c.args.memory.now) c.as_slice.ensures) ∙ c.in_ok-done.ensures) side c.in-Ok.field-0 c.in-Ok.is

pub returns : goal.returns
returns g c = λ side. params_stopped g.C.Memory.accesses c.args.program.now c.args.machine.now c.args.memory.now c.fill_all.new.memory c.args.pointers.now c.in_ok-params.params c.params_in.result.now c.fill_all.new.slots c.fill_all.new.born c.in_ok-done.done c.in_ok-params.ensures c.params_in.ensures (sym (ap (λ ns. fills_of g.C.Memory.accesses ns (wires_of c.args.pointers.now) (with_slots c.args.machine.now.top.slots (wires_of c.args.machine.now.top.born)) c.args.memory.now) c.as_slice.ensures) ∙ c.in_ok-done.ensures) side c.in-Err.stop (outcome.Stop c.in-Err.stop (record { func = c.args.machine.now.top.func; stmt = 0 })) _ refl c.in-Err.is
