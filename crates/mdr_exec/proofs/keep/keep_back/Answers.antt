use Rattle.std.proofs.Common.{◌∙◌, ap, sym}
use Rattle.mdr_meaning.specs.Values.{wire_of}
use Rattle.mdr_events.specs.Outcomes.{wired}
use Rattle.mdr_exec.specs.Holding.{held_of}
use Rattle.mdr_exec.proofs.KeepingLaws.{back_goes, back_stops}
use Rattle.mdr_exec.proofs.keep.keep_back.Goals as goal

pub returns-in-Ok : goal.returns-in-Ok
returns-in-Ok g c = λ side n known comes.
    back_goes c.args.program.now c.args.machine.now g.C.Memory.accesses c.args.memory.now side n known (wire_of c.args.value) c.in-Ok.value (sym c.received_back.ensures ∙ ap wired c.in-Ok.is) comes

pub returns-in-Err : goal.returns-in-Err
returns-in-Err g c = λ side n known comes.
    back_stops c.args.program.now c.args.machine.now g.C.Memory.accesses c.args.memory.now side n known (wire_of c.args.value) c.in-Err.stop (held_of c.args.program.now c.args.machine.now) (sym c.received_back.ensures ∙ ap wired c.in-Err.is) comes
