use Rattle.std.proofs.Common.{Err, Ok}
use Rattle.mdr_core.specs.Folds.{lvalue_of}
use Rattle.mdr_meaning.specs.Bodies.{known_of}
use Rattle.mdr_meaning.specs.Values.{wire_of}
use Rattle.mdr_exec.specs.Holding.{held_of}
use Rattle.mdr_exec.proofs.KeepingLaws.{into_stops, received_so}
use Rattle.mdr_exec.proofs.keep.keep_into.Goals as goal

pub returns-in-Ok : goal.returns-in-Ok
returns-in-Ok g c = λ side n known comes.
    c.put_kept.ensures (wire_of c.args.value)
    (received_so (known_of c.args.program.now) _ _ (wire_of c.args.value) c.received-kept.result (Ok c.in-Ok.value) c.received-kept.ensures c.named_type.ensures c.in-Ok.is) side n known comes

pub returns-in-Err : goal.returns-in-Err
returns-in-Err g c = λ side n known comes.
    into_stops c.args.program.now c.args.machine.now g.C.Memory.accesses c.args.memory.now side n known (lvalue_of c.args.p.now) (wire_of c.args.value) c.in-Err.stop (held_of c.args.program.now c.args.machine.now)
    (received_so (known_of c.args.program.now) _ _ (wire_of c.args.value) c.received-kept.result (Err c.in-Err.stop) c.received-kept.ensures c.named_type.ensures c.in-Err.is) comes
