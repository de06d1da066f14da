use Rattle.mdr_core.specs.Folds.{lvalue_of}
use Rattle.mdr_meaning.specs.Values.{wire_of}
use Rattle.mdr_exec.specs.Holding.{held_of}
use Rattle.mdr_exec.proofs.KeepingLaws.{goes_on, put_goes, put_stops}
use Rattle.mdr_exec.proofs.keep.put_kept.Goals as goal

pub returns-in-Ok : goal.returns-in-Ok
returns-in-Ok g c = λ v got side n known comes.
    put_goes c.args.program.now c.args.machine.now g.C.Memory.accesses c.args.memory.now side n known (lvalue_of c.args.p.now) v (wire_of c.args.value) c.put-done.result c.put-done.new.slots c.put-done.new.memory c.put-done.ensures
    c.in-Ok.field-0 c.in-Ok.is got comes

pub returns-in-Err : goal.returns-in-Err
returns-in-Err g c = λ v got side n known comes.
    put_stops c.args.program.now c.args.machine.now g.C.Memory.accesses c.args.memory.now side n known (lvalue_of c.args.p.now) v (wire_of c.args.value) c.put-done.result c.put-done.new.slots c.put-done.new.memory c.put-done.ensures
    c.in-Err.stop (held_of c.args.program.now (goes_on c.args.program.now c.args.machine.now c.args.machine.now.front c.put-done.new.slots)) c.in-Err.is got comes
