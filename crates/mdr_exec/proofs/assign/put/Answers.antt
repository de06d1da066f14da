use Rattle.mdr_core.specs.Folds.{lvalue_of}
use Rattle.mdr_meaning.specs.Bodies.{known_of}
use Rattle.mdr_exec.proofs.StoringLaws.{slot_put, place_put}
use Rattle.mdr_exec.proofs.assign.put.Goals as goal

pub returns-in-Some : goal.returns-in-Some
returns-in-Some g c =
    slot_put g.C.Memory.accesses (known_of c.args.program.now) c.args.memory.now (lvalue_of c.args.p.now) c.slot_named.result c.in-Some.i c.args.value c.args.slots.now c.set.new.self
    c.slot_named.ensures c.in-Some.is c.set.ensures

pub returns-in-None : goal.returns-in-None
returns-in-None g c =
    place_put g.C.Memory.accesses (known_of c.args.program.now) c.args.memory.now (lvalue_of c.args.p.now) c.slot_named.result c.args.value c.args.slots.now c.as_slice.result.now c.put_at.result c.put_at.new.memory
    c.slot_named.ensures c.in-None.is c.as_slice.ensures c.put_at.ensures
