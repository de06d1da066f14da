use Rattle.std.proofs.Common.{◌+◌, refl}
use Rattle.mdr_core.specs.Folds.{lvalue_of}
use Rattle.mdr_meaning.specs.Values.{wire_of}
use Rattle.mdr_exec.specs.Holding.{held_of}
use Rattle.mdr_exec.proofs.StoringLaws.{assign_goes, assign_stops}
use Rattle.mdr_exec.proofs.assign.assign.Goals as goal

pub returns-in-Ok : goal.returns-in-Ok
returns-in-Ok g c =
    assign_goes g.C.Memory.accesses c.args.program.now c.args.machine.now c.args.memory.now c.requires.runs (lvalue_of c.args.p.now) (wire_of c.args.value) c.put-done.result c.put-done.new.slots c.put-done.new.memory
    (held_of c.args.program.now c.go_on.new.machine) (c.args.machine.now.top.next + 1) c.put-done.ensures c.in-Ok.field-0 c.in-Ok.is refl (c.go_on.ensures c.args.program.now)

pub returns-in-Err : goal.returns-in-Err
returns-in-Err g c =
    assign_stops g.C.Memory.accesses c.args.program.now c.args.machine.now c.args.memory.now c.requires.runs (lvalue_of c.args.p.now) (wire_of c.args.value) c.put-done.result c.in-Err.stop c.put-done.new.slots c.put-done.new.memory
    (held_of c.args.program.now (record {
      side = c.args.machine.now.side;
      front = c.args.machine.now.front;
      top = record {
        func = c.args.machine.now.top.func;
        depth = c.args.machine.now.top.depth;
        path = c.args.machine.now.top.path;
        next = c.args.machine.now.top.next;
        slots = c.put-done.new.slots;
        born = c.args.machine.now.top.born;
      };
      below = c.args.machine.now.below;
      used = c.args.machine.now.used;
    }))
    c.put-done.ensures c.in-Err.is
