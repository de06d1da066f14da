use Rattle.mdr_exec.specs.Holding.{held_of}
use Rattle.mdr_exec.proofs.WentLaws.{let_die_inside, list_steps}
use Rattle.mdr_exec.proofs.unwind.leave_or_die.Goals as goal

pub returns-in_ok-push : goal.returns-in_ok-push
returns-in_ok-push g c =
    let_die_inside g.C.Memory.accesses c.args.program.now c.args.machine.now c.args.flow c.args.p c.push.new.self c.args.memory.now c.let_die.new.memory c.let_die.result (λ program. held_of program c.let_die.new.machine) c.dies_in.result
    c.in_ok-push.ensures.ok c.dies_in.ensures c.if-dies_in.true c.let_die.ensures

pub returns-in_ok-leave_list : goal.returns-in_ok-leave_list
returns-in_ok-leave_list g c = λ side same.
    list_steps g.C.Memory.accesses c.args.memory.now c.args.program.now c.args.machine.now c.args.flow c.args.p (held_of c.args.program.now c.leave_list.new.machine) c.requires c.in_ok-leave_list.ensures side
