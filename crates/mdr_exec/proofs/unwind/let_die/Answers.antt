use Rattle.std.proofs.Common.{None, Some}
use Rattle.mdr_exec.specs.Holding.{held_of}
use Rattle.mdr_exec.proofs.WentLaws.{let_die_so}
use Rattle.mdr_exec.proofs.unwind.let_die.Goals as goal

pub returns-in-None : goal.returns-in-None
returns-in-None g c =
    let_die_so g.C.Memory.accesses c.args.machine.now c.args.flow c.args.memory.now c.die.new.memory c.die.result (λ program. held_of program c.die.new.machine) None c.die.ensures.asked c.in-None.is c.die.ensures.step

pub returns-in-Some : goal.returns-in-Some
returns-in-Some g c =
    let_die_so g.C.Memory.accesses c.args.machine.now c.args.flow c.args.memory.now c.die.new.memory c.die.result (λ program. held_of program c.die.new.machine) (Some c.in-Some.pointers) c.die.ensures.asked c.in-Some.is
    c.die.ensures.step
