use Rattle.mdr_meaning.specs.Values.{wire_of}
use Rattle.mdr_exec.specs.Holding.{flow_as, held_of}
use Rattle.mdr_exec.proofs.WentLaws.{finish_steps, function_dies_at, same_steps}
use Rattle.mdr_exec.proofs.unwind.end_or_die.Goals as goal

pub returns-in-Some : goal.returns-in-Some
returns-in-Some g c = λ program side same.
    finish_steps g.C.Memory.accesses c.args.memory.now side (held_of program c.args.machine.now) (held_of program c.end_function.new.machine) (wire_of c.in-Some.value) (c.in-Some.ensures program side)

pub returns-in-None : goal.returns-in-None
returns-in-None g c = λ program side same.
    same_steps g.C.Memory.accesses c.args.memory.now side (held_of program c.args.machine.now) (held_of program c.end_function.new.machine) (c.in-None.ensures program side)

pub returns-else-is_empty : goal.returns-else-is_empty
returns-else-is_empty g c = λ program side same.
    c.let_die.ensures program side (function_dies_at c.args.machine.now (flow_as c.args.flow) c.requires.outside c.requires.started program) same
