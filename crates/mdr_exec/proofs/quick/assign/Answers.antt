use Rattle.mdr_core.specs.Folds.{lvalue_of, term_of}
use Rattle.mdr_meaning.specs.Bodies.{known_of}
use Rattle.mdr_exec.proofs.QuickLaws.{integer_assigned, integer_given}
use Rattle.mdr_exec.proofs.quick.assign.Goals as goal

pub returns-then-put_integer-clause-done : goal.returns-then-put_integer-clause-done
returns-then-put_integer-clause-done g c = λ did.
    integer_assigned g.C.Memory.accesses c.args.program.now c.args.machine.now c.args.memory.now (lvalue_of c.args.p.now) (term_of c.args.e.now) c.in-Some.integer c.put_integer.new.slots c.put_integer.new.memory c.requires.runs
    (integer_given g.C.Memory.accesses c.args.memory.now (known_of c.args.program.now) (term_of c.args.e.now) c.integer_of.result c.as_slice.result.now c.args.machine.now.top.slots c.integer_of.ensures c.as_slice.ensures c.in-Some.integer c.in-Some.is)
    (c.put_integer.ensures.done c.if-put_integer.true)
