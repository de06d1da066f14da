use Rattle.std.proofs.Common.{true, false, rules}
use Rattle.std.specs.Int.{w128}
use Rattle.std.proofs.lemmas.Int.{to_z-of_z}
use Rattle.mdr_core.specs.Folds.{term_of}
use Rattle.mdr_meaning.specs.Bodies.{known_of}
use Rattle.mdr_events.specs.Integers.{integer_wire}
use Rattle.mdr_exec.specs.Holding.{held_of}
use Rattle.mdr_exec.proofs.BeginningLaws.{branch_goes}
use Rattle.mdr_exec.proofs.TurningLaws.{holding, integer_given, not_holding}
use Rattle.mdr_exec.proofs.turning.branch.Goals as goal

pub returns-in_ok-enter-in-Some-clause-done : goal.returns-in_ok-enter-in-Some-clause-done
returns-in_ok-enter-in-Some-clause-done g c = λ done.
    branch_goes c.args.program.now c.args.machine.now g.C.Memory.accesses c.args.memory.now c.requires.runs (term_of c.args.test.now) (integer_wire c.in-Some.integer) true (held_of c.args.program.now c.enter.new.machine)
    (integer_given g.C.Memory.accesses c.args.memory.now (known_of c.args.program.now) (term_of c.args.test.now) c.in-Some.integer c.as_slice.result.now c.args.machine.now.top.slots c.in-Some.ensures c.as_slice.ensures)
    (holding c.in-Some.integer c.if-integer-ne0.true) (c.in_ok-enter-in-Some.ensures.held c.args.program.now)

pub returns-in_ok-enter-in-Some-2-clause-done : goal.returns-in_ok-enter-in-Some-2-clause-done
returns-in_ok-enter-in-Some-2-clause-done g c = λ done.
    branch_goes c.args.program.now c.args.machine.now g.C.Memory.accesses c.args.memory.now c.requires.runs (term_of c.args.test.now) (integer_wire c.in-Some.integer) false (held_of c.args.program.now c.enter-else-integer-ne0.new.machine)
    (integer_given g.C.Memory.accesses c.args.memory.now (known_of c.args.program.now) (term_of c.args.test.now) c.in-Some.integer c.as_slice.result.now c.args.machine.now.top.slots c.in-Some.ensures c.as_slice.ensures)
    (not_holding c.in-Some.integer (to_z-of_z w128 c.in-Some.integer.number (search rules)) c.if-integer-ne0.false) (c.in_ok-enter-in-Some-2.ensures.held c.args.program.now)
