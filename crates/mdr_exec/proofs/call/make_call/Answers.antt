use Rattle.std.proofs.Common.{Ok, ◌∙◌, ap, sym}
use Rattle.mdr_events.specs.Values.{wires_of}
use Rattle.mdr_exec.specs.Halves.{calling_as}
use Rattle.mdr_exec.specs.Leaving.{here_in}
use Rattle.mdr_exec.specs.StatementSteps.{call_came}
use Rattle.mdr_exec.proofs.MakingLaws.{crossing_told}
use Rattle.mdr_exec.proofs.call.make_call.Goals as goal

pub returns-in-Crossing-clause-comes : goal.returns-in-Crossing-clause-comes
returns-in-Crossing-clause-comes c =
    crossing_told c.args.program.now c.args.machine.now c.args.at c.in-Crossing.func (wires_of c.in-Crossing.args) _ c.crossing-event.ensures
    ∙ ap (λ x. call_came (here_in c.args.program.now c.args.machine.now) c.args.at (Ok (calling_as c.args.program.now x))) (sym c.in-Crossing.is)
