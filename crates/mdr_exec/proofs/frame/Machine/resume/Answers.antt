use Rattle.mdr_events.specs.Values.{wires_of}
use Rattle.mdr_exec.proofs.MachineLaws.{resumed}
use Rattle.mdr_exec.proofs.ReadyLaws.{ready_answered}
use Rattle.mdr_exec.proofs.frame.Machine.resume.Goals as goal

pub returns-clause-goes_on : goal.returns-clause-goes_on
returns-clause-goes_on c = resumed c.args.self.now c.replace-front.result c.answered.result (wires_of c.args.results.now) c.replace-front.ensures.value c.answered.ensures c.requires.waiting

pub returns-clause-ready : goal.returns-clause-ready
returns-clause-ready c = ready_answered c.args.self.now c.replace-front.result c.answered.result (wires_of c.args.results.now) c.replace-front.ensures.value c.answered.ensures c.requires.waiting
