use Rattle.std.proofs.Common.{◌+◌, refl}
use Rattle.mdr_events.specs.Values.{wires_of}
use Rattle.mdr_exec.proofs.ReadyLaws.{ready_started}
use Rattle.mdr_exec.proofs.StartedLaws.{starts_so}
use Rattle.mdr_exec.proofs.frame.Machine.start.Goals as goal

pub returns-clause-begins : goal.returns-clause-begins
returns-clause-begins c =
    starts_so c.args.program.now c.args.self.now c.args.func c.args.depth (wires_of c.args.args.now) c.replace-frame.new.dest c.replace-frame.result c.replace-front.new.dest c.replace-front.result (c.args.depth + 1)
    c.new.result c.in_ok-slots.slots c.new-2.result c.push.new.self c.replace-frame.ensures.after c.replace-front.ensures.after c.replace-frame.ensures.value c.replace-front.ensures.value
    refl c.new.ensures c.new-2.ensures c.in_ok-slots.ensures c.in_ok-push.ensures.ok c.requires.body.0 c.requires.body.1

pub returns-clause-ready : goal.returns-clause-ready
returns-clause-ready c =
    ready_started c.args.program.now c.args.self.now c.replace-frame.new.dest c.replace-frame.result c.replace-front.new.dest c.replace-front.result c.push.new.self c.replace-front.ensures.after c.in_ok-push.ensures.ok
