use Rattle.std.proofs.Common.{◌+◌, refl}
use Rattle.mdr_events.specs.Values.{wires_of}
use Rattle.mdr_exec.proofs.MakingLaws.{body_entered}
use Rattle.mdr_exec.proofs.call.enter_body.Goals as goal

pub returns : goal.returns
returns c =
    body_entered c.args.program.now c.args.machine.now c.args.func (wires_of c.args.args.now) c.replace-frame.new.dest c.replace-frame.result _ (c.args.machine.now.top.depth + 1) (c.args.machine.now.top.next + 1)
    c.new.result c.in_ok-slots.slots c.new-2.result c.push.new.self c.replace-frame.ensures.after refl c.replace-frame.ensures.value refl refl c.new.ensures c.new-2.ensures c.in_ok-slots.ensures c.in_ok-push.ensures.ok
