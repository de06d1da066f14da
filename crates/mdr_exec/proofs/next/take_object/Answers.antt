use Rattle.mdr_exec.proofs.NextLaws.{object_taken}
use Rattle.mdr_exec.proofs.next.take_object.Goals as goal

pub returns : goal.returns
returns c = object_taken c.args.machine.now c.args.slot c.args.pointer c.set.new.self c.push.new.self c.requires.born c.set.ensures c.in_ok-push.ensures.ok
