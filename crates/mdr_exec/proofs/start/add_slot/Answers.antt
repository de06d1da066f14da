use Rattle.mdr_exec.proofs.StartLaws.{slot_added}
use Rattle.mdr_exec.proofs.start.add_slot.Goals as goal

pub returns : goal.returns
returns c =
    slot_added c.args.slots.now c.push.new.self c.slot_start-value.result c.args.ty.now c.args.object c.args.args.now c.len.result c.in_ok-push.ensures.ok c.slot_start-value.ensures c.len.ensures
