use Rattle.std.proofs.Common.{◌∙◌}
use Rattle.mdr_legal.proofs.Seen.{judged_there}
use Rattle.mdr_legal.proofs.replies.fault_of.Goals as goal

pub returns : goal.returns
returns c = λ k u w rest. c.reply_fault.ensures ∙ judged_there c.args.standing k u w rest c.args.reply.now
