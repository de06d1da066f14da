use Rattle.mdr_exec.proofs.MachineLaws.{nothing_held}
use Rattle.mdr_exec.proofs.frame.Machine.new.Goals as goal

pub returns : goal.returns
returns c = λ program side f r. nothing_held program c.args.side c.new.result c.new-2.result c.new-3.result c.new-4.result 0 c.new.ensures c.new-4.ensures side f r
