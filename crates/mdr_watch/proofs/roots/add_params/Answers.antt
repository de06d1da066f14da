use Rattle.mdr_watch.proofs.Passing.{adding_out}
use Rattle.mdr_watch.proofs.roots.add_params.Goals as goal

pub returns-then-i-args : goal.returns-then-i-args
returns-then-i-args c = adding_out c.args.roots.now c.args.params.now c.args.args.now c.loop-i.i c.loop-i.roots c.if-i-args.true c.loop-i.invariant
