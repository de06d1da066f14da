use Rattle.mdr_whole.proofs.Turns.{out_goes}
use Rattle.mdr_whole.proofs.calls.run_out.Goals as goal

pub loop-turns-preserved : goal.loop-turns-preserved
loop-turns-preserved g c =
    out_goes g.B.Before.tries c.args.code c.args.went c.args.world.now.world c.loop-turns.went c.in_ok-went-in-Calls.went c.in-Calls.crossing c.in-Calls.paused c.loop-turns.world c.go_on.new.world
    c.in-Calls.is c.loop-turns.invariant c.in_ok-went-in-Calls.ensures.went c.in_ok-went-in-Calls.ensures.kept c.in_ok-went-in-Calls.ensures.waiting
