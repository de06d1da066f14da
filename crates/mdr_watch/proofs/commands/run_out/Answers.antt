use Rattle.mdr_watch.specs.Commanding.{finishes_in}
use Rattle.mdr_watch.proofs.Scripted.{way_begins, way_ends, way_goes}
use Rattle.mdr_watch.proofs.commands.run_out.Goals as goal

pub loop-turns-init : goal.loop-turns-init
loop-turns-init c = way_begins c.args.watch c.args.reached.went c.args.reached.world c.requires.same c.requires.alone c.requires.waiting

pub loop-turns-preserved : goal.loop-turns-preserved
loop-turns-preserved c =
    way_goes c.args.watch (finishes_in c.args.watch c.args.reached.went c.args.reached.world.world) c.loop-turns.reached.went c.loop-turns.reached.world c.loop-turns.invariant c.in-Calls.crossing c.in-Calls.paused
    c.in_ok-reached-in-Calls.reached.went c.in_ok-reached-in-Calls.reached.world c.in-Calls.is c.in_ok-reached-in-Calls.ensures.went c.in_ok-reached-in-Calls.ensures.kept c.in_ok-reached-in-Calls.ensures.alone c.in_ok-reached-in-Calls.ensures.waiting

pub returns-in-Gave-clause-gave : goal.returns-in-Gave-clause-gave
returns-in-Gave-clause-gave c =
    way_ends c.args.watch (finishes_in c.args.watch c.args.reached.went c.args.reached.world.world) c.loop-turns.reached.went c.loop-turns.reached.world c.loop-turns.invariant c.in-Gave.gave c.in-Gave.is

pub returns-in-Gave-clause-kept : goal.returns-in-Gave-clause-kept
returns-in-Gave-clause-kept c = c.loop-turns.invariant.same

pub returns-in-Gave-clause-alone : goal.returns-in-Gave-clause-alone
returns-in-Gave-clause-alone c = c.loop-turns.invariant.alone
