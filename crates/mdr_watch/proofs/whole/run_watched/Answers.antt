use Rattle.mdr_meaning.specs.Bodies.{known_of}
use Rattle.mdr_watch.proofs.Alone.{none_first}
use Rattle.mdr_watch.proofs.Scripted.{ran_watched}
use Rattle.mdr_watch.proofs.whole.run_watched.Goals as goal

pub do_commands-requires-clause-alone : goal.do_commands-requires-clause-alone
do_commands-requires-clause-alone c = none_first c.args.program.now (known_of c.args.program.now) c.args.script.now c.args.ticks c.in_ok-world.world c.in_ok-world.ensures

pub returns : goal.returns
returns c =
    ran_watched c.args.program.now c.args.plan.now c.args.script.now c.args.ticks c.in_ok-world.world c.in_ok-did.did.world c.as_slice.result.now c.in_ok-did.did.worked c.in_ok-shown.shown
    c.in_ok-world.ensures c.as_slice.ensures c.in_ok-did.ensures.kept c.in_ok-did.ensures.finished c.in_ok-shown.ensures
