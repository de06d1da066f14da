use Rattle.mdr_events.specs.Values.{wires_of}
use Rattle.mdr_watch.specs.Going.{program_in}
use Rattle.mdr_watch.specs.Watching.{user_side}
use Rattle.mdr_watch.proofs.Sides.{user_body, user_has_body}
use Rattle.mdr_watch.proofs.Turns.{is_started}
use Rattle.mdr_watch.proofs.upcall.started.Goals as goal

pub returns : goal.returns
returns c =
    is_started c.args.activation (wires_of c.args.args.now) c.new-machine.result c.start.new.self (λ f r. c.new-machine.ensures (program_in c.args.activation.upcall) (user_side c.args.activation.upcall) f r)
    (user_body (program_in c.args.activation.upcall) c.args.activation.upcall.watch.plan.now c.requires.fit c.args.activation.upcall.func c.requires.user) c.in_ok-start.ensures.begins c.in_ok-start.ensures.ready

pub start-requires-clause-body : goal.start-requires-clause-body
start-requires-clause-body c = user_has_body (program_in c.args.activation.upcall) c.args.activation.upcall.watch.plan.now c.requires.fit c.requires.bodies c.args.activation.upcall.func c.requires.user
