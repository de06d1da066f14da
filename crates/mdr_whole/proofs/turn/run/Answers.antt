use Rattle.mdr_whole.specs.Going.{half_of, side_of}
use Rattle.std.proofs.Common.{le_refl}
use Rattle.mdr_whole.proofs.Turns.{began, way_begins, way_called, way_calls, way_gives, way_goes, way_keeps, way_spends}
use Rattle.mdr_whole.proofs.turn.run.Goals as goal

pub loop-turns-init : goal.loop-turns-init
loop-turns-init g c = way_begins g.B.Before.tries c.args.code.program.now (half_of c.args.code) (side_of c.args.code) c.args.machine.now c.args.world.now c.go.new.machine c.in_ok-event.event c.go.new.world
    (began c.args.code.program.now (side_of c.args.code) c.args.machine.now c.go.new.machine c.args.world.now c.go.new.world c.in_ok-event.event _ c.requires.same c.requires.ready c.in_ok-event.ensures.ran)

pub follow-requires-clause-same : goal.follow-requires-clause-same
follow-requires-clause-same g c = (c.loop-turns.invariant.at c.args.world.now.world.clock.rest (le_refl c.args.world.now.world.clock.rest)).same

pub loop-turns-preserved : goal.loop-turns-preserved
loop-turns-preserved g c =
    way_goes g.B.Before.tries c.args.code.program.now (half_of c.args.code) (side_of c.args.code) c.args.machine.now c.args.world.now c.loop-turns.machine c.follow.new.machine c.loop-turns.event c.in-Came.other c.loop-turns.world c.follow.new.world c.in_ok-next.next
    c.in-Came.is c.loop-turns.invariant c.in_ok-next.ensures

pub returns-in-Gave-clause-kept : goal.returns-in-Gave-clause-kept
returns-in-Gave-clause-kept g c =
    way_keeps g.B.Before.tries c.args.code.program.now (half_of c.args.code) (side_of c.args.code) c.args.machine.now c.args.world.now c.loop-turns.machine c.follow.new.machine c.loop-turns.event c.loop-turns.world c.follow.new.world c.in_ok-next.next
    c.in-Gave.gave c.in-Gave.is c.loop-turns.invariant c.in_ok-next.ensures

pub returns-in-Gave-clause-reached : goal.returns-in-Gave-clause-reached
returns-in-Gave-clause-reached g c =
    way_gives g.B.Before.tries c.args.code.program.now (half_of c.args.code) (side_of c.args.code) c.args.machine.now c.args.world.now c.loop-turns.machine c.follow.new.machine c.loop-turns.event c.loop-turns.world c.follow.new.world c.in_ok-next.next
    c.in-Gave.gave c.in-Gave.is c.loop-turns.invariant c.in_ok-next.ensures

pub returns-in-Gave-clause-spent : goal.returns-in-Gave-clause-spent
returns-in-Gave-clause-spent g c =
    way_spends g.B.Before.tries c.args.code.program.now (half_of c.args.code) (side_of c.args.code) c.args.machine.now c.args.world.now c.loop-turns.machine c.follow.new.machine c.loop-turns.event c.loop-turns.world c.follow.new.world c.in_ok-next.next
    c.in-Gave.gave c.in-Gave.is c.loop-turns.invariant c.in_ok-next.ensures

pub returns-in-Calls-clause-spent : goal.returns-in-Calls-clause-spent
returns-in-Calls-clause-spent g c =
    way_called g.B.Before.tries c.args.code.program.now (half_of c.args.code) (side_of c.args.code) c.args.machine.now c.args.world.now c.loop-turns.machine c.follow.new.machine c.loop-turns.event c.loop-turns.world c.follow.new.world c.in_ok-next.next
    c.in-Calls.crossing c.in-Calls.is c.loop-turns.invariant c.in_ok-next.ensures

pub returns-in-Calls-clause-kept : goal.returns-in-Calls-clause-kept
returns-in-Calls-clause-kept g c =
    (way_calls g.B.Before.tries c.args.code.program.now (half_of c.args.code) (side_of c.args.code) c.args.machine.now c.args.world.now c.loop-turns.machine c.follow.new.machine c.loop-turns.event c.loop-turns.world c.follow.new.world c.in_ok-next.next
    c.in-Calls.crossing c.in-Calls.is c.loop-turns.invariant c.in_ok-next.ensures c.args.world.now.world.clock.rest (le_refl c.args.world.now.world.clock.rest)).same

pub returns-in-Calls-clause-waits : goal.returns-in-Calls-clause-waits
returns-in-Calls-clause-waits g c =
    (way_calls g.B.Before.tries c.args.code.program.now (half_of c.args.code) (side_of c.args.code) c.args.machine.now c.args.world.now c.loop-turns.machine c.follow.new.machine c.loop-turns.event c.loop-turns.world c.follow.new.world c.in_ok-next.next
    c.in-Calls.crossing c.in-Calls.is c.loop-turns.invariant c.in_ok-next.ensures c.args.world.now.world.clock.rest (le_refl c.args.world.now.world.clock.rest)).waits

pub returns-in-Calls-clause-reached : goal.returns-in-Calls-clause-reached
returns-in-Calls-clause-reached g c = λ fuel enough.
    (way_calls g.B.Before.tries c.args.code.program.now (half_of c.args.code) (side_of c.args.code) c.args.machine.now c.args.world.now c.loop-turns.machine c.follow.new.machine c.loop-turns.event c.loop-turns.world c.follow.new.world c.in_ok-next.next
    c.in-Calls.crossing c.in-Calls.is c.loop-turns.invariant c.in_ok-next.ensures fuel enough).is

pub follow-requires-clause-left : goal.follow-requires-clause-left
follow-requires-clause-left g c = (c.loop-turns.invariant.at c.args.world.now.world.clock.rest (le_refl c.args.world.now.world.clock.rest)).left
