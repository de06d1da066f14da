use Rattle.std.proofs.Common.{◌≡◌, ◌≤◌, subst, sym}
use Rattle.mdr_plain.specs.World.{advanced}
use Rattle.mdr_world.specs.Driven.{driver}
use Rattle.mdr_watch.proofs.Turns.{none_beyond, ran_through}
use Rattle.mdr_watch.proofs.turn.run_through.Goals as goal

pub count-requires : goal.count-requires
count-requires c =
    subst (λ n. n ≤ c.go.new.guarded.world.clock.rest) (sym c.used.ensures)
    (none_beyond c.args.activation c.args.machine.now c.go.new.machine c.args.guarded.now c.go.new.guarded c.in_ok-event.event c.rest-ticks.result c.go.new.machine.used
    c.requires.same c.rest-ticks.ensures c.in_ok-event.ensures.used c.in_ok-event.ensures.ran)

pub returns : goal.returns
returns c =
    ran_through c.args.activation c.args.machine.now c.go.new.machine c.args.guarded.now c.go.new.guarded c.in_ok-event.event c.rest-ticks.result c.go.new.machine.used
    c.requires.same c.rest-ticks.ensures c.in_ok-event.ensures.used c.in_ok-event.ensures.ran c.count.new.self c.requires.ready
    (subst (λ n. c.count.new.self ≡ driver c.go.new.guarded.program (record c.go.new.guarded.world { clock = advanced n c.go.new.guarded.world.clock })) c.used.ensures c.count.ensures)
