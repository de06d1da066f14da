use Rattle.std.proofs.Common.{◌≡◌, ◌≤◌, subst, sym}
use Rattle.mdr_plain.specs.World.{advanced}
use Rattle.mdr_world.specs.Driven.{driver}
use Rattle.mdr_whole.specs.Going.{side_of}
use Rattle.mdr_whole.proofs.Turns.{none_beyond, ran_through}
use Rattle.mdr_whole.proofs.turn.run_through.Goals as goal

pub count-requires : goal.count-requires
count-requires c =
    subst (λ n. n ≤ c.go.new.world.world.clock.rest) (sym c.used.ensures)
    (none_beyond c.args.code.program.now (side_of c.args.code) c.args.machine.now c.go.new.machine c.args.world.now c.go.new.world c.in_ok-event.event c.args.ticks c.go.new.machine.used
    c.requires.few c.in_ok-event.ensures.used c.in_ok-event.ensures.ran)

pub returns : goal.returns
returns c =
    ran_through c.args.code.program.now (side_of c.args.code) c.args.machine.now c.go.new.machine c.args.world.now c.go.new.world c.count.new.self c.in_ok-event.event c.args.ticks c.go.new.machine.used
    c.requires.same c.requires.ready c.requires.few c.in_ok-event.ensures.used c.in_ok-event.ensures.ran
    (subst (λ n. c.count.new.self ≡ driver c.go.new.world.program (record c.go.new.world.world { clock = advanced n c.go.new.world.world.clock })) c.used.ensures c.count.ensures)
