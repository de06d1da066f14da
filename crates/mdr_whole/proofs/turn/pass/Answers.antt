use Rattle.mdr_whole.specs.Going.{side_of}
use Rattle.std.proofs.Common.{◌∙◌}
use Rattle.mdr_whole.proofs.Turns.{passed, tick_keeps, ticked_on, ticked_out}
use Rattle.mdr_whole.proofs.turn.pass.Goals as goal

pub returns-then-tick : goal.returns-then-tick
returns-then-tick c =
    ticked_on c.args.code.program.now (side_of c.args.code) c.args.at c.args.machine.now c.go.new.machine c.args.world.now c.tick.new.self c.go.new.world c.in_ok-event.event c.tick.result c.if-tick.true c.tick.ensures
    (passed c.args.code.program.now (side_of c.args.code) c.args.machine.now c.go.new.machine c.tick.new.self c.go.new.world c.in_ok-event.event _ (tick_keeps c.tick.result c.args.world.now c.tick.new.self c.tick.ensures ∙ c.requires.same) c.requires.ready c.in_ok-event.ensures.ran)

pub returns : goal.returns
returns c = ticked_out c.args.code.program.now (side_of c.args.code) c.args.at c.args.machine.now c.args.machine.now c.args.world.now c.tick.new.self c.tick.result c.requires.same c.if-tick.false c.tick.ensures
