use Rattle.mdr_whole.specs.Going.{half_of, side_of}
use Rattle.std.proofs.lemmas.Result.{IfOk-weaker}
use Rattle.mdr_runs.specs.Following.{tried_by}
use Rattle.mdr_runs.proofs.Tries.{tries_give_none}
use Rattle.mdr_whole.proofs.Turns.{calm_while, tried_on, tried_out}
use Rattle.mdr_whole.proofs.turn.tick.Goals as goal

pub returns-then-calm-gt0 : goal.returns-then-calm-gt0
returns-then-calm-gt0 g c = λ fuel all s.
    c.in_ok-event.ensures (tried_by g.B.Before.tries c.args.code.program.now (half_of c.args.code) (side_of c.args.code)) (tries_give_none g.B.Before.tries c.args.code.program.now (half_of c.args.code) (side_of c.args.code)) fuel all c.args.at
    (calm_while g.B.Before.tries c.args.code.program.now (half_of c.args.code) (side_of c.args.code) c.args.world.now.world c.calm_ticks-calm.result c.calm_ticks-calm.ensures.calm) s

pub returns-in-Done : goal.returns-in-Done
returns-in-Done g c =
    IfOk-weaker c.pass.result _ _
    (λ n h.
    tried_on g.B.Before.tries c.args.code.program.now (half_of c.args.code) (side_of c.args.code) c.args.at c.args.machine.now c.args.world.now c.active-depth.result (c.active-depth.ensures c.args.code.program.now) c.in_ok-tried.tried c.attempt.new.world c.pass.new.world c.pass.new.machine n
    c.in-Done.is c.in_ok-tried.ensures.tried h)
    c.pass.ensures

pub returns-in-Stopped : goal.returns-in-Stopped
returns-in-Stopped g c =
    tried_out g.B.Before.tries c.args.code.program.now (half_of c.args.code) (side_of c.args.code) c.args.at c.args.machine.now c.args.world.now c.active-depth.result (c.active-depth.ensures c.args.code.program.now) c.in_ok-tried.tried c.in-Stopped.kind c.in-Stopped.place c.attempt.new.world
    c.args.machine.now c.in-Stopped.is c.in_ok-tried.ensures.kept c.in_ok-tried.ensures.tried
