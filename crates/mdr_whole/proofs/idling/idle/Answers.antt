use Rattle.std.proofs.Common.{◌+◌, ◌<◌, arith}
use Rattle.mdr_whole.specs.Going.{driver_code}
use Rattle.mdr_whole.proofs.Scripts.{idles_begin, idles_end, idles_pass, idles_skip, idles_stop}
use Rattle.mdr_whole.proofs.idling.idle.Goals as goal

pub loop-passed-init : goal.loop-passed-init
loop-passed-init c = idles_begin (driver_code c.args.code) c.args.code.program.now c.args.ticks c.args.world.now c.requires.same

pub loop-passed-preserved-in-Done : goal.loop-passed-preserved-in-Done
loop-passed-preserved-in-Done c =
    let more : c.loop-passed.passed + c.pass_calm-calm.result < c.args.ticks = omega (arith, c.loop-passed-test.true, c.if-calm-eq0.true) in
    idles_pass (driver_code c.args.code) c.args.code.program.now c.args.ticks c.args.world.now (c.loop-passed.passed + c.pass_calm-calm.result) c.pass_calm-calm.new.world c.idle_tick.new.world c.in_ok-worked.worked
    more c.in-Done.is c.in_ok-worked.ensures.worked c.in_ok-worked.ensures.kept
    (idles_skip (driver_code c.args.code) c.args.code.program.now c.args.ticks c.args.world.now c.loop-passed.passed c.pass_calm-calm.result c.loop-passed.world c.pass_calm-calm.new.world c.pass_calm-calm.ensures.passed c.pass_calm-calm.ensures.kept c.loop-passed.invariant)

pub returns-in-Stopped-clause-worked : goal.returns-in-Stopped-clause-worked
returns-in-Stopped-clause-worked c =
    let more : c.loop-passed.passed + c.pass_calm-calm.result < c.args.ticks = omega (arith, c.loop-passed-test.true, c.if-calm-eq0.true) in
    idles_stop (driver_code c.args.code) c.args.code.program.now c.args.ticks c.args.world.now (c.loop-passed.passed + c.pass_calm-calm.result) c.pass_calm-calm.new.world c.idle_tick.new.world c.in_ok-worked.worked c.in-Stopped.kind c.in-Stopped.at
    more c.in-Stopped.is c.in_ok-worked.ensures.worked
    (idles_skip (driver_code c.args.code) c.args.code.program.now c.args.ticks c.args.world.now c.loop-passed.passed c.pass_calm-calm.result c.loop-passed.world c.pass_calm-calm.new.world c.pass_calm-calm.ensures.passed c.pass_calm-calm.ensures.kept c.loop-passed.invariant)

pub returns-clause-kept : goal.returns-clause-kept
returns-clause-kept c = c.loop-passed.invariant.same

pub returns-clause-worked : goal.returns-clause-worked
returns-clause-worked c = idles_end (driver_code c.args.code) c.args.code.program.now c.args.ticks c.args.world.now c.loop-passed.passed c.loop-passed.world c.loop-passed-test.false c.loop-passed.invariant
