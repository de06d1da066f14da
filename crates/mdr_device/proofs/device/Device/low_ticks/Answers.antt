use Rattle.std.proofs.Common.{◌-◌, ◌≤◌, arith}
use Rattle.mdr_device.proofs.HorizonLaws.{at_most, line_is_low}
use Rattle.mdr_device.proofs.device.Device.low_ticks.Goals as goal

pub overflow_add-result : goal.overflow_add-result
overflow_add-result c =
    let less : c.horizon.result ≤ c.args.most - 1 = at_most c.horizon.result (c.args.most - 1) c.args.self.now c.horizon.ensures in
    omega (arith, less, c.if-most-eq0.false, c.ranges.most.fits)

pub returns-clause-few : goal.returns-clause-few
returns-clause-few c =
    let less : c.horizon.result ≤ c.args.most - 1 = at_most c.horizon.result (c.args.most - 1) c.args.self.now c.horizon.ensures in
    omega (arith, less, c.if-most-eq0.false)

pub returns-clause-low : goal.returns-clause-low
returns-clause-low c = line_is_low _ c.args.self.now c.self.view_is c.if-self.false (c.args.most - 1) c.horizon.result c.horizon.ensures
