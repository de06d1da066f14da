use Rattle.std.proofs.Common.{◌-◌, ◌∙◌, ap}
use Rattle.mdr_device.specs.Machines.{advanced}
use Rattle.mdr_device.proofs.HorizonLaws.{at_most, skip_goes_on}
use Rattle.mdr_device.proofs.device.Device.pass.Goals as goal

pub overflow_sub-result-2 : goal.overflow_sub-result-2
overflow_sub-result-2 c = at_most c.horizon-calm.result c.args.ticks c.args.self.now c.horizon-calm.ensures

pub returns-clause-passed : goal.returns-clause-passed
returns-clause-passed c =
    ap (advanced (c.args.ticks - c.horizon-calm.result)) c.skip.ensures
    ∙ skip_goes_on c.horizon-calm.result c.args.ticks c.args.self.now c.horizon-calm.ensures c.if-calm-eq0.false
