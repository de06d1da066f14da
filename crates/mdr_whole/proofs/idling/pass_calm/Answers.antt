use Rattle.std.proofs.Common.{◌≡◌, ◌≤◌, min, arith}
use Rattle.mdr_whole.proofs.Scripts.{pass_at_once}
use Rattle.mdr_whole.proofs.idling.pass_calm.Goals as goal

pub returns-clause-passed : goal.returns-clause-passed
returns-clause-passed c = λ kernel.
    let few : c.calm_ticks-calm.result ≤ c.min-most.result = c.calm_ticks-calm.ensures.few in
    let most : c.min-most.result ≡ min c.args.ticks c.rest.result = c.min-most.ensures in
    let rest : c.rest.result ≡ c.args.world.now.world.clock.rest = c.rest.ensures in
    pass_at_once kernel c.calm_ticks-calm.result c.args.ticks c.args.world.now c.count.new.self (omega (arith, few, most)) (omega (arith, few, most, rest)) c.calm_ticks-calm.ensures.calm c.count.ensures
