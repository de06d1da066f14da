use Rattle.mdr_world.proofs.GateLaws.{deaf_is_calm, low_is_calm}
use Rattle.mdr_world.proofs.world.World.calm_ticks.Goals as goal

pub returns-then-is_heard-clause-calm : goal.returns-then-is_heard-clause-calm
returns-then-is_heard-clause-calm c = low_is_calm c.low_ticks.result _ c.args.self.now c.self.view_is c.low_ticks.ensures.low

pub returns-clause-calm : goal.returns-clause-calm
returns-clause-calm c = deaf_is_calm c.args.most _ c.args.self.now c.self.view_is c.is_heard.result c.is_heard.ensures c.if-is_heard.false
